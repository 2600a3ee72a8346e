use Rattle.dimacs_front.proofs.Tables.{none_view}
use Rattle.dimacs_front.proofs.rows.Rows.new.Goals as goal

pub returns : goal.returns
returns c = rw (c.new.ensures.items, c.new-2.ensures.items) none_view
