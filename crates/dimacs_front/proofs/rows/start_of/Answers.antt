use Rattle.dimacs_front.proofs.Tables.{start_zero, start_later}
use Rattle.dimacs_front.proofs.rows.start_of.Goals as goal

pub returns-then-place-eq0 : goal.returns-then-place-eq0
returns-then-place-eq0 c = start_zero c.args.ends.now c.args.place c.if-place-eq0.true

pub returns-else-place-eq0 : goal.returns-else-place-eq0
returns-else-place-eq0 c = start_later c.args.ends.now c.args.place c.if-place-eq0.false
