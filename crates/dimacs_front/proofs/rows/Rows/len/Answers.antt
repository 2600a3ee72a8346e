use Rattle.std.proofs.Common.{arith}
use Rattle.dimacs_front.proofs.Tables.{rows_count}
use Rattle.dimacs_front.proofs.rows.Rows.len.Goals as goal

pub returns : goal.returns
returns c =
    let n = rows_count 0 c.self.inside.ends.items c.self.inside.literals.items in
    rw (← c.self.view_is) (omega (arith, c.len.ensures, c.self.inside.ends.ok.0, n))
