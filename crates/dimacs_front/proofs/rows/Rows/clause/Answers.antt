use Rattle.std.proofs.Common.{arith}
use Rattle.dimacs_front.proofs.Tables.{rows_count}
use Rattle.dimacs_front.proofs.rows.Rows.clause.Goals as goal

pub row_of-requires-clause-ends : goal.row_of-requires-clause-ends
row_of-requires-clause-ends c = rw (c.as_slice.ensures.value, c.as_slice-2.ensures.value) c.self.invariant

pub row_of-requires-clause-within : goal.row_of-requires-clause-within
row_of-requires-clause-within c =
    let n = rows_count 0 c.self.inside.ends.items c.self.inside.literals.items in
    let h = rw (← c.self.view_is) at c.requires in
    rw c.as_slice.ensures.value (omega (arith, h, n))

pub returns : goal.returns
returns c = rw (← c.self.view_is) (rw (c.as_slice.ensures.value, c.as_slice-2.ensures.value) at c.row_of.ensures)
