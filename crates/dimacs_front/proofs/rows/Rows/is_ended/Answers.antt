use Rattle.std.proofs.Common.{◌≡◌, length, arith}
use Rattle.dimacs_front.specs.Rows.{last_end}
use Rattle.dimacs_front.proofs.Tables.{last_start, ends_within, ended_test, dropped}
use Rattle.dimacs_front.proofs.rows.Rows.is_ended.Goals as goal

pub returns : goal.returns
returns c =
    let ends = c.self.inside.ends in
    let table = c.self.inside.literals in
    let s = last_start 0 ends.items c.start_of.result (rw c.as_slice-ends.ensures.value at c.start_of.ensures) in
    let e : c.len.result ≡ length table.items = omega (arith, c.len.ensures, table.ok.0) in
    rw (← c.self.view_is, s, e) (ended_test (last_end 0 ends.items) (length table.items) _ (ends_within 0 (length table.items) ends.items c.self.invariant).1 (dropped (last_end 0 ends.items) table.items))
