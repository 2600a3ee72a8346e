use Rattle.std.proofs.Common.{◌≡◌, length, arith}
use Rattle.dimacs_front.proofs.Tables.{ends_push, end_view}
use Rattle.dimacs_front.proofs.rows.Rows.end.Goals as goal

pub invariant_of-self-2 : goal.invariant_of-self-2
invariant_of-self-2 c =
    let table = c.self.inside.literals in
    let e : c.len.result ≡ length table.items = omega (arith, c.len.ensures, table.ok.0) in
    rw (c.in_ok-push.ensures.items, e) (ends_push 0 (length table.items) c.self.inside.ends.items c.self.invariant)

pub returns-clause-ok : goal.returns-clause-ok
returns-clause-ok c =
    let table = c.self.inside.literals in
    let e : c.len.result ≡ length table.items = omega (arith, c.len.ensures, table.ok.0) in
    rw (← c.self.view_is, c.in_ok-push.ensures.items, e) (end_view c.self.inside.ends.items table.items)
