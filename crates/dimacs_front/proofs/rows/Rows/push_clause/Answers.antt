use Rattle.std.proofs.Common.{◌≡◌, length, arith}
use Rattle.dimacs_front.proofs.Tables.{ends_pushed, clause_view}
use Rattle.dimacs_front.proofs.rows.Rows.push_clause.Goals as goal

pub invariant_of-self-in-Ok : goal.invariant_of-self-in-Ok
invariant_of-self-in-Ok c =
    let table = c.extend_from_slice.new.self in
    let e : c.len.result ≡ length table.items = omega (arith, c.len.ensures, table.ok.0) in
    rw (c.in-Ok.ensures.items, e, c.in_ok-extend_from_slice.ensures.items) (ends_pushed c.self.inside.ends.items c.self.inside.literals.items c.args.clause.now c.self.invariant)

pub returns-in-Ok-clause-ok : goal.returns-in-Ok-clause-ok
returns-in-Ok-clause-ok c =
    let table = c.extend_from_slice.new.self in
    let e : c.len.result ≡ length table.items = omega (arith, c.len.ensures, table.ok.0) in
    rw (← c.self.view_is, c.in-Ok.ensures.items, e, c.in_ok-extend_from_slice.ensures.items) (clause_view c.self.inside.ends.items c.self.inside.literals.items c.args.clause.now c.self.invariant (rw (← c.self.view_is) at c.requires))
