use Rattle.std.proofs.Common.{[], ◌∷◌}
use Rattle.dimacs_front.proofs.Tables.{ends_longer, push_view}
use Rattle.dimacs_front.proofs.rows.Rows.push.Goals as goal

pub invariant_of-self-2 : goal.invariant_of-self-2
invariant_of-self-2 c = rw c.in_ok-push.ensures.items (ends_longer c.self.inside.ends.items c.self.inside.literals.items (c.args.l ∷ []) c.self.invariant)

pub returns-clause-ok : goal.returns-clause-ok
returns-clause-ok c = rw (← c.self.view_is, c.in_ok-push.ensures.items) (push_view c.self.inside.ends.items c.self.inside.literals.items c.args.l c.self.invariant)
