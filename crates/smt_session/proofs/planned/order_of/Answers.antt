use Rattle.std.proofs.Common.{sym, subst}
use Rattle.std.specs.Prelude.{Contains}
use Rattle.std.proofs.lemmas.List.Elements.{Contains-append_right}
use Rattle.cube_tree.proofs.Resolving.{members}
use Rattle.smt_session.proofs.planned.order_of.Goals as goal

pub returns-clause-roots : goal.returns-clause-roots
returns-clause-roots c =
    members (Contains c.extend_from_slice.new.self.items) c.args.roots.now (λ u k.
    subst (λ l. Contains l u) (sym c.in_ok-extend_from_slice.ensures.items) (Contains-append_right c.steps.order.items c.args.roots.now u k))
