use Rattle.std.proofs.Common.{sym, subst}
use Rattle.std.specs.Prelude.{All, Contains}
use Rattle.proof_log.proofs.Linked.{stored_images_are}
use Rattle.reached_images.specs.Plans.{IsKnown}
use Rattle.smt_session.proofs.Plans.{among_all, planned}
use Rattle.smt_session.proofs.planned.plan_over.Goals as goal

pub plan_each-requires-clause-images : goal.plan_each-requires-clause-images
plan_each-requires-clause-images c =
    rw (c.in_ok-order.ensures.same, c.bits.ensures)
    (stored_images_are c.args.terms.now.nodes c.args.log.now (rw c.in_ok-order.ensures.same at c.len-from.ensures.terms.list) (rw c.in_ok-order.ensures.same at c.len-from.ensures.terms.different) c.requires.stands)

pub returns-clause-planned : goal.returns-clause-planned
returns-clause-planned c =
    planned c.args.terms.now c.plan_each.new.terms c.args.log.now c.bits.result.now c.in_ok-made.made.items c.args.roots.now c.plan_each.new.plan c.len-from.result
    (rw c.in_ok-order.ensures.same at c.in_ok-plan_each.ensures.grown) (rw c.in_ok-order.ensures.same at c.len-from.ensures.length) c.in_ok-made.ensures c.bits.ensures c.in_ok-plan_each.ensures.plan
    (among_all (IsKnown c.bits.result.now c.plan_each.new.plan) c.as_slice.result.now c.args.roots.now c.in_ok-plan_each.ensures.order
    (subst (λ l. All (Contains l) c.args.roots.now) (sym c.as_slice.ensures.value) c.in_ok-order.ensures.roots))
    (rw c.in_ok-order.ensures.same at c.in_ok-plan_each.ensures.needed) c.in_ok-plan_each.ensures.own
