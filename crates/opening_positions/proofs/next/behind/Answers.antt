use Rattle.std.proofs.Common.{ℕ, ◌<◌, subst, sym}
use Rattle.opening_positions.proofs.Behind.{behind_none, behind_more, behind_all}
use Rattle.opening_positions.proofs.next.behind.Goals as goal

pub literals-init : goal.literals-init
literals-init c = behind_none c.args.next

pub literals-preserved : goal.literals-preserved
literals-preserved c =
    behind_more c.args.literals.now c.literals.literal-index c.args.next c.literals.found c.above-found.result c.literal-item.result c.literals-test.true c.literal-item.is
    c.above-found.ensures.kept (subst (λ (x : ℕ). x < c.above-found.result) c.variable.ensures.value c.above-found.ensures.own)
    (λ k a b. c.above-found.ensures.lowest k a (subst (λ (x : ℕ). x < k) (sym c.variable.ensures.value) b)) c.literals.invariant

pub returns : goal.returns
returns c = behind_all c.args.literals.now c.literals.literal-index c.args.next c.literals.found c.literals-test.false c.literals.invariant
