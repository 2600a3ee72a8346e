use Rattle.std.proofs.Common.{ℕ, ◌<◌, subst}
use Rattle.opening_positions.specs.Holding.{IsHeldMaker}
use Rattle.opening_positions.proofs.Holds.{makers_none, makers_more, makers_all}
use Rattle.opening_positions.proofs.holding.has_makers.Goals as goal

pub literals-init : goal.literals-init
literals-init c = makers_none c.args.makers.now c.args.held.now

pub literals-preserved : goal.literals-preserved
literals-preserved c =
    makers_more c.args.makers.now c.args.held.now c.args.literals.now c.literals.literal-index c.literal-item.result c.literals-test.true c.literal-item.is
    (subst (λ (x : ℕ). 0 < x) c.variable.ensures.value c.variable.ensures.positive)
    (subst (IsHeldMaker c.args.makers.now c.args.held.now) c.variable.ensures.value c.if-not-has_maker.ensures) c.literals.invariant

pub returns : goal.returns
returns c = makers_all c.args.makers.now c.args.held.now c.args.literals.now c.literals.literal-index c.literals-test.false c.literals.invariant
