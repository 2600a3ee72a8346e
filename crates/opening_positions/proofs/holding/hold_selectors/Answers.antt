use Rattle.std.proofs.Common.{subst, sym}
use Rattle.std.specs.Prelude.{IsSome}
use Rattle.std.proofs.lemmas.List.Elements.{All-nil}
use Rattle.scope_selectors.specs.declared.live.Live.{Live}
use Rattle.proof_log.specs.Stored.{selector_in}
use Rattle.opening_positions.specs.Holding.{IsAssertionStep, IsHeldAssertion}
use Rattle.opening_positions.proofs.Holds.{gains_none, assertion_placed, assertions_more, assertions_held, all_of}
use Rattle.opening_positions.proofs.holding.hold_selectors.Goals as goal

pub live-init : goal.live-init
live-init c = record { gains = gains_none c.args.held.now (IsAssertionStep c.args.log.now.entries c.args.live.now); all = All-nil (IsHeldAssertion c.args.log.now.entries c.args.held.now) }

pub unwrap-requires : goal.unwrap-requires
unwrap-requires c =
    assertion_placed c.args.terms.now.nodes c.args.log.now c.assertion-item.result.assertion c.selector_step_of.result c.requires.stands
    (subst (λ (a : Live). IsSome (selector_in c.args.log.now.selectors a.assertion)) (sym c.assertion-item.is) (c.requires.selectors c.live.assertion-index c.assertion-item.result c.live-test.true)) c.selector_step_of.ensures

pub live-preserved : goal.live-preserved
live-preserved c = record {
  gains =
      assertions_more c.args.log.now.entries c.args.live.now c.args.held.now c.live.held c.add.new.self c.live.assertion-index c.unwrap.result c.assertion-item.result c.selector_step_of.result
      c.live-test.true c.assertion-item.is c.unwrap.ensures c.selector_step_of.ensures c.in_ok-add.ensures.with c.live.invariant.gains;
  all =
      assertions_held c.args.log.now.entries c.args.live.now c.live.held c.add.new.self c.live.assertion-index c.unwrap.result c.assertion-item.result c.selector_step_of.result
      c.live-test.true c.assertion-item.is c.unwrap.ensures c.selector_step_of.ensures c.in_ok-add.ensures.with c.live.invariant.all;
}

pub returns-clause-all : goal.returns-clause-all
returns-clause-all c = all_of (IsHeldAssertion c.args.log.now.entries c.live.held) c.args.live.now c.live.assertion-index c.live-test.false c.live.invariant.all
