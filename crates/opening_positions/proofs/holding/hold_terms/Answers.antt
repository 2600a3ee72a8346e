use Rattle.std.proofs.lemmas.List.Elements.{All-nil}
use Rattle.opening_positions.specs.Holding.{IsTermStep, IsHeldWithBits}
use Rattle.opening_positions.proofs.Holds.{gains_none, terms_more, terms_held, all_of}
use Rattle.opening_positions.proofs.holding.hold_terms.Goals as goal

pub terms-init : goal.terms-init
terms-init c = record { gains = gains_none c.args.held.now (IsTermStep c.args.log.now.entries c.args.reached.now); all = All-nil (IsHeldWithBits c.args.log.now.entries c.args.held.now) }

pub terms-preserved : goal.terms-preserved
terms-preserved c = record {
  gains = terms_more c.args.log.now.entries c.args.reached.now c.args.held.now c.terms.held c.hold_term.new.held c.terms.term-index c.terms-test.true c.terms.invariant.gains c.in_ok-hold_term.ensures.gains;
  all = terms_held c.args.log.now.entries c.args.reached.now c.terms.held c.hold_term.new.held c.terms.term-index c.terms-test.true c.in_ok-hold_term.ensures.gains c.in_ok-hold_term.ensures.held c.terms.invariant.all;
}

pub returns-clause-all : goal.returns-clause-all
returns-clause-all c = all_of (IsHeldWithBits c.args.log.now.entries c.terms.held) c.args.reached.now c.terms.term-index c.terms-test.false c.terms.invariant.all
