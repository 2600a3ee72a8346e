use Rattle.std.proofs.lemmas.List.Elements.{All-nil}
use Rattle.opening_positions.specs.Holding.{IsHeldLemma, IsDecided}
use Rattle.opening_positions.proofs.Holds.{gains_none, lemmas_gain, lemmas_decided, all_of}
use Rattle.opening_positions.proofs.holding.hold_lemmas.Goals as goal

pub lemmas-init : goal.lemmas-init
lemmas-init c = record { gains = gains_none c.args.held.now (IsHeldLemma c.args.log.now.clauses c.args.makers.now c.args.lemmas.now c.args.held.now); all = All-nil (IsDecided c.args.log.now.clauses c.args.makers.now c.args.held.now) }

pub lemmas-preserved : goal.lemmas-preserved
lemmas-preserved c = record {
  gains = lemmas_gain c.args.log.now.clauses c.args.makers.now c.args.lemmas.now c.requires c.lemmas.held c.hold_where.new.held c.lemmas.at-index c.lemmas-test.true c.args.held.now c.has_lemma-wanted.result c.has_lemma-wanted.ensures c.in_ok-hold_where.ensures c.lemmas.invariant.gains;
  all = lemmas_decided c.args.log.now.clauses c.args.makers.now c.args.lemmas.now c.requires c.lemmas.held c.hold_where.new.held c.lemmas.at-index c.lemmas-test.true c.has_lemma-wanted.result c.has_lemma-wanted.ensures c.in_ok-hold_where.ensures c.lemmas.invariant.all;
}

pub returns-clause-all : goal.returns-clause-all
returns-clause-all c = all_of (IsDecided c.args.log.now.clauses c.args.makers.now c.lemmas.held) c.args.lemmas.now c.lemmas.at-index c.lemmas-test.false c.lemmas.invariant.all
