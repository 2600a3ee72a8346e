use Rattle.std.specs.Prelude.{Contains}
use Rattle.std.proofs.lemmas.List.Elements.{All-nil}
use Rattle.std.proofs.Common.{get_or}
use Rattle.opening_positions.specs.Holding.{IsHeldPair}
use Rattle.opening_positions.proofs.Holds.{gains_none, pairs_more, pairs_held, all_of}
use Rattle.opening_positions.proofs.holding.hold_equalities.Goals as goal

pub equalities-init : goal.equalities-init
equalities-init c = record { gains = gains_none c.args.held.now (IsHeldPair c.args.log.now.entries c.args.held.now); all = All-nil (λ p. IsHeldPair c.args.log.now.entries c.args.held.now p → Contains c.args.held.now p) }

pub equalities-preserved : goal.equalities-preserved
equalities-preserved c = record {
  gains = pairs_more c.args.log.now.entries c.args.held.now c.equalities.held c.hold_where.new.held (get_or c.args.equalities.now c.equalities.at-index 0) c.has_pair-wanted.result c.has_pair-wanted.ensures c.in_ok-hold_where.ensures c.equalities.invariant.gains;
  all = pairs_held c.args.log.now.entries c.args.held.now c.equalities.held c.hold_where.new.held c.args.equalities.now c.equalities.at-index c.has_pair-wanted.result c.equalities-test.true c.has_pair-wanted.ensures c.in_ok-hold_where.ensures c.equalities.invariant.gains c.equalities.invariant.all;
}

pub returns-clause-all : goal.returns-clause-all
returns-clause-all c = all_of (λ p. IsHeldPair c.args.log.now.entries c.args.held.now p → Contains c.equalities.held p) c.args.equalities.now c.equalities.at-index c.equalities-test.false c.equalities.invariant.all
