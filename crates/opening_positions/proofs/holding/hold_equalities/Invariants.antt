use Rattle.std.proofs.Common.{take}
use Rattle.std.specs.Prelude.{All, Contains}
use Rattle.opening_positions.specs.Positions.{Gains}
use Rattle.opening_positions.specs.Holding.{IsHeldPair}
use Rattle.opening_positions.proofs.holding.hold_equalities.Given as goal

abbrev pub invariant-equalities : goal.invariant-equalities
invariant-equalities l = record {
  gains : Gains l.fn.held (IsHeldPair l.log.entries l.held) l.held;
  all : All (λ p. IsHeldPair l.log.entries l.fn.held p → Contains l.held p) (take l.at-index l.equalities);
}
