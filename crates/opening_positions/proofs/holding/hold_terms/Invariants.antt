use Rattle.std.proofs.Common.{take}
use Rattle.std.specs.Prelude.{All}
use Rattle.opening_positions.specs.Positions.{Gains}
use Rattle.opening_positions.specs.Holding.{IsTermStep, IsHeldWithBits}
use Rattle.opening_positions.proofs.holding.hold_terms.Given as goal

abbrev pub invariant-terms : goal.invariant-terms
invariant-terms l = record {
  gains : Gains l.fn.held (IsTermStep l.log.entries l.reached) l.held;
  all : All (IsHeldWithBits l.log.entries l.held) (take l.term-index l.reached);
}
