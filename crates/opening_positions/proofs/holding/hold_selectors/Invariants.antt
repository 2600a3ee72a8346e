use Rattle.std.proofs.Common.{take}
use Rattle.std.specs.Prelude.{All}
use Rattle.opening_positions.specs.Positions.{Gains}
use Rattle.opening_positions.specs.Holding.{IsAssertionStep, IsHeldAssertion}
use Rattle.opening_positions.proofs.holding.hold_selectors.Given as goal

abbrev pub invariant-live : goal.invariant-live
invariant-live l = record {
  gains : Gains l.fn.held (IsAssertionStep l.log.entries l.live) l.held;
  all : All (IsHeldAssertion l.log.entries l.held) (take l.assertion-index l.live);
}
