use Rattle.std.proofs.Common.{◌≡◌}
use Rattle.cdcl_loop.proofs.choices.Choices.take_back.Given as goal

abbrev pub invariant-rows : goal.invariant-rows
invariant-rows l = l.self.effort ≡ l.fn.self.effort
