use Rattle.std.proofs.Common.{◌≡◌}
use Rattle.cdcl_loop.proofs.choices.Choices.worth.Given as goal

abbrev pub invariant-literals : goal.invariant-literals
invariant-literals l = l.self.effort ≡ l.fn.self.effort
