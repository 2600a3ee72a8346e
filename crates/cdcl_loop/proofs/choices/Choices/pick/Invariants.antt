use Rattle.std.proofs.Common.{◌≡◌}
use Rattle.cdcl_loop.proofs.choices.Choices.pick.Given as goal

abbrev pub invariant-tries : goal.invariant-tries
invariant-tries l = l.self.effort ≡ l.fn.self.effort
