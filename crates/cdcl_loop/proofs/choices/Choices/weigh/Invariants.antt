use Rattle.std.proofs.Common.{◌≡◌}
use Rattle.cdcl_loop.specs.Counts.{with_conflict}
use Rattle.cdcl_loop.proofs.choices.Choices.weigh.Given as goal

abbrev pub invariant-hints : goal.invariant-hints
invariant-hints l = l.self.effort ≡ with_conflict l.fn.self.effort
