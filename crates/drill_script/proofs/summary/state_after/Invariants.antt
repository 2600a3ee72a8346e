use Rattle.std.proofs.Common.{◌≡◌}
use Rattle.drill_script.specs.Scripts.{state_after}
use Rattle.drill_script.proofs.summary.state_after.Given as goal

abbrev pub invariant-draws : goal.invariant-draws
invariant-draws l = l.state ≡ state_after l.seed l.counter
