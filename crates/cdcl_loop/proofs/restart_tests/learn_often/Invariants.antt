use Rattle.std.proofs.Common.{◌≡◌}
use Rattle.cdcl_loop.proofs.restart_tests.learn_often.Given as goal

abbrev pub invariant-rounds : goal.invariant-rounds
invariant-rounds l = l.engine ≡ record l.fn.engine { choices = l.engine.choices }
