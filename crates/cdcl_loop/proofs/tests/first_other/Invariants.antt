use Rattle.cdcl_loop.specs.Engines.{IsEngine}
use Rattle.cdcl_loop.proofs.tests.first_other.Given as goal

abbrev pub invariant-rows : goal.invariant-rows
invariant-rows l = IsEngine l.engine
