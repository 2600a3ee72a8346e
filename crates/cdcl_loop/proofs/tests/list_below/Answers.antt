use Rattle.std.proofs.Common.{sym, subst, arith}
use Rattle.cdcl_loop.specs.Engines.{IsEngine}
use Rattle.cdcl_loop.proofs.tests.list_below.Goals as goal

pub variables-preserved : goal.variables-preserved
variables-preserved c = record {
  engine = λ h. subst IsEngine (sym c.list.ensures.same) (c.variables.invariant.engine h);
  course = λ h. c.list.ensures.course (c.variables.invariant.course h);
  from_one = omega arith;
}
