use Rattle.std.proofs.Common.{◌-◌, refl, sym, ap, ◌∙◌, subst, arith}
use Rattle.cdcl_loop.specs.declared.engine.Engine.{Engine}
use Rattle.cdcl_loop.specs.Engines.{IsEngine}
use Rattle.dimacs_search.proofs.Holding.{listed_none, listed_next}
use Rattle.dimacs_search.proofs.loading.list_variables.Goals as goal

pub list-requires : goal.list-requires
list-requires c = (c.variables.invariant.from_one, omega (arith, c.variables-test.true))

pub variables-init : goal.variables-init
variables-init c = record {
  engine = λ h. h;
  course = λ h. h;
  watches = refl;
  given = refl;
  from_one = omega arith;
  listed = listed_none _;
}

pub variables-preserved : goal.variables-preserved
variables-preserved c = record {
  engine = λ h. subst IsEngine (sym c.list.ensures.same) (c.variables.invariant.engine h);
  course = λ h. c.list.ensures.course (c.variables.invariant.course h);
  watches = ap (λ (e : Engine). e.watches) c.list.ensures.same ∙ c.variables.invariant.watches;
  given = ap (λ (e : Engine). e.given) c.list.ensures.same ∙ c.variables.invariant.given;
  from_one = omega arith;
  listed = listed_next c.variables.variable _ _ c.variables.invariant.from_one c.variables.invariant.listed c.in_ok-list.ensures.listed;
}

pub returns-clause-listed : goal.returns-clause-listed
returns-clause-listed c = λ x low le. c.variables.invariant.listed x low (omega (arith, le, c.variables-test.false))
