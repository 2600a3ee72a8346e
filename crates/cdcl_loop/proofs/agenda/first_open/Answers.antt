use Rattle.std.proofs.Common.{length, ap, arith}
use Rattle.cdcl_core.specs.Search.{literals_of, level_of}
use Rattle.cdcl_loop.proofs.Agendas.{variable_at, unset_at, valued_more}
use Rattle.cdcl_loop.proofs.agenda.first_open.Goals as goal

pub new-literal-requires-clause-from_one : goal.new-literal-requires-clause-from_one
new-literal-requires-clause-from_one c = (variable_at c.args.list.now c.as_slice-variables.result.now c.places.place c.as_slice-variables.ensures.items (omega (arith, c.places-test.true)) c.as_slice-variables.ensures.variables).0

pub new-literal-requires-clause-bound : goal.new-literal-requires-clause-bound
new-literal-requires-clause-bound c = (variable_at c.args.list.now c.as_slice-variables.result.now c.places.place c.as_slice-variables.ensures.items (omega (arith, c.places-test.true)) c.as_slice-variables.ensures.variables).1

pub places-init : goal.places-init
places-init c = λ k le lt. absurd (omega (arith, le, lt))

pub returns-in_default-clause-end : goal.returns-in_default-clause-end
returns-in_default-clause-end c = omega (arith, c.places-test.true, ap length c.as_slice-variables.ensures.items)

pub returns-in_default-clause-unset : goal.returns-in_default-clause-unset
returns-in_default-clause-unset c = λ l lt e.
    unset_at (literals_of c.args.trail.now) (level_of c.args.trail.now) c.places.place c.args.list.now c.as_slice-variables.result.now c.new-literal.result
    c.as_slice-variables.ensures.items c.new-literal.ensures c.in_default.ensures l e

pub places-preserved : goal.places-preserved
places-preserved c =
    valued_more (literals_of c.args.trail.now) (level_of c.args.trail.now) c.places.place c.args.list.now c.as_slice-variables.result.now c.new-literal.result
    c.as_slice-variables.ensures.items c.new-literal.ensures c.args.start c.in-Some.field-0 c.in-Some.ensures c.places.invariant

pub returns-clause-end : goal.returns-clause-end
returns-clause-end c = omega (arith, ap length c.as_slice-variables.ensures.items)

pub returns-clause-valued : goal.returns-clause-valued
returns-clause-valued c = λ k le lt. c.places.invariant k le (omega (arith, lt, c.places-test.false))

pub returns-clause-unset : goal.returns-clause-unset
returns-clause-unset c = λ l lt e. absurd (omega (arith, lt, ap length c.as_slice-variables.ensures.items))
