use Rattle.std.proofs.Common.{ap, sym, ◌∙◌, arith}
use Rattle.smt_build.specs.Grouping.{has_sort}
use Rattle.smt_build.proofs.Uses.{uneven, left_fails, left_more, left_none}
use Rattle.smt_build.proofs.definition.have_sorts.Goals as goal

pub returns-then-sorts-args : goal.returns-then-sorts-args
returns-then-sorts-args c = uneven _ c.args.sorts.now c.args.args.now c.if-sorts-args.true

pub returns-then-not-has_sort : goal.returns-then-not-has_sort
returns-then-not-has_sort c = left_fails _ _ _ _ _ _ c.loop-place.invariant (omega arith) c.if-sorts-args.false (ap (has_sort _) (sym c.held_sort.ensures) ∙ sym c.has_sort.ensures ∙ c.if-not-has_sort.true)

pub loop-place-preserved : goal.loop-place-preserved
loop-place-preserved c = left_more _ _ _ _ _ _ c.loop-place.invariant (omega arith) c.if-sorts-args.false (ap (has_sort _) (sym c.held_sort.ensures) ∙ sym c.has_sort.ensures ∙ c.if-not-has_sort.false)

pub returns : goal.returns
returns c = left_none _ _ _ _ c.loop-place.invariant (omega arith) c.if-sorts-args.false
