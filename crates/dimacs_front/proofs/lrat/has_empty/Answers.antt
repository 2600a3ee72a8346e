use Rattle.std.proofs.Common.{arith}
use Rattle.dimacs_front.proofs.Hints.{empty_found, empty_passed, empty_nowhere}
use Rattle.dimacs_front.proofs.lrat.has_empty.Goals as goal

pub returns-then-is_empty : goal.returns-then-is_empty
returns-then-is_empty c = empty_found c.args.cnf.now.clauses c.loop-place.place c.clause.result.now c.is_empty.result _ c.clause.ensures c.is_empty.ensures c.if-is_empty.true c.loop-place.invariant

pub loop-place-preserved : goal.loop-place-preserved
loop-place-preserved c = empty_passed c.args.cnf.now.clauses c.loop-place.place c.clause.result.now c.is_empty.result _ c.clause.ensures c.is_empty.ensures c.if-is_empty.false c.loop-place.invariant

pub returns : goal.returns
returns c = empty_nowhere c.args.cnf.now.clauses c.loop-place.place _ (omega (arith, c.len-place-end.ensures)) c.loop-place.invariant
