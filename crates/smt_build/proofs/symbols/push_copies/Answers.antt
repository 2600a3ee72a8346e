use Rattle.std.proofs.Common.{◌≡◌, arith, ap, ◌∙◌, take}
use Rattle.smt_build.proofs.Levels.{copied_more, copied_cut}
use Rattle.smt_build.proofs.symbols.push_copies.Goals as goal

pub returns-in-Err-clause-err : goal.returns-in-Err-clause-err
returns-in-Err-clause-err c = copied_cut _ _ _ _ _ _ c.loop-copies.invariant.0 (omega (arith, c.len-len.ensures)) (c.truncate.ensures.items ∙ ap (take c.len-len.result) c.in-Err.ensures.items)

pub loop-copies-preserved : goal.loop-copies-preserved
loop-copies-preserved c = (copied_more _ _ _ _ _ c.loop-copies.invariant.0 c.in-Ok.ensures.items, omega arith)

pub returns-clause-ok : goal.returns-clause-ok
returns-clause-ok c = let e : c.loop-copies.copies ≡ c.args.count = omega arith in rw (← e) c.loop-copies.invariant.0.same
