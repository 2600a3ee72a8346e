use Rattle.smt_syntax.proofs.Fittings.{trying_more, trying_found, trying_all}
use Rattle.smt_syntax.proofs.command.fits_some.Goals as goal

pub returns-then-branch : goal.returns-then-branch
returns-then-branch c = trying_found _ _ _ _ _ _ c.loop-row.invariant c.loop-row-test.true c.in_ok-fits_all.ensures c.if-branch.true

pub loop-row-preserved : goal.loop-row-preserved
loop-row-preserved c = trying_more _ _ _ _ _ _ c.loop-row.invariant c.loop-row-test.true c.in_ok-fits_all.ensures c.if-branch.false

pub returns : goal.returns
returns c = trying_all _ _ _ _ c.loop-row-test.false c.loop-row.invariant
