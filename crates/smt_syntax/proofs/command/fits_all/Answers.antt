use Rattle.smt_syntax.proofs.Fittings.{fits_never, fitting_more, fitting_fails, fitting_all}
use Rattle.smt_syntax.proofs.command.fits_all.Goals as goal

pub returns-then-forms-spans : goal.returns-then-forms-spans
returns-then-forms-spans c = λ es a. fits_never _ _ _ es c.if-forms-spans.true a

pub returns-then-not-branch : goal.returns-then-not-branch
returns-then-not-branch c = fitting_fails _ _ _ _ _ _ _ c.loop-i.invariant c.loop-i-test.true c.if-forms-spans.false c.in_ok-fits.ensures c.if-not-branch.true

pub loop-i-preserved : goal.loop-i-preserved
loop-i-preserved c = fitting_more _ _ _ _ _ _ _ c.loop-i.invariant c.loop-i-test.true c.if-forms-spans.false c.in_ok-fits.ensures c.if-not-branch.false

pub returns : goal.returns
returns c = fitting_all _ _ _ _ c.loop-i-test.false c.if-forms-spans.false c.loop-i.invariant
