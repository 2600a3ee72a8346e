use Rattle.std.proofs.Common.{◌≡◌, subst, ⊎_elim, arith}
use Rattle.std.proofs.lemmas.Bool.{MatchBool-at_true, cases_lt}
use Rattle.walk_rows.specs.Fitting.{IsFit}
use Rattle.walk_rows.proofs.fitting.are_fit.Goals as goal

pub loop-term-preserved : goal.loop-term-preserved
loop-term-preserved c = λ t lt. ⊎_elim
    (λ less. c.loop-term.invariant t less)
    (λ more.
    let here : c.loop-term.term ≡ t = omega (arith, lt, more) in
    subst (IsFit c.args.terms.now.nodes c.args.bits.now) here (MatchBool-at_true _ _ c.if-not-branch.false c.in_ok-is_fit.ensures))
    (cases_lt t c.loop-term.term)
