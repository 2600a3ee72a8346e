use Rattle.std.proofs.Common.{◌≡◌, IfOk, sym, subst}
use Rattle.script_state.specs.declared.answer.Verdict.TheVariants.{Unknown}
use Rattle.check_cubes.specs.Searches.{limits_of}
use Rattle.proof_checker.specs.declared.due.Due.TheVariants.{Noted}
use Rattle.proof_checker.specs.Checkers.{CheckerValue, IsNoted, closed_with}
use Rattle.proof_checker.proofs.checker.Checker.close_diary.Goals as goal

pub invariant_of-checker : goal.invariant_of-checker
invariant_of-checker c =
    let before = c.checker.inside in
    let noted = subst (λ (x : CheckerValue). IsNoted x.judging.limits x.judging.state x.judging.log x.judging.deleted (Noted c.args.noting)) (sym c.checker.view_is) c.requires.noted in
    let told = rw c.deref.ensures at c.in-Ok.ensures in (
      c.checker.invariant.0,
      c.checker.invariant.1,
      c.checker.invariant.2,
      c.checker.invariant.3,
      c.checker.invariant.4,
      told (limits_of before.limits) before.state.value c.checker.invariant.0 noted,
      c.checker.invariant.6,
    )

pub returns : goal.returns
returns c = subst (λ (x : CheckerValue). IfOk c.close.result (λ to. to ≡ closed_with x Unknown)) c.checker.view_is c.close.ensures
