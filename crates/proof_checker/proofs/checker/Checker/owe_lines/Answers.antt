use Rattle.std.proofs.Common.{sym, subst}
use Rattle.proof_checker.specs.declared.due.Due.TheVariants.{Noted}
use Rattle.proof_checker.specs.Checkers.{CheckerValue, IsNoted}
use Rattle.proof_checker.proofs.checker.Checker.owe_lines.Goals as goal

pub invariant_of-checker : goal.invariant_of-checker
invariant_of-checker c = (
  c.checker.invariant.0,
  tt,
  subst (λ (x : CheckerValue). IsNoted x.judging.limits x.judging.state x.judging.log x.judging.deleted (Noted c.args.noting)) (sym c.checker.view_is) c.requires.noted,
  c.checker.invariant.3,
  tt,
  c.checker.invariant.5,
  c.checker.invariant.6,
)
