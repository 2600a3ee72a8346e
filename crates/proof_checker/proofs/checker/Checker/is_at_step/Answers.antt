use Rattle.std.proofs.Common.{◌≡◌, sym, subst}
use Rattle.accepted_proof.specs.Judged as judged
use Rattle.proof_checker.specs.Checkers.{CheckerValue}
use Rattle.proof_checker.proofs.Forgetting.{not_steps}
use Rattle.proof_checker.proofs.checker.Checker.is_at_step.Goals as goal

pub returns-in_default : goal.returns-in_default
returns-in_default c = λ e.
    let before = c.self.inside in
    not_steps before.due before.state.value.symbols.live before.values.items c.self.invariant.1 c.in_default.not-Steps
    (subst (λ (x : CheckerValue). x.judging.owed ≡ judged.Steps) (sym c.self.view_is) e)
