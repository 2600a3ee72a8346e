use Rattle.std.proofs.Common.{sym, subst}
use Rattle.proof_checker.specs.Deletions.{AreChainsForgotten}
use Rattle.faded_log.specs.Faded.{IsHeld}
use Rattle.proof_checker.proofs.Forgetting.{none_forgotten}
use Rattle.proof_checker.proofs.checker.Checker.new.Goals as goal

pub invariant_of-result : goal.invariant_of-result
invariant_of-result c = (
  subst (IsHeld c.in_ok-state.state.value.terms.nodes) (sym c.in_ok-log.ensures.ok) (c.in_ok-new.ensures.held c.in_ok-state.state.value.terms.nodes),
  tt,
  tt,
  c.in-Some.ensures.allowed,
  tt,
  c.new-9.ensures.start c.none.result c.in_ok-log.log.value,
  subst (λ ds. AreChainsForgotten ds c.in_ok-log.log.value.entries) (sym c.none.ensures) (none_forgotten c.in_ok-log.log.value.entries),
)
