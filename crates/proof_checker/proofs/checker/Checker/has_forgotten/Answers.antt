use Rattle.std.proofs.Common.{subst}
use Rattle.proof_checker.specs.Checkers.{CheckerValue}
use Rattle.proof_checker.specs.Deletions.{AreChainsForgotten}
use Rattle.proof_checker.proofs.checker.Checker.has_forgotten.Goals as goal

pub returns : goal.returns
returns c = subst (λ (x : CheckerValue). AreChainsForgotten x.judging.deleted x.judging.log) c.self.view_is c.self.invariant.6
