use Rattle.std.proofs.Common.{refl}
use Rattle.proof_log.proofs.Placing.{plain_kept}
use Rattle.proof_log.proofs.steps.Steps.push.Goals as goal

pub invariant_of-self-2 : goal.invariant_of-self-2
invariant_of-self-2 c = plain_kept (λ x. x.entry) c.self.inside.steps.items c.self.inside.steps.items c.push.new.self.items _ c.self.inside.terms.items c.self.inside.assertions.items refl c.in_ok-push.ensures.items c.requires c.self.invariant
