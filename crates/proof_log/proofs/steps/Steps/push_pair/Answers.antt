use Rattle.std.proofs.Common.{inr, refl}
use Rattle.proof_log.proofs.Placing.{plain_kept}
use Rattle.proof_log.proofs.steps.Steps.push_pair.Goals as goal

pub invariant_of-self-2 : goal.invariant_of-self-2
invariant_of-self-2 c =
    plain_kept (λ x. x.entry) c.self.inside.steps.items c.reserve.new.self.items c.push_reserved.new.self.items _ c.self.inside.terms.items c.self.inside.assertions.items c.in_ok-reserve.ensures.items c.push_reserved.ensures.items (inr refl) c.self.invariant
