use Rattle.std.proofs.Common.{suc, ◌∙◌, refl, sym, ap, length}
use Rattle.proof_log.proofs.Placing.{term_kept}
use Rattle.proof_log.proofs.steps.Steps.push_link.Goals as goal

pub invariant_of-self-2 : goal.invariant_of-self-2
invariant_of-self-2 c =
    term_kept (λ x. x.entry) c.self.inside.steps.items c.reserve.new.self.items c.push_reserved.new.self.items _ c.args.used.from c.len-at.result c.self.inside.terms.items c.grow.new.held.items c.set.new.held.items c.self.inside.assertions.items
    c.in_ok-reserve.ensures.items c.push_reserved.ensures.items
    (c.len-at.ensures ∙ ap (λ v. suc (length v.entries)) (sym c.self.view_is))
    refl c.in_ok-grow.ensures.same c.set.ensures c.self.invariant
