use Rattle.std.proofs.Common.{Some, map, sym, ap, ◌∙◌}
use Rattle.proof_log.proofs.Finding.{entry_found}
use Rattle.proof_log.proofs.steps.Steps.entry.Goals as goal

pub returns-in-Some : goal.returns-in-Some
returns-in-Some c =
    ap (λ e. Some e) c.entry.ensures
    ∙ sym (entry_found (λ x. x.entry) c.deref.result.now c.args.self.now.entries c.args.at c.in-Some.step.now c.if-at-eq0.false c.in-Some.ensures.lookup.3.0 c.in-Some.ensures.lookup.1
    (ap (λ l. map (λ x. x.entry) l) c.deref.ensures.value ∙ ap (λ v. v.entries) c.self.view_is))
