use Rattle.std.proofs.Common.{◌≡◌, ◌∙◌, sym, ap}
use Rattle.smt_values.proofs.Differing.{same_defaults, other_defaults, first_among_all}
use Rattle.smt_values.proofs.array.ArrayValue.difference.Goals as goal

pub returns-then-value : goal.returns-then-value
returns-then-value c =
    let a = c.args.self.now in
    let b = c.args.other.now in
    let e : a.default.value ≡ b.default.value = sym (ap (λ x. x.default.value) c.self.view_is) ∙ sym c.value.ensures ∙ c.if-value.true ∙ c.value-2.ensures ∙ ap (λ w. w.value) c.default.ensures in
    first_among_all a b _ (same_defaults a b _ e c.held_difference-held.ensures)

pub returns-else-value : goal.returns-else-value
returns-else-value c =
    let a = c.args.self.now in
    let b = c.args.other.now in
    c.least.ensures ∙ first_among_all a b _ (other_defaults a b _ _ (λ e. c.if-value.false (c.value.ensures ∙ ap (λ x. x.default.value) c.self.view_is ∙ e ∙ sym (ap (λ w. w.value) c.default.ensures) ∙ sym c.value-2.ensures)) c.held_difference-held.ensures c.gap.ensures)
