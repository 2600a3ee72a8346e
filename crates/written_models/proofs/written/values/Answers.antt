use Rattle.std.proofs.Common.{sym, ap, ◌∙◌, subst}
use Rattle.std.specs.Option.{option_copied}
use Rattle.written_models.specs.Reading.{IsReading}
use Rattle.written_models.proofs.Declared.{items_next, made_declarable}
use Rattle.written_models.proofs.written.values.Goals as goal

pub value_at-requires : goal.value_at-requires
value_at-requires g c = made_declarable c.args.state.now c.live-item.result.declaration c.unwrap-signature.result.now c.terms-terms.ensures.state (sym c.signature.ensures ∙ ap option_copied c.unwrap-signature.ensures)

pub loop-live-preserved : goal.loop-live-preserved
loop-live-preserved g c =
    let declared = sym c.signature.ensures ∙ ap option_copied c.unwrap-signature.ensures in
    let is = subst (λ o. IsReading c.unwrap-signature.result.now o c.in_ok-value.value) c.value_for.ensures c.in_ok-value.ensures in
    rw c.in_ok-push.ensures.items
    (items_next c.args.state.now.symbols.signatures (g.S.SetValues.set_for c.args.found.now) c.declared-live-items.result.now c.args.state.now.symbols.live c.loop-live.items.items c.loop-live.live-index c.live-item.result c.unwrap-signature.result.now c.in_ok-value.value
    c.declared-live-items.ensures c.loop-live-test.true c.live-item.is declared is c.loop-live.invariant)
