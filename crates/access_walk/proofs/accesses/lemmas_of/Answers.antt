use Rattle.std.proofs.Common.{◌≡◌, [], ◌∷◌, ◌<◌, Some, length, refl, sym, ap, ◌∙◌, subst, ⊎_elim, arith, length-append}
use Rattle.std.specs.Prelude.{slice_get}
use Rattle.std.proofs.lemmas.Option.{slice_get_read}
use Rattle.access_spread.specs.Spreads.{IsRefused}
use Rattle.access_spread.proofs.Lists.{get_push}
use Rattle.access_walk.specs.Spread.{IsClashLemma}
use Rattle.access_walk.proofs.Lists.{same_at}
use Rattle.access_walk.proofs.accesses.lemmas_of.Goals as goal

pub lemma_of-requires-clause-refused : goal.lemma_of-requires-clause-refused
lemma_of-requires-clause-refused c =
    let refused = c.loop-place.state.refused.items in
    let place = c.loop-place.place in
    let inv = c.loop-place.invariant in
    let lt : place < length refused = omega (arith, ap length inv.refused) in
    let at : slice_get refused place ≡ Some c.index-refusal.result.now = slice_get_read refused (length refused) place c.index-refusal.result.now refl lt c.index-refusal.ensures in
    let h = c.requires.refused place c.index-refusal.result.now (ap (λ xs. slice_get xs place) (sym inv.refused) ∙ at) in
    subst (λ xs. IsRefused c.args.network.now.graph c.args.values.now.gates.items c.args.values.now.starts.items xs c.index-refusal.result.now) (sym inv.rows) h

pub loop-place-preserved : goal.loop-place-preserved
loop-place-preserved c =
    let refused = c.loop-place.state.refused.items in
    let lemmas = c.loop-place.lemmas.items in
    let pushed = c.in_ok-lemma_of.field-0 in
    let place = c.loop-place.place in
    let inv = c.loop-place.invariant in
    let lt : place < length refused = omega (arith, ap length inv.refused) in
    let at : slice_get refused place ≡ Some c.index-refusal.result.now = slice_get_read refused (length refused) place c.index-refusal.result.now refl lt c.index-refusal.ensures in
    let old : slice_get c.args.state.now.refused.items place ≡ Some c.index-refusal.result.now = ap (λ xs. slice_get xs place) (sym inv.refused) ∙ at in
    record {
      rows = c.in_ok-lemma_of.ensures.rows ∙ inv.rows;
      refused = inv.refused;
      count = omega (arith, ap length c.in_ok-push.ensures.items, length-append lemmas (pushed ∷ []), inv.count);
      each = λ k r m q e. ⊎_elim
          (λ h.
          let here : k ≡ place = h.0 ∙ inv.count in
          let same : c.index-refusal.result.now ≡ r = same_at c.args.state.now.refused.items place c.index-refusal.result.now r old (ap (slice_get c.args.state.now.refused.items) (sym here) ∙ q) in
          let now : IsClashLemma c.args.network.now c.args.values.now.entries.items c.args.values.now.gates.items c.args.values.now.starts.items c.args.state.now.rows.items c.index-refusal.result.now pushed = subst (λ xs. IsClashLemma c.args.network.now c.args.values.now.entries.items c.args.values.now.gates.items c.args.values.now.starts.items xs c.index-refusal.result.now pushed) inv.rows c.in_ok-lemma_of.ensures.lemma in
          subst (λ z. IsClashLemma c.args.network.now c.args.values.now.entries.items c.args.values.now.gates.items c.args.values.now.starts.items c.args.state.now.rows.items z m) same
          (subst (IsClashLemma c.args.network.now c.args.values.now.entries.items c.args.values.now.gates.items c.args.values.now.starts.items c.args.state.now.rows.items c.index-refusal.result.now) h.1 now))
          (λ before. inv.each k r m q before)
          (get_push lemmas pushed m k (ap (λ xs. slice_get xs k) (sym c.in_ok-push.ensures.items) ∙ e));
    }
