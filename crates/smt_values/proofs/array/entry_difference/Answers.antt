use Rattle.std.proofs.Common.{◌≡◌, ℕ, ◌<◌, ◌∙◌, sym, ap, subst, refl, length, get_or, Some, arith}
use Rattle.std.specs.Prelude.{slice_get}
use Rattle.std.specs.List.{AllByRecursion}
use Rattle.std.proofs.lemmas.Option.{slice_get_read}
use Rattle.smt_values.specs.Arrays.{Entry, IsArray, IsEntry, element_at}
use Rattle.smt_values.proofs.Entries.{all_from}
use Rattle.smt_values.proofs.Differing.{none_among, some_among}
use Rattle.smt_values.proofs.array.entry_difference.Goals as goal
use Rattle.cnf_base.proofs.Lists.{each_slice_get}

pub returns-then-value : goal.returns-then-value
returns-then-value c =
    let a = c.args.a.now in
    let b = c.args.b.now in
    let k = c.loop-entry.entry-index in
    let array : IsArray a = subst IsArray c.a.view_is c.a.invariant in
    let items : c.as_slice-entry-items.result.now ≡ a.entries = c.as_slice-entry-items.ensures.value ∙ ap (λ x. x.entries) c.a.view_is in
    let lt : k < length c.as_slice-entry-items.result.now = omega arith in
    let here : slice_get c.as_slice-entry-items.result.now k ≡ Some c.entry-item.result = slice_get_read _ _ _ _ refl lt c.entry-item.is in
    let got : slice_get a.entries k ≡ Some c.entry-item.result = subst (λ l. slice_get l k ≡ Some c.entry-item.result) items here in
    let own = each_slice_get (IsEntry a.index a.default.width) a.entries k c.entry-item.result array.entries got in
    let before = subst (λ l. (j : ℕ) (d : Entry) → j < k → element_at b (get_or l j d).0.value ≡ (get_or l j d).1.value) items c.loop-entry.invariant in
    some_among a b k c.entry-item.result array.rising got own.0.width own.0.fits before (λ e. c.if-value.true (c.value.ensures ∙ ap (λ w. w.value) c.at.ensures ∙ e ∙ sym c.value-in-loop-entry.ensures))

pub returns : goal.returns
returns c =
    let a = c.args.a.now in
    let b = c.args.b.now in
    let items : c.as_slice-entry-items.result.now ≡ a.entries = c.as_slice-entry-items.ensures.value ∙ ap (λ x. x.entries) c.a.view_is in
    let all = all_from (λ e. element_at b e.0.value ≡ e.1.value) c.as_slice-entry-items.result.now (λ k d lt. c.loop-entry.invariant k d (omega arith)) in
    none_among a b (subst (AllByRecursion (λ e. element_at b e.0.value ≡ e.1.value)) items all)
