-- The step at a position.
use Rattle.std.proofs.Common.{◌≡◌, ℕ, zero, suc, ◌-◌, ◌<◌, List, length, get_or, map, Some, refl, sym, ap, ◌∙◌, subst, arith}
use Rattle.std.specs.Prelude.{slice_get, option_map}
use Rattle.std.proofs.lemmas.Option.{slice_get-map, slice_get_read}
use Rattle.proof_log.specs.declared.entry.Entry.{Entry}
use Rattle.proof_log.specs.Logs.{entry_at}

pub entry_found : {A : Type 0} (f : A → Entry) (items : List A) (log : List Entry) (p : ℕ) (x : A) → (p ≡ 0 → ⊥) → p - 1 < length items → x ≡ get_or items (p - 1) x → map f items ≡ log → entry_at log p ≡ Some (f x)
entry_found f items log zero x ne lt e m = absurd (ne refl)
entry_found f items log (suc p) x ne lt e m =
    let q : suc p - 1 ≡ p = omega arith in
    ap (λ l. slice_get l p) (sym m)
    ∙ slice_get-map f items p
    ∙ ap (option_map f) (subst (λ k. slice_get items k ≡ Some x) q (slice_get_read items (length items) (suc p - 1) x refl lt e))
