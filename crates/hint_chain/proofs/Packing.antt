-- Hints that are short, and the one at a place.
use Rattle.std.proofs.Common.{◌≡◌, ℕ, ◌+◌, ◌<◌, ◌≤◌, ◌^◌, List, ◌∷◌, length, get_or, drop, map, Some, sym, ap, ◌∙◌, subst}
use Rattle.std.specs.Prelude.{Contains, slice_get, option_map}
use Rattle.std.proofs.lemmas.List.{length-map, drop_more}
use Rattle.std.proofs.lemmas.List.Elements.{Contains-get_or}
use Rattle.std.proofs.lemmas.Option.{slice_get-map, slice_get-get_or, slice_get_within, get_or_from_slice_get}
use Rattle.cnf_base.specs.declared.clause.ClauseId.{ClauseId}
use Rattle.hint_chain.specs.declared.hints.ShortId.{ShortId}
use Rattle.hint_chain.specs.Packed.{whole_id}

-- as many are short as there are
pub same_length : (ids : List ShortId) (hints : List ClauseId) → map whole_id ids ≡ hints → length hints ≡ length ids
same_length ids hints e = ap length (sym e) ∙ length-map ids whole_id

-- the one at a place, whole
pub whole_at : (ids : List ShortId) (hints : List ClauseId) (k : ℕ) (x : ShortId) → map whole_id ids ≡ hints → k < length hints → x ≡ get_or ids k x → slice_get hints k ≡ Some (whole_id x)
whole_at ids hints k x e within is =
    let lt : k < length ids = subst (λ n. k < n) (same_length ids hints e) within in
    ap (λ (l : List ClauseId). slice_get l k) (sym e) ∙ slice_get-map whole_id ids k ∙ ap (option_map whole_id) (slice_get-get_or ids k x lt ∙ ap Some (sym is))

-- one that cannot be short
pub found_whole : (hints : List ClauseId) (k : ℕ) (d : ClauseId) → k < length hints → 2 ^ 32 ≤ (get_or hints k d).pos → (id : ClauseId) × Contains hints id × (2 ^ 32 ≤ id.pos)
found_whole hints k d lt le = (get_or hints k d, Contains-get_or hints k d lt, le)

-- the hint that was read stands before the rest
pub drop_at_hint : (hints : List ClauseId) (k : ℕ) (i : ClauseId) → slice_get hints k ≡ Some i → drop k hints ≡ i ∷ drop (k + 1) hints
drop_at_hint hints k i e =
    drop_more hints k i (slice_get_within hints k i e) ∙ ap (λ x. x ∷ drop (k + 1) hints) (get_or_from_slice_get hints k i i e)
