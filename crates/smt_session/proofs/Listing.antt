-- Texts one after the other.
use Rattle.std.proofs.Common.{◌≡◌, ℕ, ◌+◌, ◌<◌, List, [], ◌∷◌, ◌++◌, length, map, get_or, take, sym, ap, ◌∙◌}
use Rattle.std.proofs.lemmas.List.{map-append, take_more}

-- one more image
pub mapped_more : {A B : Type 0} (f : A → B) (xs : List A) (ys more : List B) (k : ℕ) (x : A) (y : B) → k < length xs → x ≡ get_or xs k x → ys ≡ map f (take k xs) → y ≡ f x → more ≡ ys ++ y ∷ [] → more ≡ map f (take (k + 1) xs)
mapped_more f xs ys more k x y lt at h own e =
    e
    ∙ ap (λ r. r ++ y ∷ []) h
    ∙ ap (λ z. map f (take k xs) ++ z ∷ []) (own ∙ ap f at)
    ∙ sym (map-append f (take k xs) (get_or xs k x ∷ []))
    ∙ ap (map f) (sym (take_more xs k x lt))
