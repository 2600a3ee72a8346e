-- The lines of a diary by places.
use Rattle.std.proofs.Common.{◌≡◌, ℕ, ◌+◌, ◌<◌, List, [], ◌∷◌, ◌++◌, length, map, take, get_or, refl, sym, ap, ◌∙◌, append_assoc, append-nil}
use Rattle.std.specs.Prelude.{Bool, true, false, cond, filter, if◌then◌else◌}
use Rattle.std.proofs.lemmas.List.{map-append}
use Rattle.std.proofs.lemmas.List.Elements.{filter_more}
use Rattle.proof_log.specs.declared.diary.DiaryLine.{DiaryLine}

one_more : (f : ℕ → DiaryLine) (b : Bool) (x : ℕ) (old mid new : List DiaryLine) (front : List ℕ) → mid ≡ old ++ map f front → new ≡ (if b then mid ++ f x ∷ [] else mid) → new ≡ old ++ map f (front ++ cond b (x ∷ []) [])
one_more f true x old mid new front m n =
    n ∙ ap (λ (ls : List DiaryLine). ls ++ f x ∷ []) m ∙ append_assoc old (map f front) (f x ∷ []) ∙ ap (λ (ls : List DiaryLine). old ++ ls) (sym (map-append f front (x ∷ [])))
one_more f false x old mid new front m n = n ∙ m ∙ ap (λ (ps : List ℕ). old ++ map f ps) (sym (append-nil front))

-- so many positions were looked at, and the next
pub lemmas_next : (test : ℕ → Bool) (f : ℕ → DiaryLine) (xs : List ℕ) (k x d : ℕ) (old mid new : List DiaryLine) → k < length xs → x ≡ get_or xs k d
    → mid ≡ old ++ map f (filter test (take k xs)) → new ≡ (if test x then mid ++ f x ∷ [] else mid) → new ≡ old ++ map f (filter test (take (k + 1) xs))
lemmas_next test f xs k x d old mid new lt is m n =
    one_more f (test x) x old mid new (filter test (take k xs)) m n
    ∙ ap (λ (y : ℕ). old ++ map f (filter test (take k xs) ++ cond (test y) (y ∷ []) [])) is
    ∙ ap (λ (ps : List ℕ). old ++ map f ps) (sym (filter_more test xs k d lt))
