-- Sets of literals, and what holds of each element of a list, along a loop.
use Rattle.std.proofs.Common.{◌≡◌, ℕ, ◌+◌, ◌<◌, List, [], ◌∷◌, ◌++◌, length, take, drop, get_or, sym, ap, ◌∙◌, subst, ⊎_elim, arith}
use Rattle.std.specs.Prelude.{◌⊎◌, ◌≢◌, Contains, map}
use Rattle.std.proofs.lemmas.List.{get_or_default, map-append, take-append-drop}
use Rattle.std.proofs.lemmas.List.Elements.{Contains-append_left, Contains-push, Contains-push_cases, Contains-get_or}
use Rattle.cnf_base.specs.Literals.{Literal, negated}
use Rattle.cnf_base.proofs.Codes.{same_literal_or_not}
use Rattle.cnf_base.proofs.Rows.{take_at}
use Rattle.hint_chain.specs.Chains.{HasPair}
use Rattle.diary_checker.specs.Tables.{Stamps, number_of, IsSetOf}
use Rattle.hint_chain.proofs.Marking.{pair_more}

-- ---- each element so far

module _ {A : Type 0} where
  pub each_none : (P : A → Type 0) (xs : List A) (y : A) → Contains (take 0 xs) y → P y
  each_none P xs y c = absurd (omega (arith, c.1))

  pub in_more : (xs : List A) (i : ℕ) (x y : A) → i < length xs → x ≡ get_or xs i x → Contains (take (i + 1) xs) y → Contains (take i xs) y ⊎ (x ≡ y)
  in_more xs i x y lt e c = Contains-push_cases (take i xs) x y (subst (λ zs. Contains zs y) (take_at xs i x lt e) c)

  pub each_more : (P : A → Type 0) (xs : List A) (i : ℕ) (x : A) → i < length xs → x ≡ get_or xs i x → ((y : A) → Contains (take i xs) y → P y) → P x → (y : A) → Contains (take (i + 1) xs) y → P y
  each_more P xs i x lt e h here y c = ⊎_elim (λ old. h y old) (λ same. subst P same here) (in_more xs i x y lt e c)

  pub each_more_at : (P : A → Type 0) (xs : List A) (i : ℕ) (d : A) → i < length xs → ((y : A) → Contains (take i xs) y → P y) → P (get_or xs i d) → (y : A) → Contains (take (i + 1) xs) y → P y
  each_more_at P xs i d lt h here = each_more P xs i (get_or xs i d) lt (get_or_default xs i d (get_or xs i d) lt) h here

  pub here_in : (xs : List A) (i : ℕ) (x : A) → i < length xs → x ≡ get_or xs i x → Contains xs x
  here_in xs i x lt e = subst (Contains xs) (sym e) (Contains-get_or xs i x lt)

  pub take_in : (xs : List A) (i : ℕ) (y : A) → Contains (take i xs) y → Contains xs y
  take_in xs i y c = subst (λ zs. Contains zs y) (take-append-drop i xs) (Contains-append_left (take i xs) (drop i xs) y c)

-- ---- sets

pub set_none : (t : Stamps) (xs : List Literal) → ((l : Literal) → number_of t l ≡ 0) → IsSetOf t (take 0 xs)
set_none t xs h l = ((λ lt. let e = h l in absurd (omega arith)), (λ c. absurd (omega (arith, c.1))))

pub set_more : (t t' : Stamps) (ls : List Literal) (l : Literal) → IsSetOf t ls → number_of t' l ≡ 1 → ((k : Literal) → k ≢ l → number_of t' k ≡ number_of t k) → IsSetOf t' (ls ++ l ∷ [])
set_more t t' ls l h here others k = (to, from)
  where
    to : 0 < number_of t' k → Contains (ls ++ l ∷ []) k
    to lt =
        ⊎_elim
        (λ e. subst (Contains (ls ++ l ∷ [])) (sym e) (Contains-push ls l))
        (λ ne. Contains-append_left ls (l ∷ []) k ((h k).0 (subst (λ n. 0 < n) (others k ne) lt)))
        (same_literal_or_not k l)

    marked : k ≡ l → 0 < number_of t' k
    marked e = subst (λ n. 0 < n) (sym (ap (number_of t') e ∙ here)) (omega arith)

    from : Contains (ls ++ l ∷ []) k → 0 < number_of t' k
    from c =
        ⊎_elim
        (λ old. ⊎_elim marked (λ ne. subst (λ n. 0 < n) (sym (others k ne)) ((h k).1 old)) (same_literal_or_not k l))
        (λ e. marked (sym e))
        (Contains-push_cases ls l k c)

pub set_step : (t t' : Stamps) (xs : List Literal) (i : ℕ) (x : Literal) → i < length xs → x ≡ get_or xs i x → IsSetOf t (take i xs) → number_of t' x ≡ 1 → ((k : Literal) → k ≢ x → number_of t' k ≡ number_of t k) → IsSetOf t' (take (i + 1) xs)
set_step t t' xs i x lt e h here others = subst (IsSetOf t') (sym (take_at xs i x lt e)) (set_more t t' (take i xs) x h here others)

pub opposite_step : (t t' : Stamps) (xs : List Literal) (i : ℕ) (x : Literal) → i < length xs → x ≡ get_or xs i x → IsSetOf t (map negated (take i xs)) → number_of t' (negated x) ≡ 1 → ((k : Literal) → k ≢ negated x → number_of t' k ≡ number_of t k) → IsSetOf t' (map negated (take (i + 1) xs))
opposite_step t t' xs i x lt e h here others =
    let joined : map negated (take i xs) ++ negated x ∷ [] ≡ map negated (take (i + 1) xs) =
    sym (map-append negated (take i xs) (x ∷ [])) ∙ ap (map negated) (sym (take_at xs i x lt e)) in
    subst (IsSetOf t') joined (set_more t t' (map negated (take i xs)) (negated x) h here others)

-- ---- pairs

pub pair_found : (xs : List Literal) (i : ℕ) (x : Literal) → i < length xs → x ≡ get_or xs i x → Contains (take i xs) (negated x) → HasPair xs
pair_found xs i x lt e c = (x, here_in xs i x lt e, take_in xs i (negated x) c)

pub pair_none : (xs : List Literal) (i : ℕ) (x : Literal) → i < length xs → x ≡ get_or xs i x → ¬ (Contains (take i xs) (negated x)) → ¬ (HasPair (take i xs)) → ¬ (HasPair (take (i + 1) xs))
pair_none xs i x lt e without alone = subst (λ ys. ¬ (HasPair ys)) (sym (take_at xs i x lt e)) (pair_more (take i xs) x alone without)
