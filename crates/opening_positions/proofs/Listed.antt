-- What a list contains behind position 0, and one position more.
use Rattle.std.proofs.Common.{◌≡◌, ℕ, ◌<◌, Bool, true, false, List, [], ◌∷◌, sym, subst, inl, inr, ⊎_elim, arith}
use Rattle.std.specs.Prelude.{◌⊎◌, Contains, MatchBool}
use Rattle.std.proofs.lemmas.List.Elements.{Contains-push_cases, Contains-append_cases}
use Rattle.std.proofs.lemmas.Bool.{cases_lt}
use Rattle.cnf_base.proofs.Lists.{Contains-nil, Contains-first, Contains-later}
use Rattle.variable_list.specs.Variables.{IsListed}
use Rattle.variable_list.proofs.Listing.{listed_here, listed_still}
use Rattle.opening_positions.specs.Positions.{IsWith}

pub member_cases : {X : Type 0} (x y : X) (xs : List X) → Contains (x ∷ xs) y → (x ≡ y) ⊎ Contains xs y
member_cases x y xs h = ⊎_elim
    (λ a. ⊎_elim (λ b. absurd (Contains-nil y b)) (λ e. inl e) (Contains-push_cases [] x y a))
    (λ b. inr b)
    (Contains-append_cases (x ∷ []) xs y h)

-- whether a position behind the first is listed
pub has_behind : (b : Bool) (steps all : List ℕ) (at : ℕ) → 0 ∷ steps ≡ all → (at ≡ 0 → ⊥) → MatchBool b (Contains steps at) (Contains steps at → ⊥) → MatchBool b (Contains all at) (Contains all at → ⊥)
has_behind true steps all at e ne h = subst (λ (l : List ℕ). Contains l at) e (Contains-later 0 at steps h)
has_behind false steps all at e ne h = λ k. ⊎_elim (λ z. ne (sym z)) (λ c. h c) (member_cases 0 at steps (subst (λ (l : List ℕ). Contains l at) (sym e) k))

-- a position that is not listed is not 0
pub other_positive : (steps all : List ℕ) (at : ℕ) → 0 ∷ steps ≡ all → (Contains all at → ⊥) → 0 < at
other_positive steps all at e out = ⊎_elim
    (λ lt. lt)
    (λ ge. absurd (out (let z : 0 ≡ at = omega (arith, ge) in subst (λ (l : List ℕ). Contains l at) e (subst (Contains (0 ∷ steps)) z (Contains-first 0 steps)))))
    (cases_lt 0 at)

-- the position that was listed already
pub with_same : (all : List ℕ) (at : ℕ) → Contains all at → IsWith all at all
with_same all at h = record { kept = λ p k. k; here = h; only = λ p k. inl k }

pub with_listed : (old new all : List ℕ) (at : ℕ) → 0 ∷ old ≡ all → IsListed old at new → IsWith all at (0 ∷ new)
with_listed old new all at e h = record {
  kept = λ p k. ⊎_elim
      (λ z. subst (Contains (0 ∷ new)) z (Contains-first 0 new))
      (λ c. Contains-later 0 p new (listed_still old new at p h c))
      (member_cases 0 p old (subst (λ (l : List ℕ). Contains l p) (sym e) k));
  here = Contains-later 0 at new (listed_here old new at h);
  only = λ p k. ⊎_elim
      (λ z. inl (subst (λ (l : List ℕ). Contains l p) e (subst (Contains (0 ∷ old)) z (Contains-first 0 old))))
      (λ c. ⊎_elim (λ o. inl (subst (λ (l : List ℕ). Contains l p) e (Contains-later 0 p old o))) (λ q. inr q) (old_or p c))
      (member_cases 0 p new k);
}
  where
    old_or : (p : ℕ) → Contains new p → Contains old p ⊎ (p ≡ at)
    old_or p c = ⊎_elim
        (λ s. inl (subst (λ (l : List ℕ). Contains l p) s.1 c))
        (λ s. ⊎_elim (λ o. inl o) (λ q. inr (sym q)) (Contains-push_cases old at p (subst (λ (l : List ℕ). Contains l p) s.1 c)))
        h
