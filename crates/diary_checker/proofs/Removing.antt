-- What is among the elements of a list that pass a test.
use Rattle.std.proofs.Common.{◌≡◌, ℕ, zero, suc, ◌<◌, Bool, true, false, List, [], ◌∷◌, length, get_or, refl, sym, ap, ◌∙◌, subst, inl, inr, ⊎_elim, arith}
use Rattle.std.specs.Prelude.{◌⊎◌, Contains, filter, if◌then◌else◌}
use Rattle.cnf_base.proofs.Lists.{Contains-nil, Contains-first, Contains-later}

module _ {A : Type 0} where
  cons_cases : (y : A) (xs : List A) (x : A) → Contains (y ∷ xs) x → (y ≡ x) ⊎ Contains xs x
  cons_cases y xs x c = at c.0 c.1 c.2
    where
      at : (k : ℕ) → k < suc (length xs) → get_or (y ∷ xs) k x ≡ x → (y ≡ x) ⊎ Contains xs x
      at zero lt e = inl e
      at (suc k) lt e = inr (k, omega (arith, lt), e)

  pub passes : (p : A → Bool) (xs : List A) (x : A) → Contains xs x → p x ≡ true → Contains (filter p xs) x
  passes p [] x c e = absurd (Contains-nil x c)
  passes p (y ∷ ys) x c e = go (p y) refl (λ k. passes p ys x k e) (cons_cases y ys x c)
    where
      go : (b : Bool) → p y ≡ b → (Contains ys x → Contains (filter p ys) x) → (y ≡ x) ⊎ Contains ys x → Contains (if b then y ∷ filter p ys else filter p ys) x
      go true q ih (inl s) = subst (Contains (y ∷ filter p ys)) s (Contains-first y (filter p ys))
      go true q ih (inr k) = Contains-later y x (filter p ys) (ih k)
      go false q ih (inl s) = let f : false ≡ true = sym q ∙ ap p s ∙ e in let z : ⊥ = cc in absurd z
      go false q ih (inr k) = ih k

  pub passed : (p : A → Bool) (xs : List A) (x : A) → Contains (filter p xs) x → Contains xs x × (p x ≡ true)
  passed p [] x c = absurd (Contains-nil x c)
  passed p (y ∷ ys) x c = go (p y) refl (passed p ys x) c
    where
      go : (b : Bool) → p y ≡ b → (Contains (filter p ys) x → Contains ys x × (p x ≡ true)) → Contains (if b then y ∷ filter p ys else filter p ys) x → Contains (y ∷ ys) x × (p x ≡ true)
      go true e ih k = ⊎_elim
          (λ (q : y ≡ x). (subst (Contains (y ∷ ys)) q (Contains-first y ys), subst (λ z. p z ≡ true) q e))
          (λ r. (let h = ih r in (Contains-later y x ys h.0, h.1)))
          (cons_cases y (filter p ys) x k)
      go false e ih k = let h = ih k in (Contains-later y x ys h.0, h.1)
