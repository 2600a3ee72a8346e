-- Rising numbers: two lists of them with the same members are one.
use Rattle.std.proofs.Common.{◌≡◌, ℕ, zero, suc, ◌<◌, List, [], ◌∷◌, length, get_or, refl, sym, subst, inl, inr, ⊎_elim, arith}
use Rattle.std.specs.Prelude.{◌⊎◌, Contains}
use Rattle.cnf_base.proofs.Lists.{Contains-nil, Contains-first, Contains-later}
use Rattle.term_reach.proofs.Rising.{Rises}

pub cons_cases : {A : Type 0} (x : A) (xs : List A) (y : A) → Contains (x ∷ xs) y → (x ≡ y) ⊎ Contains xs y
cons_cases {A} x xs y c = at c.0 c.1 c.2
  where
    at : (k : ℕ) → k < suc (length xs) → get_or (x ∷ xs) k y ≡ y → (x ≡ y) ⊎ Contains xs y
    at zero lt e = inl e
    at (suc k) lt e = inr (k, omega (arith, lt), e)

module _ (x : ℕ) (xs : List ℕ) (h : Rises (x ∷ xs)) where
  first_least : (y : ℕ) → Contains xs y → x < y
  first_least y c =
      let lt : x < get_or xs c.0 y = h 0 (suc c.0) y (omega arith) (omega (arith, c.1)) in
      subst (λ z. x < z) c.2 lt

  rest_rises : Rises xs
  rest_rises i j d lt within = h (suc i) (suc j) d (omega (arith, lt)) (omega (arith, within))

same_first : (x y : ℕ) (xs ys : List ℕ) → Rises (x ∷ xs) → Rises (y ∷ ys) → Contains (y ∷ ys) x → Contains (x ∷ xs) y → x ≡ y
same_first x y xs ys h k a b =
    ⊎_elim
    (λ (e : y ≡ x). sym e)
    (λ (p : Contains ys x). ⊎_elim
    (λ (e : x ≡ y). e)
    (λ (q : Contains xs y). (let l : y < x = first_least y ys k x p in let r : x < y = first_least x xs h y q in absurd (omega (arith, l, r))))
    (cons_cases x xs y b))
    (cons_cases y ys x a)

-- what is among the rest of one is among the rest of the other
rest_of : (x y : ℕ) (xs ys : List ℕ) → Rises (x ∷ xs) → x ≡ y → ((z : ℕ) → Contains (x ∷ xs) z → Contains (y ∷ ys) z) → (z : ℕ) → Contains xs z → Contains ys z
rest_of x y xs ys h e f z c =
    ⊎_elim
    (λ (q : y ≡ z). (let l : x < z = first_least x xs h z c in absurd (omega (arith, l, e, q))))
    (λ p. p)
    (cons_cases y ys z (f z (Contains-later x z xs c)))

pub one_rising : (xs ys : List ℕ) → Rises xs → Rises ys → ((z : ℕ) → Contains xs z → Contains ys z) → ((z : ℕ) → Contains ys z → Contains xs z) → xs ≡ ys
one_rising [] [] h k f g = refl
one_rising [] (y ∷ ys) h k f g = absurd (Contains-nil y (g y (Contains-first y ys)))
one_rising (x ∷ xs) [] h k f g = absurd (Contains-nil x (f x (Contains-first x xs)))
one_rising (x ∷ xs) (y ∷ ys) h k f g =
    let e : x ≡ y = same_first x y xs ys h k (f x (Contains-first x xs)) (g y (Contains-first y ys)) in
    let r : xs ≡ ys = one_rising xs ys (rest_rises x xs h) (rest_rises y ys k) (rest_of x y xs ys h e f) (rest_of y x ys xs k (sym e) g) in
    cc
