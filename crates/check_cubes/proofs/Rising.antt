-- Numbers that rise: a list of them is known by its members.
use Rattle.std.proofs.Common.{◌≡◌, ℕ, suc, ◌<◌, ◌≤◌, List, [], ◌∷◌, ◌++◌, flat_map, get_or, refl, sym, ap₂, subst, inl, inr, ⊎_elim, arith}
use Rattle.std.specs.Prelude.{◌⊎◌, ◌==◌, false, Contains}
use Rattle.std.specs.List.{IsDistinct}
use Rattle.std.proofs.lemmas.Bool.{ne_eqb}
use Rattle.std.proofs.lemmas.List.Elements.{recursion_from_All, Contains-get_or, Contains-append_left, Contains-append_right, Contains-append_cases}
use Rattle.std.proofs.lemmas.List.Kept.{AllPairs-cons}
use Rattle.std.proofs.lemmas.Map.Keys.{IsDistinct-head, IsDistinct-tail, IsDistinct-cons, IsDistinct-from_apart}
use Rattle.cnf_base.proofs.Lists.{Contains-nil, Contains-first, Contains-later, Contains-one, each_append}
use Rattle.term_reach.specs.Reach.{IsOnce}
use Rattle.term_reach.proofs.Rising.{Rises, AreApart, once_rest, once_apart}
use Rattle.accepted_proof.specs.Searching.{Rise}
use Rattle.accepted_proof.proofs.Splitting.{rise_ends}

-- ---- members

-- the first, or one of the others
pub first_or_later : {A : Type 0} (x : A) (xs : List A) (y : A) → Contains (x ∷ xs) y → (x ≡ y) ⊎ Contains xs y
first_or_later x xs y c = ⊎_elim (λ h. inl (Contains-one x y h)) (λ h. inr h) (Contains-append_cases (x ∷ []) xs y c)

-- the element that gave a member
pub member_owner : {A : Type 0} (f : A → List ℕ) (xs : List A) (x : ℕ) → Contains (flat_map f xs) x → (a : A) × Contains xs a × Contains (f a) x
member_owner f [] x c = absurd (Contains-nil x c)
member_owner f (a ∷ xs) x c = elim (Contains-append_cases (f a) (flat_map f xs) x c) [
  | inl h ↦ (a, Contains-first a xs, h)
  | inr h ↦ let r = member_owner f xs x h in (r.0, Contains-later a r.0 xs r.1, r.2)
]

pub member_given : {A : Type 0} (f : A → List ℕ) (xs : List A) (a : A) (x : ℕ) → Contains xs a → Contains (f a) x → Contains (flat_map f xs) x
member_given {A = A} f [] a x c h = absurd (Contains-nil a c)
member_given {A = A} f (b ∷ xs) a x c h = ⊎_elim
    (λ (e : b ≡ a). Contains-append_left (f b) (flat_map f xs) x (subst (λ (y : A). Contains (f y) x) (sym e) h))
    (λ later. Contains-append_right (f b) (flat_map f xs) x (member_given f xs a x later h))
    (first_or_later b xs a c)

-- ---- lists that rise

rises_first : (x : ℕ) (xs : List ℕ) (y : ℕ) → Rises (x ∷ xs) → Contains xs y → x < y
rises_first x xs y h c = subst (λ z. x < z) c.2 (h 0 (suc c.0) y (omega arith) (let lt = c.1 in omega (arith, lt)))

rises_rest : (x : ℕ) (xs : List ℕ) → Rises (x ∷ xs) → Rises xs
rises_rest x xs h i j d less lt = h (suc i) (suc j) d (omega (arith, less)) (omega (arith, lt))

-- two such lists with the same members are the same
pub same_rising : (xs ys : List ℕ) → Rises xs → Rises ys → ((z : ℕ) → Contains xs z → Contains ys z) → ((z : ℕ) → Contains ys z → Contains xs z) → xs ≡ ys
same_rising [] [] h k forth back = refl
same_rising [] (y ∷ ys) h k forth back = absurd (Contains-nil y (back y (Contains-first y ys)))
same_rising (x ∷ xs) [] h k forth back = absurd (Contains-nil x (forth x (Contains-first x xs)))
same_rising (x ∷ xs) (y ∷ ys) h k forth back = ap₂ (λ z zs. z ∷ zs) first (same_rising xs ys (rises_rest x xs h) (rises_rest y ys k) forth_rest back_rest) where
  le : (a b : ℕ) (cs : List ℕ) → Rises (a ∷ cs) → Contains (a ∷ cs) b → a ≤ b
  le a b cs r c = ⊎_elim (λ e. omega (arith, e)) (λ l. let lt = rises_first a cs b r l in omega (arith, lt)) (first_or_later a cs b c)

  first : x ≡ y
  first = let p = le x y xs h (back y (Contains-first y ys)) in let q = le y x ys k (forth x (Contains-first x xs)) in omega (arith, p, q)

  forth_rest : (z : ℕ) → Contains xs z → Contains ys z
  forth_rest z c = ⊎_elim (λ (e : y ≡ z). absurd (let lt = rises_first x xs z h c in let s = first in omega (arith, lt, e, s))) (λ l. l) (first_or_later y ys z (forth z (Contains-later x z xs c)))

  back_rest : (z : ℕ) → Contains ys z → Contains xs z
  back_rest z c = ⊎_elim (λ (e : x ≡ z). absurd (let lt = rises_first y ys z k c in let s = first in omega (arith, lt, e, s))) (λ l. l) (first_or_later x xs z (back z (Contains-later y z ys c)))

-- ---- lists between bounds

rise_within : (low high : ℕ) (xs : List ℕ) (x : ℕ) → Rise low high xs → Contains xs x → (low ≤ x) × (x < high)
rise_within low high [] x h c = absurd (Contains-nil x c)
rise_within low high (y ∷ xs) x h c = ⊎_elim
    (λ (e : y ≡ x). let first = h.0 in let last : suc y ≤ high = rise_ends (suc y) high xs h.1 in (omega (arith, first, e), omega (arith, last, e)))
    (λ later. let first = h.0 in let r = rise_within (suc y) high xs x h.1 later in (omega (arith, first, r.0), r.1))
    (first_or_later y xs x c)

pub rise_rises : (low high : ℕ) (xs : List ℕ) → Rise low high xs → Rises xs
rise_rises low high [] h = λ i j d less lt. absurd (omega (arith, lt))
rise_rises low high (x ∷ xs) h = AllPairs-cons (λ a b. a < b) x xs
    (λ k d lt. let r = rise_within (suc x) high xs (get_or xs k d) h.1 (Contains-get_or xs k d lt) in omega (arith, r.0))
    (rise_rises (suc x) high xs h.1)

rise_parts : (low high : ℕ) (xs ys : List ℕ) → Rise low high (xs ++ ys) → (mid : ℕ) × Rise low mid xs × Rise mid high ys
rise_parts low high [] ys h = let le : low ≤ low = omega arith in (low, le, h)
rise_parts low high (x ∷ xs) ys h = let r = rise_parts (suc x) high xs ys h.1 in (r.0, (h.0, r.1), r.2)

module _ {A : Type 0} (f : A → List ℕ) where
  -- of what rises in all, each part does
  pub part_rises : (low high : ℕ) (xs : List A) (a : A) → Rise low high (flat_map f xs) → Contains xs a → Rises (f a)
  part_rises low high [] a h c = absurd (Contains-nil a c)
  part_rises low high (b ∷ xs) a h c =
      let p = rise_parts low high (f b) (flat_map f xs) h in
      ⊎_elim (λ (e : b ≡ a). subst (λ (y : A). Rises (f y)) e (rise_rises low p.0 (f b) p.1)) (λ later. part_rises p.0 high xs a p.2 later) (first_or_later b xs a c)

  -- and a member is one of one part alone
  pub one_owner : (low high : ℕ) (xs : List A) (a b : A) (x : ℕ) → Rise low high (flat_map f xs) → Contains xs a → Contains xs b → Contains (f a) x → Contains (f b) x → a ≡ b
  one_owner low high [] a b x h ca cb xa xb = absurd (Contains-nil a ca)
  one_owner low high (c ∷ xs) a b x h ca cb xa xb =
      let p = rise_parts low high (f c) (flat_map f xs) h in
      go (λ d e. one_owner p.0 high xs a b x p.2 d e xa xb) (first_or_later c xs a ca) (first_or_later c xs b cb)
    where
      apart : (e : A) → Contains (f c) x → Contains xs e → Contains (f e) x → ⊥
      apart e here later there =
          let p = rise_parts low high (f c) (flat_map f xs) h in
          let lt = (rise_within low p.0 (f c) x p.1 here).1 in
          let le = (rise_within p.0 high (flat_map f xs) x p.2 (member_given f xs e x later there)).0 in
          omega (arith, lt, le)

      go : (Contains xs a → Contains xs b → a ≡ b) → (c ≡ a) ⊎ Contains xs a → (c ≡ b) ⊎ Contains xs b → a ≡ b
      go rest (inl e) (inl d) = subst (λ (y : A). y ≡ b) e d
      go rest (inl e) (inr d) = absurd (apart b (subst (λ (y : A). Contains (f y) x) (sym e) xa) d xb)
      go rest (inr e) (inl d) = absurd (apart a (subst (λ (y : A). Contains (f y) x) (sym d) xb) e xa)
      go rest (inr e) (inr d) = rest e d

-- ---- members that stand once

pub rises_apart : (xs : List ℕ) → Rises xs → AreApart xs
rises_apart xs h = IsDistinct-from_apart (λ x y. x == y) xs (λ i j d less lt. ne_eqb (get_or xs i d) (get_or xs j d) (λ e. (let m = h i j d less lt in omega (arith, m, e))))

both_apart : (xs ys : List ℕ) → AreApart xs → AreApart ys → ((x : ℕ) → Contains xs x → Contains ys x → ⊥) → AreApart (xs ++ ys)
both_apart [] ys h k none = k
both_apart (x ∷ xs) ys h k none =
    IsDistinct-cons (λ a b. a == b) x (xs ++ ys)
    (each_append (λ y. (x == y) ≡ false) xs ys (IsDistinct-head (λ a b. a == b) x xs h)
    (recursion_from_All (λ y. (x == y) ≡ false) ys (λ i d lt. ne_eqb x (get_or ys i d) (λ e. none x (Contains-first x xs) (subst (Contains ys) (sym e) (Contains-get_or ys i d lt))))))
    (both_apart xs ys (IsDistinct-tail (λ a b. a == b) x xs h) k (λ y c. none y (Contains-later x y xs c)))

-- the members of all parts, where each part's do and no two have one in common
pub parts_apart : (f : ℕ → List ℕ) (ts : List ℕ) → IsOnce ts → ((t : ℕ) → Contains ts t → AreApart (f t)) → ((t u x : ℕ) → Contains ts t → Contains ts u → Contains (f t) x → Contains (f u) x → t ≡ u) → AreApart (flat_map f ts)
unfolding IsDistinct
parts_apart f [] once each one = tt
parts_apart f (t ∷ ts) once each one =
    both_apart (f t) (flat_map f ts) (each t (Contains-first t ts))
    (parts_apart f ts (once_rest t ts once) (λ u c. each u (Contains-later t u ts c)) (λ u v x cu cv xu xv. one u v x (Contains-later t u ts cu) (Contains-later t v ts cv) xu xv))
    (λ x here there.
    let r = member_owner f ts x there in
    let same : t ≡ r.0 = one t r.0 x (Contains-first t ts) (Contains-later t r.0 ts r.1) here r.2 in
    once_apart t ts once (subst (Contains ts) (sym same) r.1))
