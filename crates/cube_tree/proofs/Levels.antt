-- Joining variable by variable.
use Rattle.std.proofs.Common.{◌≡◌, ℕ, zero, suc, ◌+◌, ◌*◌, ◌/◌, ◌%◌, ◌^◌, ◌<◌, ◌≤◌, true, false, List, [], ◌∷◌, ◌++◌, length, get_or, drop, Some, refl, sym, ap, ◌∙◌, subst, inl, inr, ⊎_elim, arith}
use Rattle.std.specs.Prelude.{◌⊎◌, ◌==◌, slice_get}
use Rattle.std.proofs.lemmas.Bool.{eq-eqb, ne_eqb}
use Rattle.std.proofs.lemmas.Option.{slice_get-get_or}
use Rattle.std.proofs.lemmas.List.{drop_more, drop_all}
use Rattle.std.proofs.Math.Nat.{pow-suc}
use Rattle.cnf_base.specs.Literals.{Literal, positive_of, negative_of}
use Rattle.hint_chain.specs.Chains.{Lookup, FindsMore}
use Rattle.cube_tree.specs.Cubes.{cube_of}
use Rattle.cube_tree.specs.Closing.{first_of, Closes, AreClosing, HaveClauses}

pub closes_later : (look more : Lookup) (assumed cube : List Literal) (p : ℕ) → FindsMore look more → Closes look assumed cube p → Closes more assumed cube p
closes_later look more assumed cube p g h = record { clause = h.clause; found = g (first_of p) h.clause h.found; closing = h.closing }

pub have_later : (look more : Lookup) (places : List ℕ) → FindsMore look more → HaveClauses look places → HaveClauses more places
have_later look more places g h n p e = let k = h n p e in (k.0, g (first_of p) k.0 k.1)

even_cube : (x : ℕ) (xs : List ℕ) (m : ℕ) → cube_of (x ∷ xs) (2 * m) ≡ positive_of x ∷ cube_of xs m
even_cube x xs m =
    let low : (2 * m) % 2 ≡ 0 = omega arith in
    let half : (2 * m) / 2 ≡ m = omega arith in
    let bit : ((2 * m) % 2 == 0) ≡ true = eq-eqb _ _ low in
    λ i. record { variable = x; positive = bit i } ∷ cube_of xs (half i)

odd_cube : (x : ℕ) (xs : List ℕ) (m : ℕ) → cube_of (x ∷ xs) (2 * m + 1) ≡ negative_of x ∷ cube_of xs m
odd_cube x xs m =
    let low : (2 * m + 1) % 2 ≡ 1 = omega arith in
    let half : (2 * m + 1) / 2 ≡ m = omega arith in
    let bit : ((2 * m + 1) % 2 == 0) ≡ false = ne_eqb _ _ (λ e. omega (arith, low, e)) in
    λ i. record { variable = x; positive = bit i } ∷ cube_of xs (half i)

push_cases : (xs : List ℕ) (a n r : ℕ) → slice_get (xs ++ a ∷ []) n ≡ Some r → ((n ≡ length xs) × (a ≡ r)) ⊎ (slice_get xs n ≡ Some r)
push_cases [] a zero r e = let q : a ≡ r = cc in inl (refl, q)
push_cases [] a (suc n) r e = let f : ⊥ = cc in absurd f
push_cases (x ∷ xs) a zero r e = inr e
push_cases (x ∷ xs) a (suc n) r e = ⊎_elim (λ p. inl (ap suc p.0, p.1)) (λ p. inr p) (push_cases xs a n r e)

-- one pair more
pub level_more : (look now next : Lookup) (assumed : List Literal) (x : ℕ) (xs places joined : List ℕ) (m at d e : ℕ)
    → 2 * m + 1 < length places → length joined ≡ m → FindsMore look now → FindsMore now next
    → ((cube : List Literal) → Closes now assumed (positive_of x ∷ cube) (get_or places (2 * m) d) → Closes now assumed (negative_of x ∷ cube) (get_or places (2 * m + 1) e) → Closes next assumed cube at)
    → AreClosing look assumed (x ∷ xs) places → AreClosing now assumed xs joined → AreClosing next assumed xs (joined ++ at ∷ [])
level_more look now next assumed x xs places joined m at d e lt len g1 g2 joins all before n r h =
    ⊎_elim
    (λ p.
    let first = subst (λ c. Closes look assumed c (get_or places (2 * m) d)) (even_cube x xs m) (all (2 * m) _ (slice_get-get_or places (2 * m) d (omega (arith, lt)))) in
    let second = subst (λ c. Closes look assumed c (get_or places (2 * m + 1) e)) (odd_cube x xs m) (all (2 * m + 1) _ (slice_get-get_or places (2 * m + 1) e lt)) in
    let done = joins (cube_of xs m) (closes_later look now assumed _ _ g1 first) (closes_later look now assumed _ _ g1 second) in
    subst (λ (z : ℕ × ℕ). Closes next assumed (cube_of xs z.0) z.1) (λ i. (sym (p.0 ∙ len) i, p.1 i)) done)
    (λ p. closes_later now next assumed (cube_of xs n) r g2 (before n r p))
    (push_cases joined at n r h)

-- the clauses at these positions, and at one more
pub have_more : (look : Lookup) (places : List ℕ) (at : ℕ) → HaveClauses look places → (c : List Literal) × (look (first_of at) ≡ Some c) → HaveClauses look (places ++ at ∷ [])
have_more look places at h k n p e =
    ⊎_elim (λ q. subst (λ a. (c : List Literal) × (look (first_of a) ≡ Some c)) q.1 k) (λ q. h n p q) (push_cases places at n p e)

pub none_closing : (look : Lookup) (assumed : List Literal) (xs places : List ℕ) → places ≡ [] → AreClosing look assumed xs places
none_closing look assumed xs places e n p h = let k : slice_get [] n ≡ Some p = subst (λ l. slice_get l n ≡ Some p) e h in let f : ⊥ = cc in absurd f

pub none_have : (look : Lookup) (places : List ℕ) → places ≡ [] → HaveClauses look places
none_have look places e n p h = let k : slice_get [] n ≡ Some p = subst (λ l. slice_get l n ≡ Some p) e h in let f : ⊥ = cc in absurd f

pub half_of : (xs : List ℕ) (k d a b : ℕ) → k < length xs → a ≡ 2 ^ length (drop k xs) → b ≡ a / 2 → b ≡ 2 ^ length (drop (k + 1) xs)
half_of xs k d a b lt e h =
    let is = ap (λ l. 2 ^ length l) (drop_more xs k d lt) in
    omega (arith, e, h, is, pow-suc 2 (length (drop (k + 1) xs)))

pub root_closes : (look : Lookup) (assumed : List Literal) (xs places : List ℕ) (k p d : ℕ) → length xs ≤ k → length places ≡ 2 ^ length (drop k xs) → AreClosing look assumed (drop k xs) places → p ≡ get_or places 0 d → Closes look assumed [] p
root_closes look assumed xs places k p d past len all e =
    let none = drop_all k xs past in
    let one : length places ≡ 1 = len ∙ ap (λ l. 2 ^ length l) none in
    subst (λ l. Closes look assumed (cube_of l 0) p) none (all 0 p (slice_get-get_or places 0 d (omega (arith, one)) ∙ ap Some (sym e)))

pub drop_closing : (look : Lookup) (assumed : List Literal) (xs places : List ℕ) (k d : ℕ) → k < length xs → AreClosing look assumed (drop k xs) places → AreClosing look assumed (get_or xs k d ∷ drop (k + 1) xs) places
drop_closing look assumed xs places k d lt all = subst (λ l. AreClosing look assumed l places) (drop_more xs k d lt) all
