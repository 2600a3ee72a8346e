-- The adder's bits are those of the sum.
use Rattle.std.proofs.Common.{◌≡◌, ℕ, suc, ◌+◌, ◌*◌, ◌^◌, Bool, true, false, not, if◌then◌else◌, List, [], ◌∷◌, ◌++◌, length, refl, sym, ap, ◌∙◌, arith}
use Rattle.std.proofs.Math.Nat.{pow-suc}
use Rattle.std.proofs.Common.{◌<◌, ◌≤◌, subst}
use Rattle.cnf_base.specs.Assignments.{AreBelow}
use Rattle.cnf_base.specs.Gates.{AreOrdered}
use Rattle.cnf_base.proofs.Agreeing.{AreBelow-more}
use Rattle.cnf_base.specs.Literals.{Literal, positive_of}
use Rattle.cnf_base.specs.Clauses.{lit_true, number, bit}
use Rattle.cnf_base.specs.Gates.{HaveMeaning}
use Rattle.cnf_base.specs.Adders.{add_gates, add_bits, add_carry}

abbrev xor_of : Bool → Bool → Bool
xor_of a b = if a then not b else b

full_add : (a b c : Bool) → bit (xor_of (xor_of a b) c) + 2 * bit (if xor_of a b then c else a) ≡ bit a + bit b + bit c
full_add true true true = refl
full_add true true false = refl
full_add true false true = refl
full_add true false false = refl
full_add false true true = refl
full_add false true false = refl
full_add false false true = refl
full_add false false false = refl

one_place : (a b c x s k : Bool) → x ≡ xor_of a b → s ≡ xor_of x c → k ≡ (if x then c else a) → bit s + 2 * bit k ≡ bit a + bit b + bit c
one_place a b c x s k ex es ek =
    let e : s ≡ xor_of (xor_of a b) c = es ∙ ap (λ t. xor_of t c) ex in
    let f : k ≡ (if xor_of a b then c else a) = ek ∙ ap (λ t. if t then c else a) ex in
    rw (e, f) (full_add a b c)

place_by_place : (p P q s n k x nx y ny c : ℕ) → P ≡ p * 2 → n + p * q ≡ nx + ny + k → s + 2 * k ≡ x + y + c → (s + 2 * n) + P * q ≡ (x + 2 * nx) + (y + 2 * ny) + c
place_by_place p P q s n k x nx y ny c e f h = rw e (omega arith)

pub add_number : (v : ℕ → Bool) (g : ℕ) (xs ys : List Literal) (c : Literal) → length xs ≡ length ys → HaveMeaning v g (add_gates g xs ys c) → number v (add_bits g xs ys) + 2 ^ length xs * bit (lit_true v (add_carry g xs ys c)) ≡ number v xs + number v ys + bit (lit_true v c)
add_number v g [] [] c e h = omega arith
add_number v g [] (y ∷ ys) c e h = absurd (omega arith)
add_number v g (x ∷ xs) [] c e h = absurd (omega arith)
add_number v g (x ∷ xs) (y ∷ ys) c e h =
    let ih = add_number v (suc (suc (suc g))) xs ys (positive_of (suc (suc g))) (omega arith) h.1.1.1 in
    let one = one_place (lit_true v x) (lit_true v y) (lit_true v c) (v g) (v (suc g)) (v (suc (suc g))) h.0 h.1.0 h.1.1.0 in
    place_by_place (2 ^ length xs) (2 ^ suc (length xs)) _ _ _ _ _ _ _ _ _ (pow-suc 2 (length xs)) ih one

pub length-add_gates : (g : ℕ) (xs ys : List Literal) (c : Literal) → length xs ≡ length ys → length (add_gates g xs ys c) ≡ 3 * length xs
length-add_gates g [] ys c e = refl
length-add_gates g (x ∷ xs) [] c e = absurd (omega arith)
length-add_gates g (x ∷ xs) (y ∷ ys) c e = omega (arith, length-add_gates (suc (suc (suc g))) xs ys (positive_of (suc (suc g))) (omega arith))

-- the first place of an adder, and the adder of the rest
pub record AddPlace (g h : ℕ) (a b : List Literal) (x y : Literal) (as' bs : List Literal) (carry next : Literal) : Type 0 where
  pub gates : add_gates g a b carry ≡ add_gates g (x ∷ []) (y ∷ []) carry ++ add_gates h as' bs next
  pub bits : add_bits g a b ≡ positive_of (g + 1) ∷ add_bits h as' bs
  pub last : add_carry g a b carry ≡ add_carry h as' bs next

pub add_place : (g h : ℕ) (a b : List Literal) (x y : Literal) (as' bs : List Literal) (carry next : Literal) → a ≡ x ∷ as' → b ≡ y ∷ bs → h ≡ g + 3 → next ≡ positive_of (g + 2) → AddPlace g h a b x y as' bs carry next
add_place g h a b x y as' bs carry next ea eb eh en =
    let three : h ≡ suc (suc (suc g)) = omega (arith, eh) in
    let two : g + 2 ≡ suc (suc g) = omega arith in
    let one : g + 1 ≡ suc g = omega arith in
    rw (ea, eb, three, en, two) (record { gates = refl; bits = ap (λ n. positive_of n ∷ add_bits (suc (suc (suc g))) as' bs) (sym one); last = refl })

pub length-add_bits : (g : ℕ) (a b : List Literal) → length a ≡ length b → length (add_bits g a b) ≡ length a
length-add_bits g [] b e = refl
length-add_bits g (x ∷ a) [] e = absurd (omega arith)
length-add_bits g (x ∷ a) (y ∷ b) e = ap suc (length-add_bits (suc (suc (suc g))) a b (omega arith))

-- ---- what stands below which variable

pub add_gates-ordered : (a b : List Literal) (g : ℕ) (c : Literal) → AreBelow g a → AreBelow g b → c.variable < g → AreOrdered g (add_gates g a b c)
add_gates-ordered [] b g c ha hb hc = tt
add_gates-ordered (x ∷ a) [] g c ha hb hc = tt
add_gates-ordered (x ∷ a) (y ∷ b) g c ha hb hc =
    let up : g ≤ suc (suc (suc g)) = omega arith in (
      (ha.0, hb.0),
      (
        (omega arith, omega (arith, hc)),
        (
          (omega arith, omega (arith, hc), omega (arith, ha.0)),
          add_gates-ordered a b (suc (suc (suc g))) (positive_of (suc (suc g))) (AreBelow-more g _ up a ha.1) (AreBelow-more g _ up b hb.1) (omega arith),
        ),
      ),
    )

pub add_bits-below : (a b : List Literal) (g : ℕ) (c : Literal) → AreBelow (g + length (add_gates g a b c)) (add_bits g a b)
add_bits-below [] b g c = tt
add_bits-below (x ∷ a) [] g c = tt
add_bits-below (x ∷ a) (y ∷ b) g c =
    let g' = suc (suc (suc g)) in
    let c' = positive_of (suc (suc g)) in
    let n = length (add_gates g' a b c') in
    let e : g' + n ≡ g + suc (suc (suc n)) = omega arith in
    (omega arith, subst (λ m. AreBelow m (add_bits g' a b)) e (add_bits-below a b g' c'))

pub add_carry-below : (a b : List Literal) (g : ℕ) (c : Literal) → c.variable < g → (add_carry g a b c).variable < g + length (add_gates g a b c)
add_carry-below [] b g c h = omega (arith, h)
add_carry-below (x ∷ a) [] g c h = omega (arith, h)
add_carry-below (x ∷ a) (y ∷ b) g c h =
    omega (arith, add_carry-below a b (suc (suc (suc g))) (positive_of (suc (suc g))) (omega arith))
