-- What the equality of two rows means.
use Rattle.std.proofs.Common.{◌≡◌, ℕ, suc, ◌+◌, ◌*◌, Bool, true, false, not, ◌&&◌, List, [], ◌∷◌, ◌++◌, length, refl, sym, ap, ◌∙◌, arith}
use Rattle.std.specs.Prelude.{if◌then◌else◌, ◌==◌}
use Rattle.std.proofs.Math.Bool.{and-true, and_assoc}
use Rattle.std.proofs.lemmas.Bool.Decides.{nat_tests}
use Rattle.std.proofs.Common.{◌<◌, ◌≤◌}
use Rattle.cnf_base.specs.Assignments.{AreBelow}
use Rattle.cnf_base.specs.Gates.{AreOrdered}
use Rattle.cnf_base.proofs.Agreeing.{AreBelow-more}
use Rattle.cnf_base.specs.Literals.{Literal, positive_of}
use Rattle.cnf_base.specs.Clauses.{lit_true, number, bit}
use Rattle.cnf_base.specs.Gates.{HaveMeaning}
use Rattle.cnf_base.specs.Choices.{equal_gates, equal_bit}

pub length-equal_gates : (g : ℕ) (e : Literal) (a b : List Literal) → length a ≡ length b → length (equal_gates g e a b) ≡ 2 * length a
length-equal_gates g e [] b same = refl
length-equal_gates g e (x ∷ a) [] same = absurd (omega arith)
length-equal_gates g e (x ∷ a) (y ∷ b) same = omega (arith, length-equal_gates (suc (suc g)) (positive_of (suc g)) a b (omega arith))

-- the first place of an equality, and the equality of the rest
pub record EqualPlace (g h : ℕ) (a b : List Literal) (x y : Literal) (as' bs : List Literal) (before after : Literal) : Type 0 where
  pub gates : equal_gates g before a b ≡ equal_gates g before (x ∷ []) (y ∷ []) ++ equal_gates h after as' bs
  pub last : equal_bit g before a b ≡ equal_bit h after as' bs

pub equal_place : (g h : ℕ) (a b : List Literal) (x y : Literal) (as' bs : List Literal) (before after : Literal) → a ≡ x ∷ as' → b ≡ y ∷ bs → h ≡ g + 2 → after ≡ positive_of (g + 1) → EqualPlace g h a b x y as' bs before after
equal_place g h a b x y as' bs before after ea eb eh en =
    let two : h ≡ suc (suc g) = omega (arith, eh) in
    let one : g + 1 ≡ suc g = omega arith in
    rw (ea, eb, two, en, one) (record { gates = refl; last = refl })

same_place : (p q : Bool) (x y : ℕ) → ((bit p + 2 * x) == (bit q + 2 * y)) ≡ (not (if p then not q else q) && (x == y))
same_place true true x y = grind (arith, nat_tests)
same_place true false x y = grind (arith, nat_tests)
same_place false true x y = grind (arith, nat_tests)
same_place false false x y = grind (arith, nat_tests)

pub equal_number : (v : ℕ → Bool) (g : ℕ) (e : Literal) (a b : List Literal) → length a ≡ length b → HaveMeaning v g (equal_gates g e a b) → lit_true v (equal_bit g e a b) ≡ (lit_true v e && (number v a == number v b))
equal_number v g e [] [] same h = sym (and-true (lit_true v e))
equal_number v g e [] (y ∷ b) same h = absurd (omega arith)
equal_number v g e (x ∷ a) [] same h = absurd (omega arith)
equal_number v g e (x ∷ a) (y ∷ b) same h =
    let ih = equal_number v (suc (suc g)) (positive_of (suc g)) a b (omega arith) h.1.1 in
    let p = lit_true v x in
    let q = lit_true v y in
    ih
    ∙ ap (λ t. t && (number v a == number v b)) (h.1.0 ∙ ap (λ t. lit_true v e && not t) h.0)
    ∙ and_assoc (lit_true v e) (not (if p then not q else q)) (number v a == number v b)
    ∙ ap (λ t. lit_true v e && t) (sym (same_place p q (number v a) (number v b)))

-- ---- what stands below which variable

pub equal_gates-ordered : (a b : List Literal) (g : ℕ) (e : Literal) → AreBelow g a → AreBelow g b → e.variable < g → AreOrdered g (equal_gates g e a b)
equal_gates-ordered [] b g e ha hb he = tt
equal_gates-ordered (x ∷ a) [] g e ha hb he = tt
equal_gates-ordered (x ∷ a) (y ∷ b) g e ha hb he =
    let up : g ≤ suc (suc g) = omega arith in (
      (ha.0, hb.0),
      (
        (omega (arith, he), omega arith),
        equal_gates-ordered a b (suc (suc g)) (positive_of (suc g)) (AreBelow-more g _ up a ha.1) (AreBelow-more g _ up b hb.1) (omega arith),
      ),
    )

pub equal_bit-below : (a b : List Literal) (g : ℕ) (e : Literal) → e.variable < g → (equal_bit g e a b).variable < g + length (equal_gates g e a b)
equal_bit-below [] b g e he = omega (arith, he)
equal_bit-below (x ∷ a) [] g e he = omega (arith, he)
equal_bit-below (x ∷ a) (y ∷ b) g e he = omega (arith, equal_bit-below a b (suc (suc g)) (positive_of (suc g)) (omega arith))
