-- Rows of gates mean their operators, bit by bit.
use Rattle.std.proofs.Common.{◌≡◌, ℕ, suc, ◌+◌, ◌-◌, ◌*◌, ◌%◌, ◌^◌, min, max, Bool, true, false, not, ◌&&◌, List, [], ◌∷◌, length, refl, sym, ap, ◌∙◌, arith}
use Rattle.std.specs.Prelude.{if◌then◌else◌, bit_and, bit_or, bit_xor, map}
use Rattle.std.specs.Int.Bits.{and_step, or_step, xor_step, differ}
use Rattle.cnf_base.specs.Literals.{Literal, negated}
use Rattle.cnf_base.specs.Clauses.{lit_true, number, bit}
use Rattle.cnf_base.specs.Gates.{gate_value, HaveMeaning}
use Rattle.cnf_base.specs.Assignments.{fresh_bits}
use Rattle.cnf_base.proofs.Truth.{lit_true-negated}
use Rattle.cnf_base.proofs.Numbers.{number-negated, half_of}
use Rattle.smt_words.specs.Words.{not_of}
use Rattle.bit_blast.specs.declared.rows.Connective.{Connective}
use Rattle.bit_blast.specs.declared.rows.Connective.TheVariants.{Both, Neither, ButNot, Differ}
use Rattle.bit_blast.specs.Circuits.{gate_of, each_gate, signed}

-- what a connective says of two truth values
abbrev pub said : Connective → Bool → Bool → Bool
said Both p q = p && q
said Neither p q = not p && not q
said ButNot p q = p && not q
said Differ p q = if p then not q else q

pub gate_said : (v : ℕ → Bool) (k : Connective) (a b : Literal) → gate_value v (gate_of k a b) ≡ said k (lit_true v a) (lit_true v b)
gate_said v Both a b = refl
gate_said v Neither a b = rw (lit_true-negated v a, lit_true-negated v b) refl
gate_said v ButNot a b = rw (lit_true-negated v b) refl
gate_said v Differ a b = refl

abbrev pub agreed : Bool → Bool → Bool
agreed true b = b
agreed false b = not b

-- a function on numbers that works on the bits as the gates do
pub record Works (k : Connective) (positive : Bool) (f : ℕ → ℕ → ℕ) : Type 0 where
  pub none : f 0 0 ≡ 0
  pub place : (p q : Bool) (x y : ℕ) → f (bit p + 2 * x) (bit q + 2 * y) ≡ bit (agreed positive (said k p q)) + 2 * f x y

-- the row of literals of such gates is the function's number
pub row_number : (k : Connective) (positive : Bool) (f : ℕ → ℕ → ℕ) → Works k positive f → (v : ℕ → Bool) (g : ℕ) (a b : List Literal) → length a ≡ length b → HaveMeaning v g (each_gate k a b) → number v (signed positive (fresh_bits g (length a))) ≡ f (number v a) (number v b)
row_number k true f w v g [] [] e h = sym w.none
row_number k false f w v g [] [] e h = sym w.none
row_number k positive f w v g [] (y ∷ b) e h = absurd (omega arith)
row_number k positive f w v g (x ∷ a) [] e h = absurd (omega arith)
row_number k true f w v g (x ∷ a) (y ∷ b) e h =
    let ih = row_number k true f w v (suc g) a b (omega arith) h.1 in
    let here : v g ≡ said k (lit_true v x) (lit_true v y) = h.0 ∙ gate_said v k x y in
    rw (ih, here) (sym (w.place (lit_true v x) (lit_true v y) (number v a) (number v b)))
row_number k false f w v g (x ∷ a) (y ∷ b) e h =
    let ih = row_number k false f w v (suc g) a b (omega arith) h.1 in
    let here : v g ≡ said k (lit_true v x) (lit_true v y) = h.0 ∙ gate_said v k x y in
    rw (ih, here) (sym (w.place (lit_true v x) (lit_true v y) (number v a) (number v b)))

-- ---- the three that work so

low_of : (p : Bool) (n : ℕ) → (bit p + 2 * n) % 2 ≡ bit p
low_of true n = omega arith
low_of false n = omega arith

min_bit : (p q : Bool) → min (bit p) (bit q) ≡ bit (p && q)
min_bit true true = refl
min_bit true false = refl
min_bit false true = refl
min_bit false false = refl

max_bit : (p q : Bool) → max (bit p) (bit q) ≡ bit (not (not p && not q))
max_bit true true = refl
max_bit true false = refl
max_bit false true = refl
max_bit false false = refl

differ_bit : (p q : Bool) → differ (bit p) (bit q) ≡ bit (if p then not q else q)
differ_bit true true = refl
differ_bit true false = refl
differ_bit false true = refl
differ_bit false false = refl

pub and_works : Works Both true bit_and
and_works = record {
  none = refl;
  place = λ p q x y.
      and_step (bit p + 2 * x) (bit q + 2 * y)
      ∙ rw (half_of p x, half_of q y, low_of p x, low_of q y, min_bit p q) (omega arith);
}

pub or_works : Works Neither false bit_or
or_works = record {
  none = refl;
  place = λ p q x y.
      or_step (bit p + 2 * x) (bit q + 2 * y)
      ∙ rw (half_of p x, half_of q y, low_of p x, low_of q y, max_bit p q) (omega arith);
}

pub xor_works : Works Differ true bit_xor
xor_works = record {
  none = refl;
  place = λ p q x y.
      xor_step (bit p + 2 * x) (bit q + 2 * y)
      ∙ rw (half_of p x, half_of q y, low_of p x, low_of q y, differ_bit p q) (omega arith);
}

-- ---- and their opposites

complement : (s t n x : ℕ) → s + t + 1 ≡ n → t ≡ x → s ≡ n - 1 - x
complement s t n x e h = omega (arith, e, h)

complement_too : (s t n x : ℕ) → s + t + 1 ≡ n → s ≡ x → t ≡ n - 1 - x
complement_too s t n x e h = omega (arith, e, h)

-- the opposites of a row are its complement
pub negated_number : (v : ℕ → Bool) (row : List Literal) (n x : ℕ) → length row ≡ n → number v row ≡ x → number v (map negated row) ≡ not_of n x
negated_number v row n x e h = complement (number v (map negated row)) (number v row) (2 ^ n) x (number-negated v row ∙ ap (λ m. 2 ^ m) e) h

-- where the opposites of a row are a number, the row is its complement
pub unnegated_number : (v : ℕ → Bool) (row : List Literal) (n x : ℕ) → length row ≡ n → number v (map negated row) ≡ x → number v row ≡ not_of n x
unnegated_number v row n x e h = complement_too (number v (map negated row)) (number v row) (2 ^ n) x (number-negated v row ∙ ap (λ m. 2 ^ m) e) h
