-- Rows of bits as numbers, and rows of gates one after another.
use Rattle.std.proofs.Common.{◌≡◌, ℕ, zero, suc, ◌+◌, ◌-◌, ◌^◌, Bool, true, false, not, List, [], ◌∷◌, ◌++◌, length, refl, ap, subst, arith}
use Rattle.std.specs.Prelude.{if◌then◌else◌, replicate}
use Rattle.std.proofs.lemmas.Nat.{pow_pos}
use Rattle.std.proofs.Math.Nat.{pow-suc}
use Rattle.cnf_base.specs.Literals.{Literal, false_literal}
use Rattle.cnf_base.specs.declared.gate.GateKind.{GateKind}
use Rattle.cnf_base.specs.Clauses.{lit_true, number}
use Rattle.cnf_base.specs.Gates.{HaveMeaning}
use Rattle.cnf_base.specs.Assignments.{fresh_bits}
use Rattle.cnf_base.specs.Choices.{mux_gates}
use Rattle.cnf_base.proofs.Choosing.{mux_number}

-- ---- gates one row after another

pub meaning_front : (v : ℕ → Bool) (g : ℕ) (ks ls : List GateKind) → HaveMeaning v g (ks ++ ls) → HaveMeaning v g ks
meaning_front v g [] ls h = tt
meaning_front v g (k ∷ ks) ls h = (h.0, meaning_front v (suc g) ks ls h.1)

pub meaning_back : (v : ℕ → Bool) (g : ℕ) (ks ls : List GateKind) → HaveMeaning v g (ks ++ ls) → HaveMeaning v (g + length ks) ls
meaning_back v g [] ls h = let e : g ≡ g + 0 = omega arith in subst (λ n. HaveMeaning v n ls) e h
meaning_back v g (k ∷ ks) ls h =
    let e : suc g + length ks ≡ g + suc (length ks) = omega arith in
    subst (λ n. HaveMeaning v n ls) e (meaning_back v (suc g) ks ls h.1)

-- ---- literals that are always false or true

pub false_is_false : (v : ℕ → Bool) → v 1 ≡ true → lit_true v false_literal ≡ false
false_is_false v one = ap not one

pub number-replicate_false : (v : ℕ → Bool) (n : ℕ) (l : Literal) → lit_true v l ≡ false → number v (replicate n l) ≡ 0
number-replicate_false v zero l e = refl
number-replicate_false v (suc n) l e = rw (e, number-replicate_false v n l e) refl

pub number-replicate_true : (v : ℕ → Bool) (n : ℕ) (l : Literal) → lit_true v l ≡ true → number v (replicate n l) ≡ 2 ^ n - 1
number-replicate_true v zero l e = refl
number-replicate_true v (suc n) l e = rw (e, number-replicate_true v n l e, pow-suc 2 n) (omega (arith, pow_pos n))

-- ---- choices

-- a choice has as many bits as its second row too
pub choice_number : (v : ℕ → Bool) (g : ℕ) (c : Literal) (a b : List Literal) → length a ≡ length b → HaveMeaning v g (mux_gates c a b) → number v (fresh_bits g (length b)) ≡ (if lit_true v c then number v a else number v b)
choice_number v g c a b e h = subst (λ n. number v (fresh_bits g n) ≡ (if lit_true v c then number v a else number v b)) e (mux_number v g c a b e h)
