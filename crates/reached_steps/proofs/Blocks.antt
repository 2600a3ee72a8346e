-- The bits of a block, and the inputs of its gates, are of variable 1, of variables of its arguments and of those that it
-- makes.
use Rattle.std.proofs.Common.{◌≡◌, ℕ, zero, suc, ◌+◌, ◌-◌, ◌%◌, ◌/◌, Bool, true, false, List, [], ◌∷◌, ◌++◌, length, take, drop, Some, subst}
use Rattle.std.specs.Prelude.{if◌then◌else◌, ◌==◌, map, replicate}
use Rattle.std.specs.List.{AllByRecursion}
use Rattle.cnf_base.specs.Literals.{Literal, negated, true_literal, false_literal}
use Rattle.cnf_base.specs.Assignments.{fresh_bits}
use Rattle.cnf_base.specs.Choices.{mux_gates}
use Rattle.circ_plain.specs.declared.moves.Direction.TheVariants.{Up, Down}
use Rattle.circ_plain.specs.Signs.{sign_of}
use Rattle.smt_terms.specs.declared.operator.Operator.{Operator}
use Rattle.smt_terms.specs.declared.operator.Operator.TheVariants as plain
use Rattle.smt_terms.specs.declared.node.Op.{Op}
use Rattle.smt_terms.specs.declared.node.Op.TheVariants.{Plain, Word, Extract, ZeroExtend, SignExtend, RotateLeft, RotateRight, Repeat, ConstantArray, Constant, Apply, Param}
use Rattle.bit_blast.specs.declared.rows.Connective.{Connective}
use Rattle.bit_blast.specs.declared.rows.Connective.TheVariants.{Both, Neither, ButNot, Differ}
use Rattle.bit_blast.specs.Circuits.{Makes, Takes, Lacks, built, one as one_row, two, two_some, wires, signed, each_gate, by_gate, sum, difference, equality, choice, negation, below, not_above, signed_below, signed_not_above, shift_up, shift_down, signed_shift_down, product, quotient, remainder, signed_quotient, signed_remainder, signed_modulus, literal_bits, rotated, extracted, repeated}
use Rattle.bit_blast.specs.Blocks.{Block, operator_circuit, circuit_of}
use Rattle.bit_blast.proofs.Shapes.{some_rows}
use Rattle.reached_steps.proofs.Inputs.{AreOf, EachReads, HasFrom, of-append, of-replicate, of-take, of-drop, of-negated, of-fresh_bits, of-sign}
use Rattle.reached_steps.proofs.Plain.{add_gates-read, add_bits-of, mux_gates-read, equal_gates-read, equal_bit-of, neg_gates-read, neg_bits-of, ult_gates-read, ult_bit-of, slt_gates-read, slt_bit-of, logical_gates-read, logical_bits-of, ashr_gates-read, ashr_bits-of}
use Rattle.reached_steps.proofs.Numbers.{mul_gates-read, mul_bits-of, division-read, remainder_bits-of, sdiv_read, srem_read, smod_read}
use Rattle.std.proofs.lemmas.Option.{same_Some}

-- what is to be shown of a block
abbrev pub IsOf : (ℕ → Type 0) → Block → Type 0
IsOf S b = EachReads S b.gates × AreOf S b.bits

module _ (S : ℕ → Type 0) (one : S 1) (g : ℕ) (up : HasFrom S g) where
  abbrev Rows : List (List Literal) → Type 0
  Rows = AllByRecursion (AreOf S)

  -- ---- rows of wires

  of-rotated : (n : ℕ) (a : List Literal) → AreOf S a → AreOf S (rotated n a)
  of-rotated n a h = of-append S (drop (length a - n) a) (take (length a - n) a) (of-drop S (length a - n) a h) (of-take S (length a - n) a h)

  of-repeated : (n : ℕ) (a : List Literal) → AreOf S a → AreOf S (repeated n a)
  of-repeated zero a h = tt
  of-repeated (suc n) a h = of-append S a (repeated n a) h (of-repeated n a h)

  of-literal : (n x : ℕ) → AreOf S (literal_bits n x)
  of-literal zero x = tt
  of-literal (suc n) x = (either (x % 2 == 1), of-literal n (x / 2))
    where
      either : (b : Bool) → S (if b then true_literal else false_literal).variable
      either true = one
      either false = one

  -- ---- rows of gates

  each_gate-read : (k : Connective) (a b : List Literal) → AreOf S a → AreOf S b → EachReads S (each_gate k a b)
  each_gate-read k [] b h i = tt
  each_gate-read k (x ∷ a) [] h i = tt
  each_gate-read Both (x ∷ a) (y ∷ b) h i = ((h.0, i.0), each_gate-read Both a b h.1 i.1)
  each_gate-read Neither (x ∷ a) (y ∷ b) h i = ((h.0, i.0), each_gate-read Neither a b h.1 i.1)
  each_gate-read ButNot (x ∷ a) (y ∷ b) h i = ((h.0, i.0), each_gate-read ButNot a b h.1 i.1)
  each_gate-read Differ (x ∷ a) (y ∷ b) h i = ((h.0, i.0), each_gate-read Differ a b h.1 i.1)

  signed-of : (positive : Bool) (a : List Literal) → AreOf S a → AreOf S (signed positive a)
  signed-of true a h = h
  signed-of false a h = of-negated S a h

  by_gate-of : (k : Connective) (positive : Bool) (a c : List Literal) → AreOf S a → AreOf S c → IsOf S (by_gate k positive a c g)
  by_gate-of k positive a c h i = (each_gate-read k a c h i, signed-of positive (fresh_bits g (length a)) (of-fresh_bits S (length a) g up))

  -- ---- shapes

  made_leaf : (bits : List Literal) → AreOf S bits → (rows : List (List Literal)) (b : Block) → Rows rows → built (Makes (wires bits)) g rows ≡ Some b → IsOf S b
  made_leaf bits h [] b all is = subst (IsOf S) (same_Some _ _ is) (tt, h)
  made_leaf bits h (a ∷ rows) b all is = let q : ⊥ = cc in absurd q

  made_one : (f : List Literal → ℕ → Block) → ((a : List Literal) → AreOf S a → IsOf S (f a g)) → (rows : List (List Literal)) (b : Block) → Rows rows → built (one_row f) g rows ≡ Some b → IsOf S b
  made_one f h [] b all is = let q : ⊥ = cc in absurd q
  made_one f h (a ∷ []) b all is = subst (IsOf S) (same_Some _ _ is) (h a all.0)
  made_one f h (a ∷ c ∷ rows) b all is = let q : ⊥ = cc in absurd q

  made_two : (f : List Literal → List Literal → ℕ → Block) → ((a c : List Literal) → AreOf S a → AreOf S c → IsOf S (f a c g)) → (rows : List (List Literal)) (b : Block) → Rows rows → built (two f) g rows ≡ Some b → IsOf S b
  made_two f h [] b all is = let q : ⊥ = cc in absurd q
  made_two f h (a ∷ []) b all is = let q : ⊥ = cc in absurd q
  made_two f h (a ∷ c ∷ rows) b all is = go (length a == length c) rows is
    where
      go : (t : Bool) (rest : List (List Literal)) → built (if t then Makes (f a c) else Lacks) g rest ≡ Some b → IsOf S b
      go true [] k = subst (IsOf S) (same_Some _ _ k) (h a c all.0 all.1.0)
      go true (d ∷ rest) k = let q : ⊥ = cc in absurd q
      go false rest k = let q : ⊥ = cc in absurd q

  made_some : (f : List Literal → List Literal → ℕ → Block) → ((a c : List Literal) → AreOf S a → AreOf S c → IsOf S (f a c g)) → (rows : List (List Literal)) (b : Block) → Rows rows → built (two_some f) g rows ≡ Some b → IsOf S b
  made_some f h rows b all is = made_two f h rows b all (some_rows f g rows b is).1

  made_joined : (rows : List (List Literal)) (b : Block) → Rows rows → built (Takes λ a. Takes λ c. Makes (wires (c ++ a))) g rows ≡ Some b → IsOf S b
  made_joined [] b all is = let q : ⊥ = cc in absurd q
  made_joined (a ∷ []) b all is = let q : ⊥ = cc in absurd q
  made_joined (a ∷ c ∷ []) b all is = subst (IsOf S) (same_Some _ _ is) (tt, of-append S c a all.1.0 all.0)
  made_joined (a ∷ c ∷ d ∷ rows) b all is = let q : ⊥ = cc in absurd q

  made_choice : (rows : List (List Literal)) (b : Block) → Rows rows → built choice g rows ≡ Some b → IsOf S b
  made_choice [] b all is = let q : ⊥ = cc in absurd q
  made_choice (c ∷ []) b all is = let q : ⊥ = cc in absurd q
  made_choice (c ∷ a ∷ []) b all is = let q : ⊥ = cc in absurd q
  made_choice ([] ∷ a ∷ d ∷ rows) b all is = let q : ⊥ = cc in absurd q
  made_choice ((c ∷ e ∷ cs) ∷ a ∷ d ∷ rows) b all is = let q : ⊥ = cc in absurd q
  made_choice ((c ∷ []) ∷ a ∷ d ∷ rows) b all is = go (length a == length d) rows is
    where
      go : (t : Bool) (rest : List (List Literal)) → built (if t then Makes (λ g. record { gates = mux_gates c a d; bits = fresh_bits g (length a) }) else Lacks) g rest ≡ Some b → IsOf S b
      go true [] k = subst (IsOf S) (same_Some _ _ k) (mux_gates-read S one c a d all.0.0 all.1.0 all.1.1.0, of-fresh_bits S (length a) g up)
      go true (r ∷ rest) k = let q : ⊥ = cc in absurd q
      go false rest k = let q : ⊥ = cc in absurd q

  -- ---- the table

  sum_of : (carry : Literal) (a c : List Literal) → S carry.variable → AreOf S a → AreOf S c → IsOf S (sum carry a c g)
  sum_of carry a c hc h k = (add_gates-read S one a c g carry up h k hc, add_bits-of S one a c g up)

  equality_of : (a c : List Literal) → AreOf S a → AreOf S c → IsOf S (equality a c g)
  equality_of a c h k = (equal_gates-read S one a c g true_literal up h k one, (equal_bit-of S one a c g true_literal up one, tt))

  below_of : (a c : List Literal) → AreOf S a → AreOf S c → IsOf S (below a c g)
  below_of a c h k = (ult_gates-read S one g a c up h k, (ult_bit-of S one g a c up, tt))

  signed_below_of : (a c : List Literal) → AreOf S a → AreOf S c → IsOf S (signed_below a c g)
  signed_below_of a c h k = (slt_gates-read S one g a c up h k, (slt_bit-of S one g a c up, tt))

  operator_of : (o : Operator) (rows : List (List Literal)) (b : Block) → Rows rows → built (operator_circuit o) g rows ≡ Some b → IsOf S b
  operator_of plain.True rows b all is = made_leaf (true_literal ∷ []) (one, tt) rows b all is
  operator_of plain.False rows b all is = made_leaf (false_literal ∷ []) (one, tt) rows b all is
  operator_of plain.Not rows b all is = made_one (λ a. wires (map negated a)) (λ a h. (tt, of-negated S a h)) rows b all is
  operator_of plain.And rows b all is = made_two (by_gate Both true) (by_gate-of Both true) rows b all is
  operator_of plain.Or rows b all is = made_two (by_gate Neither false) (by_gate-of Neither false) rows b all is
  operator_of plain.Xor rows b all is = made_two (by_gate Differ true) (by_gate-of Differ true) rows b all is
  operator_of plain.Implies rows b all is = made_two (by_gate ButNot false) (by_gate-of ButNot false) rows b all is
  operator_of plain.Ite rows b all is = made_choice rows b all is
  operator_of plain.Equal rows b all is = made_two equality equality_of rows b all is
  operator_of plain.Bvnot rows b all is = made_one (λ a. wires (map negated a)) (λ a h. (tt, of-negated S a h)) rows b all is
  operator_of plain.Bvneg rows b all is = made_one negation (λ a h. (neg_gates-read S one g a up h, neg_bits-of S one g a up)) rows b all is
  operator_of plain.Bvadd rows b all is = made_two (sum false_literal) (λ a c h k. sum_of false_literal a c one h k) rows b all is
  operator_of plain.Bvsub rows b all is = made_two difference (λ a c h k. sum_of true_literal a (map negated c) one h (of-negated S c k)) rows b all is
  operator_of plain.Bvmul rows b all is = made_some product (λ a c h k. (mul_gates-read S one g a c up h k, mul_bits-of S one g a c up)) rows b all is
  operator_of plain.Bvand rows b all is = made_two (by_gate Both true) (by_gate-of Both true) rows b all is
  operator_of plain.Bvor rows b all is = made_two (by_gate Neither false) (by_gate-of Neither false) rows b all is
  operator_of plain.Bvxor rows b all is = made_two (by_gate Differ true) (by_gate-of Differ true) rows b all is
  operator_of plain.Bvnand rows b all is = made_two (by_gate Both false) (by_gate-of Both false) rows b all is
  operator_of plain.Bvnor rows b all is = made_two (by_gate Neither true) (by_gate-of Neither true) rows b all is
  operator_of plain.Bvxnor rows b all is = made_two (by_gate Differ false) (by_gate-of Differ false) rows b all is
  operator_of plain.Bvudiv rows b all is = made_some quotient (λ a c h k. let d = division-read S one g a c up h k in (d.gates, d.quotient)) rows b all is
  operator_of plain.Bvurem rows b all is = made_some remainder (λ a c h k. ((division-read S one g a c up h k).gates, remainder_bits-of S one g a c up h k)) rows b all is
  operator_of plain.Bvsdiv rows b all is = made_some signed_quotient (λ a c h k. sdiv_read S one g a c up h k) rows b all is
  operator_of plain.Bvsrem rows b all is = made_some signed_remainder (λ a c h k. srem_read S one g a c up h k) rows b all is
  operator_of plain.Bvsmod rows b all is = made_some signed_modulus (λ a c h k. smod_read S one g a c up h k) rows b all is
  operator_of plain.Bvshl rows b all is = made_two shift_up (λ a c h k. (logical_gates-read S one Up g a c up h k, logical_bits-of S one Up g a c up)) rows b all is
  operator_of plain.Bvlshr rows b all is = made_two shift_down (λ a c h k. (logical_gates-read S one Down g a c up h k, logical_bits-of S one Down g a c up)) rows b all is
  operator_of plain.Bvashr rows b all is = made_some signed_shift_down (λ a c h k. (ashr_gates-read S one g a c up h k, ashr_bits-of S one g a c up)) rows b all is
  operator_of plain.Bvult rows b all is = made_two below below_of rows b all is
  operator_of plain.Bvule rows b all is = made_two not_above (λ a c h k. below_of c a k h) rows b all is
  operator_of plain.Bvugt rows b all is = made_two (λ a c. below c a) (λ a c h k. below_of c a k h) rows b all is
  operator_of plain.Bvuge rows b all is = made_two (λ a c. not_above c a) (λ a c h k. below_of a c h k) rows b all is
  operator_of plain.Bvslt rows b all is = made_some signed_below signed_below_of rows b all is
  operator_of plain.Bvsle rows b all is = made_some signed_not_above (λ a c h k. signed_below_of c a k h) rows b all is
  operator_of plain.Bvsgt rows b all is = made_some (λ a c. signed_below c a) (λ a c h k. signed_below_of c a k h) rows b all is
  operator_of plain.Bvsge rows b all is = made_some (λ a c. signed_not_above c a) (λ a c h k. signed_below_of a c h k) rows b all is
  operator_of plain.Bvcomp rows b all is = made_two equality equality_of rows b all is
  operator_of plain.Concat rows b all is = made_joined rows b all is
  operator_of plain.Select rows b all is = let q : ⊥ = cc in absurd q
  operator_of plain.Store rows b all is = let q : ⊥ = cc in absurd q
  operator_of plain.Witness rows b all is = let q : ⊥ = cc in absurd q

  pub block_is_of : (op : Op) (rows : List (List Literal)) (b : Block) → AllByRecursion (AreOf S) rows → built (circuit_of op) g rows ≡ Some b → IsOf S b
  block_is_of (Plain o) rows b all is = operator_of o rows b all is
  block_is_of (Word n x) rows b all is = made_leaf (literal_bits n x) (of-literal n x) rows b all is
  block_is_of (Extract i j) rows b all is = made_one (λ a. wires (extracted i j a)) (λ a h. (tt, of-take S (i + 1 - j) (drop j a) (of-drop S j a h))) rows b all is
  block_is_of (ZeroExtend i) rows b all is = made_one (λ a. wires (a ++ replicate i false_literal)) (λ a h. (tt, of-append S a (replicate i false_literal) h (of-replicate S i false_literal one))) rows b all is
  block_is_of (SignExtend i) rows b all is = made_one (λ a. wires (a ++ replicate i (sign_of a))) (λ a h. (tt, of-append S a (replicate i (sign_of a)) h (of-replicate S i (sign_of a) (of-sign S a one h)))) rows b all is
  block_is_of (RotateLeft i) rows b all is = made_one (λ a. wires (rotated (i % length a) a)) (λ a h. (tt, of-rotated (i % length a) a h)) rows b all is
  block_is_of (RotateRight i) rows b all is = made_one (λ a. wires (rotated (length a - i % length a) a)) (λ a h. (tt, of-rotated (length a - i % length a) a h)) rows b all is
  block_is_of (Repeat i) rows b all is = made_one (λ a. wires (repeated i a)) (λ a h. (tt, of-repeated i a h)) rows b all is
  block_is_of (ConstantArray k) rows b all is = let q : ⊥ = cc in absurd q
  block_is_of (Constant d t) rows b all is = let q : ⊥ = cc in absurd q
  block_is_of (Apply d t) rows b all is = let q : ⊥ = cc in absurd q
  block_is_of (Param k t) rows b all is = let q : ⊥ = cc in absurd q
