-- Each gate of a block stands after its inputs, and the block's bits are of variables that there are.
use Rattle.std.proofs.Common.{◌≡◌, ℕ, zero, suc, ◌+◌, ◌-◌, ◌%◌, ◌/◌, ◌<◌, Bool, true, false, List, [], ◌∷◌, ◌++◌, length, take, drop, Some, refl, sym, ap, subst, arith}
use Rattle.std.specs.Prelude.{if◌then◌else◌, ◌==◌, map, replicate}
use Rattle.std.specs.List.{AllByRecursion}
use Rattle.std.proofs.lemmas.Bool.{eqb-true}
use Rattle.cnf_base.specs.Literals.{Literal, negated, true_literal, false_literal}
use Rattle.cnf_base.specs.Gates.{AreOrdered}
use Rattle.cnf_base.specs.Assignments.{AreBelow, fresh_bits}
use Rattle.cnf_base.specs.Choices.{mux_gates}
use Rattle.cnf_base.proofs.Agreeing.{AreBelow-more, AreBelow-append, AreBelow-negated, AreBelow-fresh_bits, AreBelow-take, AreBelow-drop, AreBelow-replicate}
use Rattle.cnf_base.proofs.Adding.{add_gates-ordered, add_bits-below}
use Rattle.cnf_base.proofs.Choosing.{mux_gates-ordered, length-mux_gates}
use Rattle.cnf_base.proofs.Equating.{equal_gates-ordered, equal_bit-below}
use Rattle.circ_plain.specs.Signs.{sign_of}
use Rattle.circ_plain.proofs.Ordering.{sign_of-below, neg_gates-ordered, neg_bits-below, ult_gates-ordered, ult_bit-below, slt_gates-ordered, slt_bit-below, shl_gates-ordered, shl_bits-below, lshr_gates-ordered, lshr_bits-below, ashr_gates-ordered, ashr_bits-below}
use Rattle.circ_muldiv.proofs.Ordering.{mul_stands, division_stands, remainder_bits-below, sdiv_stands, srem_stands, smod_stands}
use Rattle.smt_terms.specs.declared.operator.Operator.{Operator}
use Rattle.smt_terms.specs.declared.operator.Operator.TheVariants as plain
use Rattle.smt_terms.specs.declared.node.Op.TheVariants.{Plain, Word, Extract, ZeroExtend, SignExtend, RotateLeft, RotateRight, Repeat, ConstantArray, Constant, Apply, Param}
use Rattle.bit_blast.specs.declared.rows.Connective.{Connective}
use Rattle.bit_blast.specs.declared.rows.Connective.TheVariants.{Both, Neither, ButNot, Differ}
use Rattle.bit_blast.specs.Circuits.{Makes, Takes, Lacks, built, one, two, two_some, wires, signed, each_gate, by_gate, sum, difference, equality, choice, negation, below, not_above, signed_below, signed_not_above, shift_up, shift_down, signed_shift_down, product, quotient, remainder, signed_quotient, signed_remainder, signed_modulus, literal_bits, rotated, extracted, repeated}
use Rattle.bit_blast.specs.Blocks.{Block, operator_circuit}
use Rattle.bit_blast.specs.Meanings.{BlocksAreOrdered}
use Rattle.bit_blast.proofs.Shapes.{some_rows}
use Rattle.std.proofs.lemmas.Option.{same_Some}

-- what is to be shown of a block
abbrev pub Stands : ℕ → Block → Type 0
Stands g b = AreOrdered g b.gates × AreBelow (g + length b.gates) b.bits

abbrev Rows : ℕ → List (List Literal) → Type 0
Rows g rows = AllByRecursion (AreBelow g) rows

wired : (g : ℕ) (bits : List Literal) → AreBelow g bits → Stands g (wires bits g)
wired g bits h = (tt, AreBelow-more g (g + 0) (omega arith) bits h)

-- ---- rows of wires

below-rotated : (g n : ℕ) (a : List Literal) → AreBelow g a → AreBelow g (rotated n a)
below-rotated g n a h = AreBelow-append g (drop (length a - n) a) (take (length a - n) a) (AreBelow-drop (length a - n) g a h) (AreBelow-take (length a - n) g a h)

below-repeated : (g n : ℕ) (a : List Literal) → AreBelow g a → AreBelow g (repeated n a)
below-repeated g zero a h = tt
below-repeated g (suc n) a h = AreBelow-append g a (repeated n a) h (below-repeated g n a h)

below-literal : (g n x : ℕ) → 1 < g → AreBelow g (literal_bits n x)
below-literal g zero x h = tt
below-literal g (suc n) x h = (either (x % 2 == 1), below-literal g n (x / 2) h)
  where
    either : (b : Bool) → (if b then true_literal else false_literal).variable < g
    either true = h
    either false = h

-- ---- rows of gates

each_gate-ordered : (k : Connective) (g : ℕ) (a b : List Literal) → AreBelow g a → AreBelow g b → AreOrdered g (each_gate k a b)
each_gate-ordered k g [] b h i = tt
each_gate-ordered k g (x ∷ a) [] h i = tt
each_gate-ordered Both g (x ∷ a) (y ∷ b) h i = ((h.0, i.0), each_gate-ordered Both (suc g) a b (AreBelow-more g (suc g) (omega arith) a h.1) (AreBelow-more g (suc g) (omega arith) b i.1))
each_gate-ordered Neither g (x ∷ a) (y ∷ b) h i = ((h.0, i.0), each_gate-ordered Neither (suc g) a b (AreBelow-more g (suc g) (omega arith) a h.1) (AreBelow-more g (suc g) (omega arith) b i.1))
each_gate-ordered ButNot g (x ∷ a) (y ∷ b) h i = ((h.0, i.0), each_gate-ordered ButNot (suc g) a b (AreBelow-more g (suc g) (omega arith) a h.1) (AreBelow-more g (suc g) (omega arith) b i.1))
each_gate-ordered Differ g (x ∷ a) (y ∷ b) h i = ((h.0, i.0), each_gate-ordered Differ (suc g) a b (AreBelow-more g (suc g) (omega arith) a h.1) (AreBelow-more g (suc g) (omega arith) b i.1))

pub length-each_gate : (k : Connective) (a b : List Literal) → length a ≡ length b → length (each_gate k a b) ≡ length a
length-each_gate k [] b e = refl
length-each_gate k (x ∷ a) [] e = absurd (omega arith)
length-each_gate k (x ∷ a) (y ∷ b) e = ap suc (length-each_gate k a b (omega arith))

signed_below_row : (n : ℕ) (positive : Bool) (a : List Literal) → AreBelow n a → AreBelow n (signed positive a)
signed_below_row n true a h = h
signed_below_row n false a h = AreBelow-negated n a h

gates_stand : (k : Connective) (positive : Bool) (g : ℕ) (a c : List Literal) → length a ≡ length c → AreBelow g a → AreBelow g c → Stands g (by_gate k positive a c g)
gates_stand k positive g a c e h i =
    (each_gate-ordered k g a c h i, signed_below_row (g + length (each_gate k a c)) positive (fresh_bits g (length a)) (subst (λ n. AreBelow (g + n) (fresh_bits g (length a))) (sym (length-each_gate k a c e)) (AreBelow-fresh_bits (length a) g)))

-- ---- shapes

made_leaf : (g : ℕ) (bits : List Literal) → AreBelow g bits → (rows : List (List Literal)) (b : Block) → Rows g rows → built (Makes (wires bits)) g rows ≡ Some b → Stands g b
made_leaf g bits h [] b all is = subst (Stands g) (same_Some _ _ is) (wired g bits h)
made_leaf g bits h (a ∷ rows) b all is = let q : ⊥ = cc in absurd q

made_one : (g : ℕ) (f : List Literal → ℕ → Block) → ((a : List Literal) → AreBelow g a → Stands g (f a g)) → (rows : List (List Literal)) (b : Block) → Rows g rows → built (one f) g rows ≡ Some b → Stands g b
made_one g f h [] b all is = let q : ⊥ = cc in absurd q
made_one g f h (a ∷ []) b all is = subst (Stands g) (same_Some _ _ is) (h a all.0)
made_one g f h (a ∷ c ∷ rows) b all is = let q : ⊥ = cc in absurd q

made_two : (g : ℕ) (f : List Literal → List Literal → ℕ → Block) → ((a c : List Literal) → length a ≡ length c → AreBelow g a → AreBelow g c → Stands g (f a c g)) → (rows : List (List Literal)) (b : Block) → Rows g rows → built (two f) g rows ≡ Some b → Stands g b
made_two g f h [] b all is = let q : ⊥ = cc in absurd q
made_two g f h (a ∷ []) b all is = let q : ⊥ = cc in absurd q
made_two g f h (a ∷ c ∷ rows) b all is = go (length a == length c) refl rows is
  where
    go : (t : Bool) → (length a == length c) ≡ t → (rest : List (List Literal)) → built (if t then Makes (f a c) else Lacks) g rest ≡ Some b → Stands g b
    go true e [] k = subst (Stands g) (same_Some _ _ k) (h a c (eqb-true (length a) (length c) e) all.0 all.1.0)
    go true e (d ∷ rest) k = let q : ⊥ = cc in absurd q
    go false e rest k = let q : ⊥ = cc in absurd q

made_some : (g : ℕ) (f : List Literal → List Literal → ℕ → Block) → ((a c : List Literal) → length a ≡ length c → AreBelow g a → AreBelow g c → Stands g (f a c g)) → (rows : List (List Literal)) (b : Block) → Rows g rows → built (two_some f) g rows ≡ Some b → Stands g b
made_some g f h rows b all is = made_two g f h rows b all (some_rows f g rows b is).1

made_joined : (g : ℕ) (rows : List (List Literal)) (b : Block) → Rows g rows → built (Takes λ a. Takes λ c. Makes (wires (c ++ a))) g rows ≡ Some b → Stands g b
made_joined g [] b all is = let q : ⊥ = cc in absurd q
made_joined g (a ∷ []) b all is = let q : ⊥ = cc in absurd q
made_joined g (a ∷ c ∷ []) b all is = subst (Stands g) (same_Some _ _ is) (wired g (c ++ a) (AreBelow-append g c a all.1.0 all.0))
made_joined g (a ∷ c ∷ d ∷ rows) b all is = let q : ⊥ = cc in absurd q

made_choice : (g : ℕ) → 1 < g → (rows : List (List Literal)) (b : Block) → Rows g rows → built choice g rows ≡ Some b → Stands g b
made_choice g up [] b all is = let q : ⊥ = cc in absurd q
made_choice g up (c ∷ []) b all is = let q : ⊥ = cc in absurd q
made_choice g up (c ∷ a ∷ []) b all is = let q : ⊥ = cc in absurd q
made_choice g up ([] ∷ a ∷ d ∷ rows) b all is = let q : ⊥ = cc in absurd q
made_choice g up ((c ∷ e ∷ cs) ∷ a ∷ d ∷ rows) b all is = let q : ⊥ = cc in absurd q
made_choice g up ((c ∷ []) ∷ a ∷ d ∷ rows) b all is = go (length a == length d) refl rows is
  where
    go : (t : Bool) → (length a == length d) ≡ t → (rest : List (List Literal)) → built (if t then Makes (λ g. record { gates = mux_gates c a d; bits = fresh_bits g (length a) }) else Lacks) g rest ≡ Some b → Stands g b
    go true e [] k =
        subst (Stands g) (same_Some _ _ k) (mux_gates-ordered a d g c all.1.0 all.1.1.0 all.0.0, subst (λ n. AreBelow (g + n) (fresh_bits g (length a))) (sym (length-mux_gates c a d (eqb-true (length a) (length d) e))) (AreBelow-fresh_bits (length a) g))
    go true e (r ∷ rest) k = let q : ⊥ = cc in absurd q
    go false e rest k = let q : ⊥ = cc in absurd q

-- ---- the table

operator_ordered : (o : Operator) (g : ℕ) (rows : List (List Literal)) (b : Block) → 1 < g → Rows g rows → built (operator_circuit o) g rows ≡ Some b → Stands g b
operator_ordered plain.True g rows b up all is = made_leaf g (true_literal ∷ []) (up, tt) rows b all is
operator_ordered plain.False g rows b up all is = made_leaf g (false_literal ∷ []) (up, tt) rows b all is
operator_ordered plain.Not g rows b up all is = made_one g (λ a. wires (map negated a)) (λ a h. wired g (map negated a) (AreBelow-negated g a h)) rows b all is
operator_ordered plain.And g rows b up all is = made_two g (by_gate Both true) (λ a c e h k. gates_stand Both true g a c e h k) rows b all is
operator_ordered plain.Or g rows b up all is = made_two g (by_gate Neither false) (λ a c e h k. gates_stand Neither false g a c e h k) rows b all is
operator_ordered plain.Xor g rows b up all is = made_two g (by_gate Differ true) (λ a c e h k. gates_stand Differ true g a c e h k) rows b all is
operator_ordered plain.Implies g rows b up all is = made_two g (by_gate ButNot false) (λ a c e h k. gates_stand ButNot false g a c e h k) rows b all is
operator_ordered plain.Ite g rows b up all is = made_choice g up rows b all is
operator_ordered plain.Equal g rows b up all is = made_two g equality (λ a c e h k. (equal_gates-ordered a c g true_literal h k up, (equal_bit-below a c g true_literal up, tt))) rows b all is
operator_ordered plain.Bvnot g rows b up all is = made_one g (λ a. wires (map negated a)) (λ a h. wired g (map negated a) (AreBelow-negated g a h)) rows b all is
operator_ordered plain.Bvneg g rows b up all is = made_one g negation (λ a h. (neg_gates-ordered g a up h, neg_bits-below g a)) rows b all is
operator_ordered plain.Bvadd g rows b up all is = made_two g (sum false_literal) (λ a c e h k. (add_gates-ordered a c g false_literal h k up, add_bits-below a c g false_literal)) rows b all is
operator_ordered plain.Bvsub g rows b up all is = made_two g difference (λ a c e h k. (add_gates-ordered a (map negated c) g true_literal h (AreBelow-negated g c k) up, add_bits-below a (map negated c) g true_literal)) rows b all is
operator_ordered plain.Bvmul g rows b up all is = made_some g product (λ a c e h k. mul_stands g a c up h k) rows b all is
operator_ordered plain.Bvand g rows b up all is = made_two g (by_gate Both true) (λ a c e h k. gates_stand Both true g a c e h k) rows b all is
operator_ordered plain.Bvor g rows b up all is = made_two g (by_gate Neither false) (λ a c e h k. gates_stand Neither false g a c e h k) rows b all is
operator_ordered plain.Bvxor g rows b up all is = made_two g (by_gate Differ true) (λ a c e h k. gates_stand Differ true g a c e h k) rows b all is
operator_ordered plain.Bvnand g rows b up all is = made_two g (by_gate Both false) (λ a c e h k. gates_stand Both false g a c e h k) rows b all is
operator_ordered plain.Bvnor g rows b up all is = made_two g (by_gate Neither true) (λ a c e h k. gates_stand Neither true g a c e h k) rows b all is
operator_ordered plain.Bvxnor g rows b up all is = made_two g (by_gate Differ false) (λ a c e h k. gates_stand Differ false g a c e h k) rows b all is
operator_ordered plain.Bvudiv g rows b up all is = made_some g quotient (λ a c e h k. (let d = division_stands g a c up h k in (d.ordered, d.quotient))) rows b all is
operator_ordered plain.Bvurem g rows b up all is = made_some g remainder (λ a c e h k. ((division_stands g a c up h k).ordered, remainder_bits-below g a c up h k)) rows b all is
operator_ordered plain.Bvsdiv g rows b up all is = made_some g signed_quotient (λ a c e h k. sdiv_stands g a c up e h k) rows b all is
operator_ordered plain.Bvsrem g rows b up all is = made_some g signed_remainder (λ a c e h k. srem_stands g a c up h k) rows b all is
operator_ordered plain.Bvsmod g rows b up all is = made_some g signed_modulus (λ a c e h k. smod_stands g a c up h k) rows b all is
operator_ordered plain.Bvshl g rows b up all is = made_two g shift_up (λ a c e h k. (shl_gates-ordered g a c up h k, shl_bits-below g a c)) rows b all is
operator_ordered plain.Bvlshr g rows b up all is = made_two g shift_down (λ a c e h k. (lshr_gates-ordered g a c up h k, lshr_bits-below g a c)) rows b all is
operator_ordered plain.Bvashr g rows b up all is = made_some g signed_shift_down (λ a c e h k. (ashr_gates-ordered g a c up h k, ashr_bits-below g a c)) rows b all is
operator_ordered plain.Bvult g rows b up all is = made_two g below (λ a c e h k. (ult_gates-ordered g a c up h k, (ult_bit-below g a c up, tt))) rows b all is
operator_ordered plain.Bvule g rows b up all is = made_two g not_above (λ a c e h k. (ult_gates-ordered g c a up k h, (ult_bit-below g c a up, tt))) rows b all is
operator_ordered plain.Bvugt g rows b up all is = made_two g (λ a c. below c a) (λ a c e h k. (ult_gates-ordered g c a up k h, (ult_bit-below g c a up, tt))) rows b all is
operator_ordered plain.Bvuge g rows b up all is = made_two g (λ a c. not_above c a) (λ a c e h k. (ult_gates-ordered g a c up h k, (ult_bit-below g a c up, tt))) rows b all is
operator_ordered plain.Bvslt g rows b up all is = made_some g signed_below (λ a c e h k. (slt_gates-ordered g a c up h k, (slt_bit-below g a c up, tt))) rows b all is
operator_ordered plain.Bvsle g rows b up all is = made_some g signed_not_above (λ a c e h k. (slt_gates-ordered g c a up k h, (slt_bit-below g c a up, tt))) rows b all is
operator_ordered plain.Bvsgt g rows b up all is = made_some g (λ a c. signed_below c a) (λ a c e h k. (slt_gates-ordered g c a up k h, (slt_bit-below g c a up, tt))) rows b all is
operator_ordered plain.Bvsge g rows b up all is = made_some g (λ a c. signed_not_above c a) (λ a c e h k. (slt_gates-ordered g a c up h k, (slt_bit-below g a c up, tt))) rows b all is
operator_ordered plain.Bvcomp g rows b up all is = made_two g equality (λ a c e h k. (equal_gates-ordered a c g true_literal h k up, (equal_bit-below a c g true_literal up, tt))) rows b all is
operator_ordered plain.Concat g rows b up all is = made_joined g rows b all is
operator_ordered plain.Select g rows b up all is = let q : ⊥ = cc in absurd q
operator_ordered plain.Store g rows b up all is = let q : ⊥ = cc in absurd q
operator_ordered plain.Witness g rows b up all is = let q : ⊥ = cc in absurd q

pub op_ordered : BlocksAreOrdered
op_ordered g (Plain o) rows b up all is = operator_ordered o g rows b up all is
op_ordered g (Word n x) rows b up all is = made_leaf g (literal_bits n x) (below-literal g n x up) rows b all is
op_ordered g (Extract i j) rows b up all is = made_one g (λ a. wires (extracted i j a)) (λ a h. wired g (extracted i j a) (AreBelow-take (i + 1 - j) g (drop j a) (AreBelow-drop j g a h))) rows b all is
op_ordered g (ZeroExtend i) rows b up all is = made_one g (λ a. wires (a ++ replicate i false_literal)) (λ a h. wired g (a ++ replicate i false_literal) (AreBelow-append g a (replicate i false_literal) h (AreBelow-replicate i g false_literal up))) rows b all is
op_ordered g (SignExtend i) rows b up all is = made_one g (λ a. wires (a ++ replicate i (sign_of a))) (λ a h. wired g (a ++ replicate i (sign_of a)) (AreBelow-append g a (replicate i (sign_of a)) h (AreBelow-replicate i g (sign_of a) (sign_of-below g a up h)))) rows b all is
op_ordered g (RotateLeft i) rows b up all is = made_one g (λ a. wires (rotated (i % length a) a)) (λ a h. wired g (rotated (i % length a) a) (below-rotated g (i % length a) a h)) rows b all is
op_ordered g (RotateRight i) rows b up all is = made_one g (λ a. wires (rotated (length a - i % length a) a)) (λ a h. wired g (rotated (length a - i % length a) a) (below-rotated g (length a - i % length a) a h)) rows b all is
op_ordered g (Repeat i) rows b up all is = made_one g (λ a. wires (repeated i a)) (λ a h. wired g (repeated i a) (below-repeated g i a h)) rows b all is
op_ordered g (ConstantArray k) rows b up all is = let q : ⊥ = cc in absurd q
op_ordered g (Constant d t) rows b up all is = let q : ⊥ = cc in absurd q
op_ordered g (Apply d t) rows b up all is = let q : ⊥ = cc in absurd q
op_ordered g (Param k t) rows b up all is = let q : ⊥ = cc in absurd q
