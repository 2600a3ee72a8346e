-- No block over rows of at most 128 bits has more than 2^17 gates.
use Rattle.std.proofs.Common.{◌≡◌, ℕ, ◌+◌, ◌*◌, ◌^◌, ◌≤◌, Bool, true, false, List, [], ◌∷◌, ◌++◌, length, Option, Some, None, refl, sym, ap, ◌∙◌, subst, arith}
use Rattle.std.specs.Prelude.{if◌then◌else◌, ◌==◌, map, replicate, Result, Ok, Err, IfOk, OnErr, MatchOption}
use Rattle.std.specs.List.{AllByRecursion}
use Rattle.std.proofs.Math.Nat.{mul-le-mul}
use Rattle.std.proofs.lemmas.Bool.{eqb-true}
use Rattle.std.proofs.lemmas.List.{length-map}
use Rattle.cnf_base.specs.Literals.{Literal, negated, true_literal, false_literal}
use Rattle.cnf_base.specs.Assignments.{fresh_bits}
use Rattle.cnf_base.specs.Choices.{mux_gates}
use Rattle.cnf_base.specs.Circuits.{CircuitValue}
use Rattle.cnf_base.proofs.Adding.{length-add_gates}
use Rattle.cnf_base.proofs.Choosing.{length-mux_gates}
use Rattle.cnf_base.proofs.Equating.{length-equal_gates}
use Rattle.circ_plain.specs.Signs.{sign_of}
use Rattle.circ_plain.specs.Orders.{with_sign}
use Rattle.circ_plain.proofs.Negating.{length-neg_gates}
use Rattle.circ_plain.proofs.Comparing.{length-below_gates, length-with_sign}
use Rattle.circ_plain.proofs.Shifting.{shl_room, lshr_room, arithmetic_room}
use Rattle.circ_muldiv.specs.Sizes.{sdiv_size, srem_size, smod_size}
use Rattle.circ_muldiv.proofs.Counting.{mul_small, divide_small, length-mul_gates, length-divide_gates, length-sdiv_gates, length-srem_gates, length-smod_gates}
use Rattle.smt_terms.specs.declared.operator.Operator.{Operator}
use Rattle.smt_terms.specs.declared.operator.Operator.TheVariants as plain
use Rattle.smt_terms.specs.declared.node.Op.TheVariants.{Plain, Word, Extract, ZeroExtend, SignExtend, RotateLeft, RotateRight, Repeat, ConstantArray, Constant, Apply, Param}
use Rattle.smt_terms.specs.declared.node.Node.{Node}
use Rattle.smt_terms.specs.Bits.{TermBits, bits_in}
use Rattle.bit_blast.specs.declared.rows.Connective.{Connective}
use Rattle.bit_blast.specs.declared.rows.Connective.TheVariants.{Both, Neither, ButNot, Differ}
use Rattle.bit_blast.specs.Circuits.{Makes, Takes, Lacks, built, one, two, two_some, wires, by_gate, sum, difference, equality, choice, negation, below, not_above, signed_below, signed_not_above, shift_up, shift_down, signed_shift_down, product, quotient, remainder, signed_quotient, signed_remainder, signed_modulus, literal_bits, extracted, repeated, turned_left, turned_right}
use Rattle.bit_blast.specs.Blocks.{Block, operator_circuit, circuit_of, with_first, all_bits, block_over, block_of, EachShort, IsBuilt, HasNone}
use Rattle.bit_blast.specs.Meanings.{BlocksAreSmall}
use Rattle.bit_blast.proofs.Counting.{short_of}
use Rattle.bit_blast.proofs.Ordered.{length-each_gate}
use Rattle.bit_blast.proofs.Shapes.{some_rows}
use Rattle.std.proofs.lemmas.Option.{same_Some}

-- what is to be shown of a block
abbrev pub Few : Block → Type 0
Few b = length b.gates ≤ 2 ^ 17

abbrev Short : List (List Literal) → Type 0
Short = AllByRecursion (λ r. length r ≤ 128)

few_wires : (bits : List Literal) (g : ℕ) → Few (wires bits g)
few_wires bits g = omega arith

-- ---- shapes

few_leaf : (g : ℕ) (bits : List Literal) (rows : List (List Literal)) (b : Block) → built (Makes (wires bits)) g rows ≡ Some b → Few b
few_leaf g bits [] b is = subst Few (same_Some _ _ is) (few_wires bits g)
few_leaf g bits (a ∷ rows) b is = let q : ⊥ = cc in absurd q

few_one : (g : ℕ) (f : List Literal → ℕ → Block) → ((a : List Literal) → length a ≤ 128 → Few (f a g)) → (rows : List (List Literal)) (b : Block) → Short rows → built (one f) g rows ≡ Some b → Few b
few_one g f h [] b all is = let q : ⊥ = cc in absurd q
few_one g f h (a ∷ []) b all is = subst Few (same_Some _ _ is) (h a all.0)
few_one g f h (a ∷ c ∷ rows) b all is = let q : ⊥ = cc in absurd q

few_two : (g : ℕ) (f : List Literal → List Literal → ℕ → Block) → ((a c : List Literal) → length a ≡ length c → length a ≤ 128 → Few (f a c g)) → (rows : List (List Literal)) (b : Block) → Short rows → built (two f) g rows ≡ Some b → Few b
few_two g f h [] b all is = let q : ⊥ = cc in absurd q
few_two g f h (a ∷ []) b all is = let q : ⊥ = cc in absurd q
few_two g f h (a ∷ c ∷ rows) b all is = go (length a == length c) refl rows is
  where
    go : (t : Bool) → (length a == length c) ≡ t → (rest : List (List Literal)) → built (if t then Makes (f a c) else Lacks) g rest ≡ Some b → Few b
    go true e [] k = subst Few (same_Some _ _ k) (h a c (eqb-true (length a) (length c) e) all.0)
    go true e (d ∷ rest) k = let q : ⊥ = cc in absurd q
    go false e rest k = let q : ⊥ = cc in absurd q

few_some : (g : ℕ) (f : List Literal → List Literal → ℕ → Block) → ((a c : List Literal) → length a ≡ length c → length a ≤ 128 → Few (f a c g)) → (rows : List (List Literal)) (b : Block) → Short rows → built (two_some f) g rows ≡ Some b → Few b
few_some g f h rows b all is = few_two g f h rows b all (some_rows f g rows b is).1

few_joined : (g : ℕ) (rows : List (List Literal)) (b : Block) → built (Takes λ a. Takes λ c. Makes (wires (c ++ a))) g rows ≡ Some b → Few b
few_joined g [] b is = let q : ⊥ = cc in absurd q
few_joined g (a ∷ []) b is = let q : ⊥ = cc in absurd q
few_joined g (a ∷ c ∷ []) b is = subst Few (same_Some _ _ is) (few_wires (c ++ a) g)
few_joined g (a ∷ c ∷ d ∷ rows) b is = let q : ⊥ = cc in absurd q

few_choice : (g : ℕ) (rows : List (List Literal)) (b : Block) → Short rows → built choice g rows ≡ Some b → Few b
few_choice g [] b all is = let q : ⊥ = cc in absurd q
few_choice g (c ∷ []) b all is = let q : ⊥ = cc in absurd q
few_choice g (c ∷ a ∷ []) b all is = let q : ⊥ = cc in absurd q
few_choice g ([] ∷ a ∷ d ∷ rows) b all is = let q : ⊥ = cc in absurd q
few_choice g ((c ∷ e ∷ cs) ∷ a ∷ d ∷ rows) b all is = let q : ⊥ = cc in absurd q
few_choice g ((c ∷ []) ∷ a ∷ d ∷ rows) b all is = go (length a == length d) refl rows is
  where
    go : (t : Bool) → (length a == length d) ≡ t → (rest : List (List Literal)) → built (if t then Makes (λ g. record { gates = mux_gates c a d; bits = fresh_bits g (length a) }) else Lacks) g rest ≡ Some b → Few b
    go true e [] k =
        let gates = length-mux_gates c a d (eqb-true (length a) (length d) e) in
        subst Few (same_Some _ _ k) (omega (arith, gates, all.1.0))
    go true e (r ∷ rest) k = let q : ⊥ = cc in absurd q
    go false e rest k = let q : ⊥ = cc in absurd q

-- ---- circuits

few_gates : (k : Connective) (positive : Bool) (g : ℕ) (a c : List Literal) → length a ≡ length c → length a ≤ 128 → Few (by_gate k positive a c g)
few_gates k positive g a c e h = omega (arith, length-each_gate k a c e)

few_sum : (c : Literal) (g : ℕ) (a b : List Literal) → length a ≡ length b → length a ≤ 128 → Few (sum c a b g)
few_sum c g a b e h = omega (arith, length-add_gates g a b c e)

few_difference : (g : ℕ) (a b : List Literal) → length a ≡ length b → length a ≤ 128 → Few (difference a b g)
few_difference g a b e h = few_sum true_literal g a (map negated b) (e ∙ sym (length-map b negated)) h

few_equality : (g : ℕ) (a b : List Literal) → length a ≡ length b → length a ≤ 128 → Few (equality a b g)
few_equality g a b e h = omega (arith, length-equal_gates g true_literal a b e)

few_below : (g : ℕ) (a b : List Literal) → length a ≡ length b → length a ≤ 128 → Few (below a b g)
few_below g a b e h = omega (arith, length-below_gates g false_literal a b e)

few_above : (g : ℕ) (a b : List Literal) → length a ≡ length b → length a ≤ 128 → Few (below b a g)
few_above g a b e h = few_below g b a (sym e) (omega arith)

-- a row with another sign has a bit at least
signed_length : (a b : List Literal) (s t : Literal) → length a ≡ length b → length a ≤ 128 → (length (with_sign a s) ≡ length (with_sign b t)) × (length (with_sign a s) ≤ 128)
signed_length [] [] s t e h = (refl, omega arith)
signed_length [] (y ∷ b) s t e h = absurd (omega arith)
signed_length (x ∷ a) [] s t e h = absurd (omega arith)
signed_length (x ∷ a) (y ∷ b) s t e h =
    let p = length-with_sign (x ∷ a) s (omega arith) in
    let q = length-with_sign (y ∷ b) t (omega arith) in
    (p ∙ e ∙ sym q, subst (λ n. n ≤ 128) (sym p) h)

few_signed_below : (g : ℕ) (a b : List Literal) → length a ≡ length b → length a ≤ 128 → Few (signed_below a b g)
few_signed_below g a b e h =
    let k = signed_length a b (sign_of b) (sign_of a) e h in
    few_below g (with_sign a (sign_of b)) (with_sign b (sign_of a)) k.0 k.1

few_signed_above : (g : ℕ) (a b : List Literal) → length a ≡ length b → length a ≤ 128 → Few (signed_below b a g)
few_signed_above g a b e h = few_signed_below g b a (sym e) (omega arith)

shifted_few : (gates n t : ℕ) → gates ≤ n * t + t + n → n ≡ t → n ≤ 128 → gates ≤ 2 ^ 17
shifted_few gates n t few same short =
    let product : n * t ≤ 128 * 128 = mul-le-mul short (subst (λ m. m ≤ 128) same short) in
    omega (arith, few, product, short, same)

sdiv_small : (n : ℕ) → n ≤ 128 → sdiv_size n ≤ 2 ^ 17
sdiv_small n h = omega (arith, divide_small n h)

srem_small : (n : ℕ) → n ≤ 128 → srem_size n ≤ 2 ^ 17
srem_small n h = omega (arith, divide_small n h)

smod_small : (n : ℕ) → n ≤ 128 → smod_size n ≤ 2 ^ 17
smod_small n h = omega (arith, divide_small n h)

few_product : (g : ℕ) (a b : List Literal) → length a ≡ length b → length a ≤ 128 → Few (product a b g)
few_product g a b e h = subst (λ n. n ≤ 2 ^ 17) (sym (length-mul_gates g a b e)) (mul_small (length a) h)

few_quotient : (g : ℕ) (a b : List Literal) → length a ≡ length b → length a ≤ 128 → Few (quotient a b g)
few_quotient g a b e h = subst (λ n. n ≤ 2 ^ 17) (sym (length-divide_gates g a b e)) (omega (arith, divide_small (length a) h))

few_signed_quotient : (g : ℕ) (a b : List Literal) → length a ≡ length b → length a ≤ 128 → Few (signed_quotient a b g)
few_signed_quotient g a b e h = subst (λ n. n ≤ 2 ^ 17) (sym (length-sdiv_gates g a b e)) (sdiv_small (length a) h)

few_signed_remainder : (g : ℕ) (a b : List Literal) → length a ≡ length b → length a ≤ 128 → Few (signed_remainder a b g)
few_signed_remainder g a b e h = subst (λ n. n ≤ 2 ^ 17) (sym (length-srem_gates g a b e)) (srem_small (length a) h)

few_signed_modulus : (g : ℕ) (a b : List Literal) → length a ≡ length b → length a ≤ 128 → Few (signed_modulus a b g)
few_signed_modulus g a b e h = subst (λ n. n ≤ 2 ^ 17) (sym (length-smod_gates g a b e)) (smod_small (length a) h)

-- ---- the table

operator_small : (o : Operator) (g : ℕ) (rows : List (List Literal)) (b : Block) → Short rows → built (operator_circuit o) g rows ≡ Some b → Few b
operator_small plain.True g rows b all is = few_leaf g (true_literal ∷ []) rows b is
operator_small plain.False g rows b all is = few_leaf g (false_literal ∷ []) rows b is
operator_small plain.Not g rows b all is = few_one g (λ a. wires (map negated a)) (λ a h. few_wires (map negated a) g) rows b all is
operator_small plain.And g rows b all is = few_two g (by_gate Both true) (few_gates Both true g) rows b all is
operator_small plain.Or g rows b all is = few_two g (by_gate Neither false) (few_gates Neither false g) rows b all is
operator_small plain.Xor g rows b all is = few_two g (by_gate Differ true) (few_gates Differ true g) rows b all is
operator_small plain.Implies g rows b all is = few_two g (by_gate ButNot false) (few_gates ButNot false g) rows b all is
operator_small plain.Ite g rows b all is = few_choice g rows b all is
operator_small plain.Equal g rows b all is = few_two g equality (few_equality g) rows b all is
operator_small plain.Bvnot g rows b all is = few_one g (λ a. wires (map negated a)) (λ a h. few_wires (map negated a) g) rows b all is
operator_small plain.Bvneg g rows b all is = few_one g negation (λ a h. omega (arith, length-neg_gates g a)) rows b all is
operator_small plain.Bvadd g rows b all is = few_two g (sum false_literal) (few_sum false_literal g) rows b all is
operator_small plain.Bvsub g rows b all is = few_two g difference (few_difference g) rows b all is
operator_small plain.Bvmul g rows b all is = few_some g product (few_product g) rows b all is
operator_small plain.Bvand g rows b all is = few_two g (by_gate Both true) (few_gates Both true g) rows b all is
operator_small plain.Bvor g rows b all is = few_two g (by_gate Neither false) (few_gates Neither false g) rows b all is
operator_small plain.Bvxor g rows b all is = few_two g (by_gate Differ true) (few_gates Differ true g) rows b all is
operator_small plain.Bvnand g rows b all is = few_two g (by_gate Both false) (few_gates Both false g) rows b all is
operator_small plain.Bvnor g rows b all is = few_two g (by_gate Neither true) (few_gates Neither true g) rows b all is
operator_small plain.Bvxnor g rows b all is = few_two g (by_gate Differ false) (few_gates Differ false g) rows b all is
operator_small plain.Bvudiv g rows b all is = few_some g quotient (few_quotient g) rows b all is
operator_small plain.Bvurem g rows b all is = few_some g remainder (few_quotient g) rows b all is
operator_small plain.Bvsdiv g rows b all is = few_some g signed_quotient (few_signed_quotient g) rows b all is
operator_small plain.Bvsrem g rows b all is = few_some g signed_remainder (few_signed_remainder g) rows b all is
operator_small plain.Bvsmod g rows b all is = few_some g signed_modulus (few_signed_modulus g) rows b all is
operator_small plain.Bvshl g rows b all is = few_two g shift_up (λ a c e h. shifted_few _ _ _ (shl_room g a c) e h) rows b all is
operator_small plain.Bvlshr g rows b all is = few_two g shift_down (λ a c e h. shifted_few _ _ _ (lshr_room g a c) e h) rows b all is
operator_small plain.Bvashr g rows b all is = few_some g signed_shift_down (λ a c e h. shifted_few _ _ _ (arithmetic_room g a c) e h) rows b all is
operator_small plain.Bvult g rows b all is = few_two g below (few_below g) rows b all is
operator_small plain.Bvule g rows b all is = few_two g not_above (few_above g) rows b all is
operator_small plain.Bvugt g rows b all is = few_two g (λ a c. below c a) (few_above g) rows b all is
operator_small plain.Bvuge g rows b all is = few_two g (λ a c. not_above c a) (few_below g) rows b all is
operator_small plain.Bvslt g rows b all is = few_some g signed_below (few_signed_below g) rows b all is
operator_small plain.Bvsle g rows b all is = few_some g signed_not_above (few_signed_above g) rows b all is
operator_small plain.Bvsgt g rows b all is = few_some g (λ a c. signed_below c a) (few_signed_above g) rows b all is
operator_small plain.Bvsge g rows b all is = few_some g (λ a c. signed_not_above c a) (few_signed_below g) rows b all is
operator_small plain.Bvcomp g rows b all is = few_two g equality (few_equality g) rows b all is
operator_small plain.Concat g rows b all is = few_joined g rows b is
operator_small plain.Select g rows b all is = let q : ⊥ = cc in absurd q
operator_small plain.Store g rows b all is = let q : ⊥ = cc in absurd q
operator_small plain.Witness g rows b all is = let q : ⊥ = cc in absurd q

pub op_small : BlocksAreSmall
op_small g (Plain o) rows b all is = operator_small o g rows b all is
op_small g (Word n x) rows b all is = few_leaf g (literal_bits n x) rows b is
op_small g (Extract i j) rows b all is = few_one g (λ a. wires (extracted i j a)) (λ a h. few_wires (extracted i j a) g) rows b all is
op_small g (ZeroExtend i) rows b all is = few_one g (λ a. wires (a ++ replicate i false_literal)) (λ a h. few_wires (a ++ replicate i false_literal) g) rows b all is
op_small g (SignExtend i) rows b all is = few_one g (λ a. wires (a ++ replicate i (sign_of a))) (λ a h. few_wires (a ++ replicate i (sign_of a)) g) rows b all is
op_small g (RotateLeft i) rows b all is = few_one g (λ a. wires (turned_left i a)) (λ a h. few_wires (turned_left i a) g) rows b all is
op_small g (RotateRight i) rows b all is = few_one g (λ a. wires (turned_right i a)) (λ a h. few_wires (turned_right i a) g) rows b all is
op_small g (Repeat i) rows b all is = few_one g (λ a. wires (repeated i a)) (λ a h. few_wires (repeated i a) g) rows b all is
op_small g (ConstantArray k) rows b all is = let q : ⊥ = cc in absurd q
op_small g (Constant d t) rows b all is = let q : ⊥ = cc in absurd q
op_small g (Apply d t) rows b all is = let q : ⊥ = cc in absurd q
op_small g (Param k t) rows b all is = let q : ⊥ = cc in absurd q

-- ---- what a call appends

-- rows that terms have are short
all_short : (held : List TermBits) → EachShort held → (ts : List ℕ) (rows : List (List Literal)) → all_bits (bits_in held) ts ≡ Some rows → Short rows
all_short held short [] rows e = let q : [] ≡ rows = cc in subst Short q tt
all_short held short (t ∷ ts) rows e = go (λ bs q. all_short held short ts bs q) (bits_in held t) (all_bits (bits_in held) ts) refl refl e
  where
    go : ((bs : List (List Literal)) → all_bits (bits_in held) ts ≡ Some bs → Short bs)
        → (o : Option (List Literal)) (r : Option (List (List Literal))) → bits_in held t ≡ o → all_bits (bits_in held) ts ≡ r → with_first o r ≡ Some rows → Short rows
    go others (Some b) (Some bs) p q k =
        let same : b ∷ bs ≡ rows = cc in
        subst Short same (short_of held t b short (sym p), others bs q)
    go others (Some b) None p q k = let f : ⊥ = cc in absurd f
    go others None r p q k = let f : ⊥ = cc in absurd f

block_small : (old new : CircuitValue) (held : List TermBits) (n : Node) (row : List Literal) (rows : List (List Literal)) (k : Option Block) → EachShort held
    → all_bits (bits_in held) n.args ≡ Some rows → built (circuit_of n.op) old.next rows ≡ k → IsBuilt k row old new → new.next ≤ old.next + 2 ^ 17
block_small old new held n row rows None short args is h = absurd h
block_small old new held n row rows (Some b) short args is h =
    let few : length b.gates ≤ 2 ^ 17 = op_small old.next n.op rows b (all_short held short n.args rows args) is in
    omega (arith, h.1.next, few)

built_small : (old new : CircuitValue) (held : List TermBits) (n : Node) (row : List Literal) → EachShort held → IsBuilt (block_of old.next (bits_in held) n) row old new → new.next ≤ old.next + 2 ^ 17
built_small old new held n row short h = go (all_bits (bits_in held) n.args) refl h
  where
    go : (r : Option (List (List Literal))) → all_bits (bits_in held) n.args ≡ r → IsBuilt (block_over n.op old.next r) row old new → new.next ≤ old.next + 2 ^ 17
    go None args h = absurd h
    go (Some rows) args h = block_small old new held n row rows (built (circuit_of n.op) old.next rows) short args refl h

-- whatever comes of a call, it takes few variables
pub result_small : {V E : Type 0} (r : Result (Option V) E) (items : V → List Literal) (old new : CircuitValue) (held : List TermBits) (n : Node) → EachShort held
    → IfOk r (λ o. MatchOption o (HasNone (block_of old.next (bits_in held) n) old new) (λ row. IsBuilt (block_of old.next (bits_in held) n) (items row) old new))
    → OnErr r (new ≡ old) → new.next ≤ old.next + 2 ^ 17
result_small (Err e) items old new held n short h same = omega (arith, ap (λ (c : CircuitValue). c.next) same)
result_small (Ok None) items old new held n short h same = omega (arith, ap (λ (c : CircuitValue). c.next) h.1)
result_small (Ok (Some row)) items old new held n short h same = built_small old new held n (items row) short h
