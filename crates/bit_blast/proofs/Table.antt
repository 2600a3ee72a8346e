-- Each operator's block is correct: one line an operator.
use Rattle.std.proofs.Common.{◌≡◌, ℕ, ◌+◌, ◌-◌, ◌*◌, Bool, true, false, not, ◌&&◌, ◌||◌, List, [], ◌∷◌, ◌++◌, Some, refl, subst}
use Rattle.std.specs.Prelude.{map, replicate, bit_and, bit_or, bit_xor, Result, Ok}
use Rattle.cnf_base.specs.Literals.{Literal, negated, true_literal, false_literal}
use Rattle.cnf_base.specs.Gates.{HaveMeaning}
use Rattle.cnf_base.proofs.Truth.{lit_true-negated}
use Rattle.smt_words.specs.Words.{not_of, neg_of, and_of, or_of, xor_of, nand_of, nor_of, xnor_of, add_of, sub_of, mul_of, udiv_of, urem_of, sdiv_of, srem_of, smod_of, shl_of, lshr_of, ashr_of, ult_of, ule_of, slt_of, sle_of, comp_of, extract_of, sign_extend_of, rotate_left_of, rotate_right_of, repeat_of}
use Rattle.circ_plain.specs.Signs.{sign_of}
use Rattle.circ_plain.proofs.Bits.{false_is_false}
use Rattle.smt_terms.specs.declared.sort.Sort.{Sort}
use Rattle.smt_terms.specs.declared.sort.Sort.TheVariants as sort
use Rattle.smt_terms.specs.declared.operator.Operator.{Operator}
use Rattle.smt_terms.specs.declared.operator.Operator.TheVariants as plain
use Rattle.smt_terms.specs.declared.node.Op.TheVariants.{Plain, Word, Extract, ZeroExtend, SignExtend, RotateLeft, RotateRight, Repeat, ConstantArray, Constant, Apply, Param}
use Rattle.smt_terms.specs.declared.fault.MakeFault.{MakeFault}
use Rattle.smt_terms.specs.Ranks.{ranked, Gives, truth, word_sort, extract_sort, literal_sort}
use Rattle.smt_terms.specs.Terms.{op_rank}
use Rattle.smt_terms.specs.Values.{Value, VBool, VWord, applied, differ, operator_meaning}
use Rattle.bit_blast.specs.declared.rows.Connective.TheVariants.{Both, Neither, ButNot, Differ}
use Rattle.bit_blast.specs.Circuits.{Makes, built, wires, by_gate, sum, difference, equality, negation, below, not_above, signed_below, signed_not_above, shift_up, shift_down, signed_shift_down, product, quotient, remainder, signed_quotient, signed_remainder, signed_modulus, literal_bits, extracted, turned_left, turned_right, repeated}
use Rattle.bit_blast.specs.Blocks.{Block, operator_circuit}
use Rattle.bit_blast.specs.Meanings.{AreBitsOf, EachIsBits, BlocksAreCorrect}
use Rattle.bit_blast.proofs.Bitwise.{said, agreed, and_works, or_works, xor_works}
use Rattle.bit_blast.proofs.Shapes.{one_correct, two_correct, some_correct, truth_correct, truths_correct}
use Rattle.bit_blast.proofs.Correct.{ok_is, as_truth, direct_means, nand_means, nor_means, pair_means, sum_means, difference_means}
use Rattle.bit_blast.proofs.Wired.{literal_means, not_means, neg_means, extract_means, zero_extend_means, sign_extend_means, rotate_left_means, rotate_right_means, repeat_means}
use Rattle.bit_blast.proofs.Arithmetic.{product_means, quotient_means, remainder_means, signed_quotient_means, signed_remainder_means, signed_modulus_means}
use Rattle.bit_blast.proofs.Compared.{below_means, above_means, not_above_means, not_below_means, signed_below_means, signed_above_means, signed_not_above_means, signed_not_below_means, shift_up_means, shift_down_means, signed_shift_down_means, comparison_means, equality_correct, concatenation_correct, choice_correct}
use Rattle.std.proofs.lemmas.Option.{same_Some}

-- an operator without arguments
leaf_correct : (v : ℕ → Bool) (g : ℕ) (r : Result Sort MakeFault) (bits : List Literal) (x : Value) → ((s : Sort) → r ≡ Ok s → AreBitsOf v s bits x)
    → (ss : List Sort) (rows : List (List Literal)) (xs : List Value) (s : Sort) (b : Block)
    → ranked (Gives r) 0 (map Some ss) ≡ Ok s → EachIsBits v ss rows xs → built (Makes (wires bits)) g rows ≡ Some b
    → AreBitsOf v s b.bits x
leaf_correct v g r bits x means (t ∷ ss) rows xs s b rank each is = let q : ⊥ = cc in absurd q
leaf_correct v g r bits x means [] (a ∷ rows) xs s b rank each is = absurd each
leaf_correct v g r bits x means [] [] (y ∷ xs) s b rank each is = absurd each
leaf_correct v g r bits x means [] [] [] s b rank each is = subst (λ (c : Block). AreBitsOf v s c.bits x) (same_Some _ _ is) (means s rank)

and_table : (p q : Bool) → agreed true (said Both p q) ≡ (p && q)
and_table p q = refl

or_table : (p q : Bool) → agreed false (said Neither p q) ≡ (p || q)
or_table true true = refl
or_table true false = refl
or_table false true = refl
or_table false false = refl

xor_table : (p q : Bool) → agreed true (said Differ p q) ≡ differ p q
xor_table p q = refl

implies_table : (p q : Bool) → agreed false (said ButNot p q) ≡ (not p || q)
implies_table true true = refl
implies_table true false = refl
implies_table false true = refl
implies_table false false = refl

operator_correct : (o : Operator) (v : ℕ → Bool) (g : ℕ) → v 1 ≡ true → (ss : List Sort) (rows : List (List Literal)) (xs : List Value) (s : Sort) (b : Block)
    → op_rank (Plain o) ss ≡ Ok s → EachIsBits v ss rows xs → built (operator_circuit o) g rows ≡ Some b → HaveMeaning v g b.gates
    → AreBitsOf v s b.bits (applied (operator_meaning o) xs)
operator_correct plain.True v g one ss rows xs s b rank each is have =
    leaf_correct v g truth (true_literal ∷ []) (VBool true) (λ s e. as_truth v true s true_literal (ok_is e) one) ss rows xs s b rank each is
operator_correct plain.False v g one ss rows xs s b rank each is have =
    leaf_correct v g truth (false_literal ∷ []) (VBool false) (λ s e. as_truth v false s false_literal (ok_is e) (false_is_false v one)) ss rows xs s b rank each is
operator_correct plain.Not v g one ss rows xs s b rank each is have =
    truth_correct v g (λ a. wires (map negated a)) not (λ l h. as_truth v _ sort.Bool (negated l) refl (lit_true-negated v l)) ss rows xs s b rank each is have
operator_correct plain.And v g one ss rows xs s b rank each is have =
    truths_correct v g (by_gate Both true) (λ p q. p && q) (pair_means Both true (λ p q. p && q) and_table v g) ss rows xs s b rank each is have
operator_correct plain.Or v g one ss rows xs s b rank each is have =
    truths_correct v g (by_gate Neither false) (λ p q. p || q) (pair_means Neither false (λ p q. p || q) or_table v g) ss rows xs s b rank each is have
operator_correct plain.Xor v g one ss rows xs s b rank each is have =
    truths_correct v g (by_gate Differ true) (differ) (pair_means Differ true (differ) xor_table v g) ss rows xs s b rank each is have
operator_correct plain.Implies v g one ss rows xs s b rank each is have =
    truths_correct v g (by_gate ButNot false) (λ p q. not p || q) (pair_means ButNot false (λ p q. not p || q) implies_table v g) ss rows xs s b rank each is have
operator_correct plain.Ite v g one ss rows xs s b rank each is have =
    let k = choice_correct v g ss rows xs s b rank each is have in
    rw k.3 k.4
operator_correct plain.Equal v g one ss rows xs s b rank each is have =
    let k = equality_correct v g one ss rows xs s b rank each is have in
    rw k.2 k.3
operator_correct plain.Bvnot v g one ss rows xs s b rank each is have =
    one_correct v g word_sort (λ a. wires (map negated a)) (λ n x. VWord n (not_of n x)) (λ a s e h. not_means v a s e) ss rows xs s b rank each is have
operator_correct plain.Bvneg v g one ss rows xs s b rank each is have =
    one_correct v g word_sort negation (λ n x. VWord n (neg_of n x)) (neg_means v g one) ss rows xs s b rank each is have
operator_correct plain.Bvadd v g one ss rows xs s b rank each is have =
    two_correct v g Ok (sum false_literal) (λ n x y. VWord n (add_of n x y)) (sum_means v g one) ss rows xs s b rank each is have
operator_correct plain.Bvsub v g one ss rows xs s b rank each is have =
    two_correct v g Ok difference (λ n x y. VWord n (sub_of n x y)) (difference_means v g one) ss rows xs s b rank each is have
operator_correct plain.Bvmul v g one ss rows xs s b rank each is have =
    some_correct v g Ok product (λ n x y. VWord n (mul_of n x y)) (product_means v g one) ss rows xs s b rank each is have
operator_correct plain.Bvand v g one ss rows xs s b rank each is have =
    two_correct v g Ok (by_gate Both true) (λ n x y. VWord n (and_of n x y)) (direct_means Both true bit_and and_works v g) ss rows xs s b rank each is have
operator_correct plain.Bvor v g one ss rows xs s b rank each is have =
    two_correct v g Ok (by_gate Neither false) (λ n x y. VWord n (or_of n x y)) (direct_means Neither false bit_or or_works v g) ss rows xs s b rank each is have
operator_correct plain.Bvxor v g one ss rows xs s b rank each is have =
    two_correct v g Ok (by_gate Differ true) (λ n x y. VWord n (xor_of n x y)) (direct_means Differ true bit_xor xor_works v g) ss rows xs s b rank each is have
operator_correct plain.Bvnand v g one ss rows xs s b rank each is have =
    two_correct v g Ok (by_gate Both false) (λ n x y. VWord n (nand_of n x y)) (nand_means Both bit_and and_works v g) ss rows xs s b rank each is have
operator_correct plain.Bvnor v g one ss rows xs s b rank each is have =
    two_correct v g Ok (by_gate Neither true) (λ n x y. VWord n (nor_of n x y)) (nor_means Neither bit_or or_works v g) ss rows xs s b rank each is have
operator_correct plain.Bvxnor v g one ss rows xs s b rank each is have =
    two_correct v g Ok (by_gate Differ false) (λ n x y. VWord n (xnor_of n x y)) (nand_means Differ bit_xor xor_works v g) ss rows xs s b rank each is have
operator_correct plain.Bvudiv v g one ss rows xs s b rank each is have =
    some_correct v g Ok quotient (λ n x y. VWord n (udiv_of n x y)) (quotient_means v g one) ss rows xs s b rank each is have
operator_correct plain.Bvurem v g one ss rows xs s b rank each is have =
    some_correct v g Ok remainder (λ n x y. VWord n (urem_of n x y)) (remainder_means v g one) ss rows xs s b rank each is have
operator_correct plain.Bvsdiv v g one ss rows xs s b rank each is have =
    some_correct v g Ok signed_quotient (λ n x y. VWord n (sdiv_of n x y)) (signed_quotient_means v g one) ss rows xs s b rank each is have
operator_correct plain.Bvsrem v g one ss rows xs s b rank each is have =
    some_correct v g Ok signed_remainder (λ n x y. VWord n (srem_of n x y)) (signed_remainder_means v g one) ss rows xs s b rank each is have
operator_correct plain.Bvsmod v g one ss rows xs s b rank each is have =
    some_correct v g Ok signed_modulus (λ n x y. VWord n (smod_of n x y)) (signed_modulus_means v g one) ss rows xs s b rank each is have
operator_correct plain.Bvshl v g one ss rows xs s b rank each is have =
    two_correct v g Ok shift_up (λ n x y. VWord n (shl_of n x y)) (shift_up_means v g one) ss rows xs s b rank each is have
operator_correct plain.Bvlshr v g one ss rows xs s b rank each is have =
    two_correct v g Ok shift_down (λ n x y. VWord n (lshr_of n x y)) (shift_down_means v g one) ss rows xs s b rank each is have
operator_correct plain.Bvashr v g one ss rows xs s b rank each is have =
    some_correct v g Ok signed_shift_down (λ n x y. VWord n (ashr_of n x y)) (signed_shift_down_means v g one) ss rows xs s b rank each is have
operator_correct plain.Bvult v g one ss rows xs s b rank each is have =
    two_correct v g (λ s. truth) below (λ n x y. VBool (ult_of n x y)) (below_means v g one) ss rows xs s b rank each is have
operator_correct plain.Bvule v g one ss rows xs s b rank each is have =
    two_correct v g (λ s. truth) not_above (λ n x y. VBool (ule_of n x y)) (not_above_means v g one) ss rows xs s b rank each is have
operator_correct plain.Bvugt v g one ss rows xs s b rank each is have =
    two_correct v g (λ s. truth) (λ a b. below b a) (λ n x y. VBool (ult_of n y x)) (above_means v g one) ss rows xs s b rank each is have
operator_correct plain.Bvuge v g one ss rows xs s b rank each is have =
    two_correct v g (λ s. truth) (λ a b. not_above b a) (λ n x y. VBool (ule_of n y x)) (not_below_means v g one) ss rows xs s b rank each is have
operator_correct plain.Bvslt v g one ss rows xs s b rank each is have =
    some_correct v g (λ s. truth) signed_below (λ n x y. VBool (slt_of n x y)) (signed_below_means v g one) ss rows xs s b rank each is have
operator_correct plain.Bvsle v g one ss rows xs s b rank each is have =
    some_correct v g (λ s. truth) signed_not_above (λ n x y. VBool (sle_of n x y)) (signed_not_above_means v g one) ss rows xs s b rank each is have
operator_correct plain.Bvsgt v g one ss rows xs s b rank each is have =
    some_correct v g (λ s. truth) (λ a b. signed_below b a) (λ n x y. VBool (slt_of n y x)) (signed_above_means v g one) ss rows xs s b rank each is have
operator_correct plain.Bvsge v g one ss rows xs s b rank each is have =
    some_correct v g (λ s. truth) (λ a b. signed_not_above b a) (λ n x y. VBool (sle_of n y x)) (signed_not_below_means v g one) ss rows xs s b rank each is have
operator_correct plain.Bvcomp v g one ss rows xs s b rank each is have =
    two_correct v g (λ s. Ok (sort.Word 1)) equality (λ n x y. VWord 1 (comp_of n x y)) (comparison_means v g one) ss rows xs s b rank each is have
operator_correct plain.Concat v g one ss rows xs s b rank each is have =
    let k = concatenation_correct v g ss rows xs s b rank each is in
    rw k.2 k.3
operator_correct plain.Select v g one ss rows xs s b rank each is have =
    let q : ⊥ = cc in absurd q
operator_correct plain.Store v g one ss rows xs s b rank each is have =
    let q : ⊥ = cc in absurd q
operator_correct plain.Witness v g one ss rows xs s b rank each is have =
    let q : ⊥ = cc in absurd q

pub op_correct : BlocksAreCorrect
op_correct M v g (Plain o) ss rows xs s b one rank each is have = operator_correct o v g one ss rows xs s b rank each is have
op_correct M v g (Word n x) ss rows xs s b one rank each is have =
    leaf_correct v g (literal_sort n x) (literal_bits n x) (VWord n x) (λ s e. literal_means v n x s one e) ss rows xs s b rank each is
op_correct M v g (Extract i j) ss rows xs s b one rank each is have =
    one_correct v g (extract_sort i j) (λ a. wires (extracted i j a)) (λ n x. VWord (i - j + 1) (extract_of i j x)) (λ a s e h. extract_means v i j a s e) ss rows xs s b rank each is have
op_correct M v g (ZeroExtend i) ss rows xs s b one rank each is have =
    one_correct v g (λ n. word_sort (n + i)) (λ a. wires (a ++ replicate i false_literal)) (λ n x. VWord (n + i) x) (λ a s e h. zero_extend_means v i one a s e) ss rows xs s b rank each is have
op_correct M v g (SignExtend i) ss rows xs s b one rank each is have =
    one_correct v g (λ n. word_sort (n + i)) (λ a. wires (a ++ replicate i (sign_of a))) (λ n x. VWord (n + i) (sign_extend_of n i x)) (λ a s e h. sign_extend_means v i one a s e) ss rows xs s b rank each is have
op_correct M v g (RotateLeft i) ss rows xs s b one rank each is have =
    one_correct v g word_sort (λ a. wires (turned_left i a)) (λ n x. VWord n (rotate_left_of n i x)) (λ a s e h. rotate_left_means v i a s e) ss rows xs s b rank each is have
op_correct M v g (RotateRight i) ss rows xs s b one rank each is have =
    one_correct v g word_sort (λ a. wires (turned_right i a)) (λ n x. VWord n (rotate_right_of n i x)) (λ a s e h. rotate_right_means v i a s e) ss rows xs s b rank each is have
op_correct M v g (Repeat i) ss rows xs s b one rank each is have =
    one_correct v g (λ n. word_sort (n * i)) (λ a. wires (repeated i a)) (λ n x. VWord (n * i) (repeat_of n i x)) (λ a s e h. repeat_means v i a s e) ss rows xs s b rank each is have
op_correct M v g (ConstantArray k) ss rows xs s b one rank each is have = let q : ⊥ = cc in absurd q
op_correct M v g (Constant d t) ss rows xs s b one rank each is have = let q : ⊥ = cc in absurd q
op_correct M v g (Apply d t) ss rows xs s b one rank each is have = let q : ⊥ = cc in absurd q
op_correct M v g (Param k t) ss rows xs s b one rank each is have = let q : ⊥ = cc in absurd q
