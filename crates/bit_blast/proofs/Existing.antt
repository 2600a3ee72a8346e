-- Where the rank allows its arguments and they are rows of their sorts, an operator has a block.
use Rattle.std.proofs.Common.{◌≡◌, ℕ, ◌+◌, ◌*◌, ◌<◌, Bool, true, false, List, [], ◌∷◌, ◌++◌, length, Some, refl, sym, ap, ◌∙◌, subst, arith}
use Rattle.std.specs.Prelude.{if◌then◌else◌, ◌==◌, map, replicate, Result, Ok, Err}
use Rattle.std.proofs.lemmas.Bool.{eqb-true, eq-eqb}
use Rattle.cnf_base.specs.Literals.{Literal, negated, true_literal, false_literal}
use Rattle.cnf_base.specs.Assignments.{fresh_bits}
use Rattle.cnf_base.specs.Choices.{mux_gates}
use Rattle.circ_plain.specs.Signs.{sign_of}
use Rattle.smt_terms.specs.declared.sort.Sort.{Sort}
use Rattle.smt_terms.specs.declared.sort.Sort.TheVariants as sort
use Rattle.smt_terms.specs.declared.operator.Operator.{Operator}
use Rattle.smt_terms.specs.declared.operator.Operator.TheVariants as plain
use Rattle.smt_terms.specs.declared.node.Op.TheVariants.{Plain, Word, Extract, ZeroExtend, SignExtend, RotateLeft, RotateRight, Repeat, ConstantArray, Constant, Apply, Param}
use Rattle.smt_terms.specs.declared.fault.MakeFault.{MakeFault}
use Rattle.smt_terms.specs.declared.fault.MakeFault.TheVariants.{WrongSort}
use Rattle.smt_terms.specs.declared.rank.Demand.TheVariants.{AnyArray, Exactly}
use Rattle.smt_terms.specs.Same.{same_sort}
use Rattle.smt_terms.specs.Ranks.{Rank, Gives, Takes as TakesSort, ranked, one_word, two_words, one_truth, two_truths, concatenation, equality as equality_rank, choice as choice_rank, truth, word_sort, extract_sort, literal_sort, index_sort, element_sort}
use Rattle.smt_terms.specs.Terms.{op_rank}
use Rattle.bit_blast.specs.declared.rows.Connective.TheVariants.{Both, Neither, ButNot, Differ}
use Rattle.bit_blast.specs.Circuits.{CircuitOf, Makes, Takes, Lacks, built, one, two, two_some, wires, by_gate, sum, difference, equality, choice, negation, below, not_above, signed_below, signed_not_above, shift_up, shift_down, signed_shift_down, product, quotient, remainder, signed_quotient, signed_remainder, signed_modulus, literal_bits, extracted, repeated, turned_left, turned_right}
use Rattle.bit_blast.specs.Blocks.{Block, operator_circuit}
use Rattle.bit_blast.specs.Meanings.{IsRowOf, AreRowsOf, BlocksExist}
use Rattle.bit_blast.proofs.Shapes.{same_word, equality_rank_is, choice_rank_is, concatenation_rank_is}

abbrev There : CircuitOf → ℕ → List (List Literal) → Type 0
There c g rows = (b : Block) × (built c g rows ≡ Some b)

row_some : (s : Sort) (a : List Literal) → IsRowOf s a → 0 < length a
row_some sort.Bool a h = omega (arith, h)
row_some (sort.Word n) a h = omega (arith, h.0, h.1)
row_some (sort.Array n m) a h = absurd h

-- rows of one sort are equally long
same_length : (s : Sort) (a c : List Literal) → IsRowOf s a → IsRowOf s c → length a ≡ length c
same_length sort.Bool a c h k = h ∙ sym k
same_length (sort.Word n) a c h k = h.1 ∙ sym k.1
same_length (sort.Array n m) a c h k = absurd h

alike_there : (g : ℕ) (f : List Literal → List Literal → ℕ → Block) (a c : List Literal) → length a ≡ length c → There (two f) g (a ∷ c ∷ [])
alike_there g f a c same =
    subst (λ (t : Bool). (b : Block) × (built (if t then Makes (f a c) else Lacks) g [] ≡ Some b)) (sym (eq-eqb (length a) (length c) same)) (f a c g, refl)

not_zero : (n : ℕ) → 0 < n → (n == 0) ≡ false
not_zero n h = go (n == 0) refl
  where
    go : (t : Bool) → (n == 0) ≡ t → t ≡ false
    go true e = absurd (omega (arith, h, eqb-true n 0 e))
    go false e = refl

some_there : (g : ℕ) (f : List Literal → List Literal → ℕ → Block) (a c : List Literal) → 0 < length a → length a ≡ length c → There (two_some f) g (a ∷ c ∷ [])
some_there g f a c some same =
    subst (λ (t : Bool). (b : Block) × (built (if t then Lacks else (if length a == length c then Makes (f a c) else Lacks)) g [] ≡ Some b)) (sym (not_zero (length a) some)) (alike_there g f a c same)

-- ---- shapes

there_leaf : (g : ℕ) (r : Result Sort MakeFault) (m : ℕ → Block) (ss : List Sort) (rows : List (List Literal)) (s : Sort) → ranked (Gives r) 0 (map Some ss) ≡ Ok s → AreRowsOf ss rows → There (Makes m) g rows
there_leaf g r m (t ∷ ss) rows s rank each = let q : ⊥ = cc in absurd q
there_leaf g r m [] (a ∷ rows) s rank each = absurd each
there_leaf g r m [] [] s rank each = (m g, refl)

there_one : (g : ℕ) (h : ℕ → Result Sort MakeFault) (f : List Literal → ℕ → Block) (ss : List Sort) (rows : List (List Literal)) (s : Sort) → ranked (one_word h) 0 (map Some ss) ≡ Ok s → AreRowsOf ss rows → There (one f) g rows
there_one g h f [] rows s rank each = let q : ⊥ = cc in absurd q
there_one g h f (sort.Bool ∷ ss) rows s rank each = let q : ⊥ = cc in absurd q
there_one g h f (sort.Array n m ∷ ss) rows s rank each = let q : ⊥ = cc in absurd q
there_one g h f (sort.Word n ∷ t ∷ ss) rows s rank each = let q : ⊥ = cc in absurd q
there_one g h f (sort.Word n ∷ []) [] s rank each = absurd each
there_one g h f (sort.Word n ∷ []) (a ∷ c ∷ rows) s rank each = absurd each.1
there_one g h f (sort.Word n ∷ []) (a ∷ []) s rank each = (f a g, refl)

there_truth : (g : ℕ) (f : List Literal → ℕ → Block) (ss : List Sort) (rows : List (List Literal)) (s : Sort) → ranked one_truth 0 (map Some ss) ≡ Ok s → AreRowsOf ss rows → There (one f) g rows
there_truth g f [] rows s rank each = let q : ⊥ = cc in absurd q
there_truth g f (sort.Word n ∷ ss) rows s rank each = let q : ⊥ = cc in absurd q
there_truth g f (sort.Array n m ∷ ss) rows s rank each = let q : ⊥ = cc in absurd q
there_truth g f (sort.Bool ∷ t ∷ ss) rows s rank each = let q : ⊥ = cc in absurd q
there_truth g f (sort.Bool ∷ []) [] s rank each = absurd each
there_truth g f (sort.Bool ∷ []) (a ∷ c ∷ rows) s rank each = absurd each.1
there_truth g f (sort.Bool ∷ []) (a ∷ []) s rank each = (f a g, refl)

-- two words have one sort
two_words_is : (h : Sort → Result Sort MakeFault) (ss : List Sort) (s : Sort) → ranked (two_words h) 0 (map Some ss) ≡ Ok s → (n : ℕ) × (ss ≡ sort.Word n ∷ sort.Word n ∷ [])
two_words_is h [] s rank = let q : ⊥ = cc in absurd q
two_words_is h (sort.Bool ∷ ss) s rank = let q : ⊥ = cc in absurd q
two_words_is h (sort.Array n m ∷ ss) s rank = let q : ⊥ = cc in absurd q
two_words_is h (sort.Word n ∷ []) s rank = let q : ⊥ = cc in absurd q
two_words_is h (sort.Word n ∷ t ∷ u ∷ ss) s rank = absurd (more (same_sort (sort.Word n) t) rank)
  where
    more : (c : Bool) → ◌≡◌ {A = Result Sort MakeFault} (if c then Err (WrongSort 2) else Err (WrongSort 1)) (Ok s) → ⊥
    more true e = cc
    more false e = cc
two_words_is h (sort.Word n ∷ t ∷ []) s rank = go (same_sort (sort.Word n) t) refl rank
  where
    go : (c : Bool) → same_sort (sort.Word n) t ≡ c → ◌≡◌ {A = Result Sort MakeFault} (if c then h (sort.Word n) else Err (WrongSort 1)) (Ok s) → (m : ℕ) × (sort.Word n ∷ t ∷ [] ≡ sort.Word m ∷ sort.Word m ∷ [])
    go true e k = (n, ap (λ u. sort.Word n ∷ u ∷ []) (same_word n t e))
    go false e k = let q : ⊥ = cc in absurd q

two_truths_is : (ss : List Sort) (s : Sort) → ranked two_truths 0 (map Some ss) ≡ Ok s → ss ≡ sort.Bool ∷ sort.Bool ∷ []
two_truths_is [] s rank = let q : ⊥ = cc in absurd q
two_truths_is (sort.Word n ∷ ss) s rank = let q : ⊥ = cc in absurd q
two_truths_is (sort.Array n m ∷ ss) s rank = let q : ⊥ = cc in absurd q
two_truths_is (sort.Bool ∷ []) s rank = let q : ⊥ = cc in absurd q
two_truths_is (sort.Bool ∷ sort.Word n ∷ ss) s rank = let q : ⊥ = cc in absurd q
two_truths_is (sort.Bool ∷ sort.Array n m ∷ ss) s rank = let q : ⊥ = cc in absurd q
two_truths_is (sort.Bool ∷ sort.Bool ∷ t ∷ ss) s rank = let q : ⊥ = cc in absurd q
two_truths_is (sort.Bool ∷ sort.Bool ∷ []) s rank = refl

pair_there : (g : ℕ) (f : List Literal → List Literal → ℕ → Block) (t : Sort) (rows : List (List Literal)) → AreRowsOf (t ∷ t ∷ []) rows → There (two f) g rows
pair_there g f t [] each = absurd each
pair_there g f t (a ∷ []) each = absurd each.1
pair_there g f t (a ∷ c ∷ []) each = alike_there g f a c (same_length t a c each.0 each.1.0)
pair_there g f t (a ∷ c ∷ d ∷ rows) each = absurd each.1.1

some_pair_there : (g : ℕ) (f : List Literal → List Literal → ℕ → Block) (t : Sort) (rows : List (List Literal)) → AreRowsOf (t ∷ t ∷ []) rows → There (two_some f) g rows
some_pair_there g f t [] each = absurd each
some_pair_there g f t (a ∷ []) each = absurd each.1
some_pair_there g f t (a ∷ c ∷ []) each = some_there g f a c (row_some t a each.0) (same_length t a c each.0 each.1.0)
some_pair_there g f t (a ∷ c ∷ d ∷ rows) each = absurd each.1.1

there_two : (g : ℕ) (h : Sort → Result Sort MakeFault) (f : List Literal → List Literal → ℕ → Block) (ss : List Sort) (rows : List (List Literal)) (s : Sort) → ranked (two_words h) 0 (map Some ss) ≡ Ok s → AreRowsOf ss rows → There (two f) g rows
there_two g h f ss rows s rank each =
    let k = two_words_is h ss s rank in
    pair_there g f (sort.Word k.0) rows (subst (λ (ts : List Sort). AreRowsOf ts rows) k.1 each)

there_some : (g : ℕ) (h : Sort → Result Sort MakeFault) (f : List Literal → List Literal → ℕ → Block) (ss : List Sort) (rows : List (List Literal)) (s : Sort) → ranked (two_words h) 0 (map Some ss) ≡ Ok s → AreRowsOf ss rows → There (two_some f) g rows
there_some g h f ss rows s rank each =
    let k = two_words_is h ss s rank in
    some_pair_there g f (sort.Word k.0) rows (subst (λ (ts : List Sort). AreRowsOf ts rows) k.1 each)

there_truths : (g : ℕ) (f : List Literal → List Literal → ℕ → Block) (ss : List Sort) (rows : List (List Literal)) (s : Sort) → ranked two_truths 0 (map Some ss) ≡ Ok s → AreRowsOf ss rows → There (two f) g rows
there_truths g f ss rows s rank each = pair_there g f sort.Bool rows (subst (λ (ts : List Sort). AreRowsOf ts rows) (two_truths_is ss s rank) each)

there_equal : (g : ℕ) (ss : List Sort) (rows : List (List Literal)) (s : Sort) → ranked equality_rank 0 (map Some ss) ≡ Ok s → AreRowsOf ss rows → There (two equality) g rows
there_equal g ss rows s rank each =
    let k = equality_rank_is ss s rank in
    pair_there g equality k.0 rows (subst (λ (ts : List Sort). AreRowsOf ts rows) k.1 each)

joined_there : (g n m : ℕ) (rows : List (List Literal)) → AreRowsOf (sort.Word n ∷ sort.Word m ∷ []) rows → There (Takes λ a. Takes λ c. Makes (wires (c ++ a))) g rows
joined_there g n m [] each = absurd each
joined_there g n m (a ∷ []) each = absurd each.1
joined_there g n m (a ∷ c ∷ []) each = (wires (c ++ a) g, refl)
joined_there g n m (a ∷ c ∷ d ∷ rows) each = absurd each.1.1

there_joined : (g : ℕ) (ss : List Sort) (rows : List (List Literal)) (s : Sort) → ranked concatenation 0 (map Some ss) ≡ Ok s → AreRowsOf ss rows → There (Takes λ a. Takes λ c. Makes (wires (c ++ a))) g rows
there_joined g ss rows s rank each =
    let k = concatenation_rank_is ss s rank in
    joined_there g k.0 k.1 rows (subst (λ (ts : List Sort). AreRowsOf ts rows) k.2 each)

chosen_there : (g : ℕ) (s : Sort) (rows : List (List Literal)) → AreRowsOf (sort.Bool ∷ s ∷ s ∷ []) rows → There choice g rows
chosen_there g s [] each = absurd each
chosen_there g s (c ∷ []) each = absurd each.1
chosen_there g s (c ∷ a ∷ []) each = absurd each.1.1
chosen_there g s (c ∷ a ∷ d ∷ e ∷ rows) each = absurd each.1.1.1
chosen_there g s ([] ∷ a ∷ d ∷ []) each = absurd (omega (arith, each.0))
chosen_there g s ((c ∷ e ∷ cs) ∷ a ∷ d ∷ []) each = absurd (omega (arith, each.0))
chosen_there g s ((c ∷ []) ∷ a ∷ d ∷ []) each =
    subst (λ (t : Bool). (b : Block) × (built (if t then Makes (λ g. record { gates = mux_gates c a d; bits = fresh_bits g (length a) }) else Lacks) g [] ≡ Some b))
    (sym (eq-eqb (length a) (length d) (same_length s a d each.1.0 each.1.1.0)))
    (record { gates = mux_gates c a d; bits = fresh_bits g (length a) }, refl)

there_choice : (g : ℕ) (ss : List Sort) (rows : List (List Literal)) (s : Sort) → ranked choice_rank 0 (map Some ss) ≡ Ok s → AreRowsOf ss rows → There choice g rows
there_choice g ss rows s rank each = chosen_there g s rows (subst (λ (ts : List Sort). AreRowsOf ts rows) (choice_rank_is ss s rank) each)

-- an array is no row
no_array : (next : Sort → Rank) (ss : List Sort) (rows : List (List Literal)) (s : Sort) → ranked (TakesSort AnyArray next) 0 (map Some ss) ≡ Ok s → AreRowsOf ss rows → ⊥
no_array next [] rows s rank each = cc
no_array next (sort.Bool ∷ ss) rows s rank each = cc
no_array next (sort.Word n ∷ ss) rows s rank each = cc
no_array next (sort.Array n m ∷ ss) [] s rank each = each
no_array next (sort.Array n m ∷ ss) (a ∷ rows) s rank each = each.0

-- ---- the table

operator_there : (o : Operator) (g : ℕ) (ss : List Sort) (rows : List (List Literal)) (s : Sort) → op_rank (Plain o) ss ≡ Ok s → AreRowsOf ss rows → There (operator_circuit o) g rows
operator_there plain.True g ss rows s rank each = there_leaf g truth (wires (true_literal ∷ [])) ss rows s rank each
operator_there plain.False g ss rows s rank each = there_leaf g truth (wires (false_literal ∷ [])) ss rows s rank each
operator_there plain.Not g ss rows s rank each = there_truth g (λ a. wires (map negated a)) ss rows s rank each
operator_there plain.And g ss rows s rank each = there_truths g (by_gate Both true) ss rows s rank each
operator_there plain.Or g ss rows s rank each = there_truths g (by_gate Neither false) ss rows s rank each
operator_there plain.Xor g ss rows s rank each = there_truths g (by_gate Differ true) ss rows s rank each
operator_there plain.Implies g ss rows s rank each = there_truths g (by_gate ButNot false) ss rows s rank each
operator_there plain.Ite g ss rows s rank each = there_choice g ss rows s rank each
operator_there plain.Equal g ss rows s rank each = there_equal g ss rows s rank each
operator_there plain.Bvnot g ss rows s rank each = there_one g word_sort (λ a. wires (map negated a)) ss rows s rank each
operator_there plain.Bvneg g ss rows s rank each = there_one g word_sort negation ss rows s rank each
operator_there plain.Bvadd g ss rows s rank each = there_two g Ok (sum false_literal) ss rows s rank each
operator_there plain.Bvsub g ss rows s rank each = there_two g Ok difference ss rows s rank each
operator_there plain.Bvmul g ss rows s rank each = there_some g Ok product ss rows s rank each
operator_there plain.Bvand g ss rows s rank each = there_two g Ok (by_gate Both true) ss rows s rank each
operator_there plain.Bvor g ss rows s rank each = there_two g Ok (by_gate Neither false) ss rows s rank each
operator_there plain.Bvxor g ss rows s rank each = there_two g Ok (by_gate Differ true) ss rows s rank each
operator_there plain.Bvnand g ss rows s rank each = there_two g Ok (by_gate Both false) ss rows s rank each
operator_there plain.Bvnor g ss rows s rank each = there_two g Ok (by_gate Neither true) ss rows s rank each
operator_there plain.Bvxnor g ss rows s rank each = there_two g Ok (by_gate Differ false) ss rows s rank each
operator_there plain.Bvudiv g ss rows s rank each = there_some g Ok quotient ss rows s rank each
operator_there plain.Bvurem g ss rows s rank each = there_some g Ok remainder ss rows s rank each
operator_there plain.Bvsdiv g ss rows s rank each = there_some g Ok signed_quotient ss rows s rank each
operator_there plain.Bvsrem g ss rows s rank each = there_some g Ok signed_remainder ss rows s rank each
operator_there plain.Bvsmod g ss rows s rank each = there_some g Ok signed_modulus ss rows s rank each
operator_there plain.Bvshl g ss rows s rank each = there_two g Ok shift_up ss rows s rank each
operator_there plain.Bvlshr g ss rows s rank each = there_two g Ok shift_down ss rows s rank each
operator_there plain.Bvashr g ss rows s rank each = there_some g Ok signed_shift_down ss rows s rank each
operator_there plain.Bvult g ss rows s rank each = there_two g (λ t. truth) below ss rows s rank each
operator_there plain.Bvule g ss rows s rank each = there_two g (λ t. truth) not_above ss rows s rank each
operator_there plain.Bvugt g ss rows s rank each = there_two g (λ t. truth) (λ a c. below c a) ss rows s rank each
operator_there plain.Bvuge g ss rows s rank each = there_two g (λ t. truth) (λ a c. not_above c a) ss rows s rank each
operator_there plain.Bvslt g ss rows s rank each = there_some g (λ t. truth) signed_below ss rows s rank each
operator_there plain.Bvsle g ss rows s rank each = there_some g (λ t. truth) signed_not_above ss rows s rank each
operator_there plain.Bvsgt g ss rows s rank each = there_some g (λ t. truth) (λ a c. signed_below c a) ss rows s rank each
operator_there plain.Bvsge g ss rows s rank each = there_some g (λ t. truth) (λ a c. signed_not_above c a) ss rows s rank each
operator_there plain.Bvcomp g ss rows s rank each = there_two g (λ t. Ok (sort.Word 1)) equality ss rows s rank each
operator_there plain.Concat g ss rows s rank each = there_joined g ss rows s rank each
operator_there plain.Select g ss rows s rank each = absurd (no_array (λ a. TakesSort (Exactly (index_sort a)) λ i. Gives (Ok (element_sort a))) ss rows s rank each)
operator_there plain.Store g ss rows s rank each = absurd (no_array (λ a. TakesSort (Exactly (index_sort a)) λ i. TakesSort (Exactly (element_sort a)) λ x. Gives (Ok a)) ss rows s rank each)
operator_there plain.Witness g ss rows s rank each = absurd (no_array (λ a. TakesSort (Exactly a) λ b. Gives (Ok (index_sort a))) ss rows s rank each)

pub op_there : BlocksExist
op_there g (Plain o) ss rows s fixed rank each = operator_there o g ss rows s rank each
op_there g (Word n x) ss rows s fixed rank each = there_leaf g (literal_sort n x) (wires (literal_bits n x)) ss rows s rank each
op_there g (Extract i j) ss rows s fixed rank each = there_one g (extract_sort i j) (λ a. wires (extracted i j a)) ss rows s rank each
op_there g (ZeroExtend i) ss rows s fixed rank each = there_one g (λ n. word_sort (n + i)) (λ a. wires (a ++ replicate i false_literal)) ss rows s rank each
op_there g (SignExtend i) ss rows s fixed rank each = there_one g (λ n. word_sort (n + i)) (λ a. wires (a ++ replicate i (sign_of a))) ss rows s rank each
op_there g (RotateLeft i) ss rows s fixed rank each = there_one g word_sort (λ a. wires (turned_left i a)) ss rows s rank each
op_there g (RotateRight i) ss rows s fixed rank each = there_one g word_sort (λ a. wires (turned_right i a)) ss rows s rank each
op_there g (Repeat i) ss rows s fixed rank each = there_one g (λ n. word_sort (n * i)) (λ a. wires (repeated i a)) ss rows s rank each
op_there g (ConstantArray k) ss rows s fixed rank each = let q : ⊥ = cc in absurd q
op_there g (Constant d t) ss rows s fixed rank each = let q : ⊥ = cc in absurd q
op_there g (Apply d t) ss rows s fixed rank each = let q : ⊥ = cc in absurd q
op_there g (Param k t) ss rows s fixed rank each = let q : ⊥ = cc in absurd q
