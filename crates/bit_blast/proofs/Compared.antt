-- The bits of orders, shifts, equalities and choices are those of their values.
use Rattle.std.proofs.Common.{◌≡◌, ℕ, ◌+◌, ◌*◌, ◌<◌, Bool, true, false, not, ◌&&◌, List, [], ◌∷◌, ◌++◌, length, Some, refl, sym, ap, ◌∙◌, subst, arith}
use Rattle.std.specs.Prelude.{if◌then◌else◌, ◌==◌, map, Result, Ok}
use Rattle.std.proofs.lemmas.Bool.{eq-eqb}
use Rattle.cnf_base.specs.Literals.{Literal, positive_of, true_literal}
use Rattle.cnf_base.specs.Clauses.{lit_true, number, bit}
use Rattle.cnf_base.specs.Gates.{HaveMeaning}
use Rattle.cnf_base.specs.Assignments.{fresh_bits}
use Rattle.cnf_base.specs.Choices.{mux_gates, equal_bit}
use Rattle.cnf_base.proofs.Choosing.{mux_number}
use Rattle.cnf_base.proofs.Equating.{equal_number}
use Rattle.cnf_base.proofs.Rows.{length-fresh_bits}
use Rattle.smt_words.specs.Words.{ult_of, ule_of, slt_of, sle_of, shl_of, lshr_of, ashr_of, comp_of, concat_of}
use Rattle.circ_plain.proofs.Comparing.{ult_is, ule_is, slt_is, sle_is}
use Rattle.circ_plain.proofs.Shifting.{shl_is, lshr_is, ashr_is}
use Rattle.smt_terms.specs.declared.sort.Sort.{Sort}
use Rattle.smt_terms.specs.declared.sort.Sort.TheVariants as sort
use Rattle.smt_terms.specs.declared.fault.MakeFault.{MakeFault}
use Rattle.smt_terms.specs.Ranks.{ranked, concatenation, equality as equality_rank, choice as choice_rank}
use Rattle.smt_terms.specs.Values.{Value, VBool, VWord, same_value, is_true, width_in, number_of}
use Rattle.bit_blast.specs.Circuits.{Makes, Takes, Lacks, built, two, wires, equality, choice, choice_by, below, not_above, signed_below, signed_not_above, shift_up, shift_down, signed_shift_down}
use Rattle.bit_blast.specs.Blocks.{Block}
use Rattle.bit_blast.specs.Meanings.{AreBitsOf, EachIsBits}
use Rattle.bit_blast.proofs.Correct.{ok_is, as_word, as_truth}
use Rattle.bit_blast.proofs.Wired.{concat_means}
use Rattle.bit_blast.proofs.Shapes.{each_two, each_three, equality_rank_is, choice_rank_is, concatenation_rank_is}
use Rattle.std.proofs.lemmas.Option.{same_Some}

-- ---- orders

pub below_means : (v : ℕ → Bool) (g : ℕ) → v 1 ≡ true → (a b : List Literal) (s : Sort) → ◌≡◌ {A = Result Sort MakeFault} (Ok sort.Bool) (Ok s) → length a ≡ length b → HaveMeaning v g (below a b g).gates
    → AreBitsOf v s (below a b g).bits (VBool (ult_of (length a) (number v a) (number v b)))
below_means v g one a b s e same h = as_truth v _ s _ (ok_is e) (ult_is v g a b one same h)

pub above_means : (v : ℕ → Bool) (g : ℕ) → v 1 ≡ true → (a b : List Literal) (s : Sort) → ◌≡◌ {A = Result Sort MakeFault} (Ok sort.Bool) (Ok s) → length a ≡ length b → HaveMeaning v g (below b a g).gates
    → AreBitsOf v s (below b a g).bits (VBool (ult_of (length a) (number v b) (number v a)))
above_means v g one a b s e same h = as_truth v _ s _ (ok_is e) (ult_is v g b a one (sym same) h)

pub not_above_means : (v : ℕ → Bool) (g : ℕ) → v 1 ≡ true → (a b : List Literal) (s : Sort) → ◌≡◌ {A = Result Sort MakeFault} (Ok sort.Bool) (Ok s) → length a ≡ length b → HaveMeaning v g (not_above a b g).gates
    → AreBitsOf v s (not_above a b g).bits (VBool (ule_of (length a) (number v a) (number v b)))
not_above_means v g one a b s e same h = as_truth v _ s _ (ok_is e) (ule_is v g a b one same h)

pub not_below_means : (v : ℕ → Bool) (g : ℕ) → v 1 ≡ true → (a b : List Literal) (s : Sort) → ◌≡◌ {A = Result Sort MakeFault} (Ok sort.Bool) (Ok s) → length a ≡ length b → HaveMeaning v g (not_above b a g).gates
    → AreBitsOf v s (not_above b a g).bits (VBool (ule_of (length a) (number v b) (number v a)))
not_below_means v g one a b s e same h = as_truth v _ s _ (ok_is e) (ule_is v g b a one (sym same) h)

pub signed_below_means : (v : ℕ → Bool) (g : ℕ) → v 1 ≡ true → (a b : List Literal) (s : Sort) → 0 < length a → ◌≡◌ {A = Result Sort MakeFault} (Ok sort.Bool) (Ok s) → length a ≡ length b → HaveMeaning v g (signed_below a b g).gates
    → AreBitsOf v s (signed_below a b g).bits (VBool (slt_of (length a) (number v a) (number v b)))
signed_below_means v g one a b s some e same h = as_truth v _ s _ (ok_is e) (slt_is v g a b one some same h)

pub signed_above_means : (v : ℕ → Bool) (g : ℕ) → v 1 ≡ true → (a b : List Literal) (s : Sort) → 0 < length a → ◌≡◌ {A = Result Sort MakeFault} (Ok sort.Bool) (Ok s) → length a ≡ length b → HaveMeaning v g (signed_below b a g).gates
    → AreBitsOf v s (signed_below b a g).bits (VBool (slt_of (length a) (number v b) (number v a)))
signed_above_means v g one a b s some e same h =
    as_truth v _ s _ (ok_is e) (slt_is v g b a one (omega (arith, same, some)) (sym same) h ∙ ap (λ n. slt_of n (number v b) (number v a)) (sym same))

pub signed_not_above_means : (v : ℕ → Bool) (g : ℕ) → v 1 ≡ true → (a b : List Literal) (s : Sort) → 0 < length a → ◌≡◌ {A = Result Sort MakeFault} (Ok sort.Bool) (Ok s) → length a ≡ length b → HaveMeaning v g (signed_not_above a b g).gates
    → AreBitsOf v s (signed_not_above a b g).bits (VBool (sle_of (length a) (number v a) (number v b)))
signed_not_above_means v g one a b s some e same h = as_truth v _ s _ (ok_is e) (sle_is v g a b one some same h)

pub signed_not_below_means : (v : ℕ → Bool) (g : ℕ) → v 1 ≡ true → (a b : List Literal) (s : Sort) → 0 < length a → ◌≡◌ {A = Result Sort MakeFault} (Ok sort.Bool) (Ok s) → length a ≡ length b → HaveMeaning v g (signed_not_above b a g).gates
    → AreBitsOf v s (signed_not_above b a g).bits (VBool (sle_of (length a) (number v b) (number v a)))
signed_not_below_means v g one a b s some e same h =
    as_truth v _ s _ (ok_is e) (sle_is v g b a one (omega (arith, same, some)) (sym same) h ∙ ap (λ n. sle_of n (number v b) (number v a)) (sym same))

-- ---- shifts

pub shift_up_means : (v : ℕ → Bool) (g : ℕ) → v 1 ≡ true → (a b : List Literal) (s : Sort) → ◌≡◌ {A = Result Sort MakeFault} (Ok (sort.Word (length a))) (Ok s) → length a ≡ length b → HaveMeaning v g (shift_up a b g).gates
    → AreBitsOf v s (shift_up a b g).bits (VWord (length a) (shl_of (length a) (number v a) (number v b)))
shift_up_means v g one a b s e same h = as_word v (length a) _ s _ (ok_is e) (length-fresh_bits (length a) _) (shl_is v g a b one h)

pub shift_down_means : (v : ℕ → Bool) (g : ℕ) → v 1 ≡ true → (a b : List Literal) (s : Sort) → ◌≡◌ {A = Result Sort MakeFault} (Ok (sort.Word (length a))) (Ok s) → length a ≡ length b → HaveMeaning v g (shift_down a b g).gates
    → AreBitsOf v s (shift_down a b g).bits (VWord (length a) (lshr_of (length a) (number v a) (number v b)))
shift_down_means v g one a b s e same h = as_word v (length a) _ s _ (ok_is e) (length-fresh_bits (length a) _) (lshr_is v g a b one h)

pub signed_shift_down_means : (v : ℕ → Bool) (g : ℕ) → v 1 ≡ true → (a b : List Literal) (s : Sort) → 0 < length a → ◌≡◌ {A = Result Sort MakeFault} (Ok (sort.Word (length a))) (Ok s) → length a ≡ length b → HaveMeaning v g (signed_shift_down a b g).gates
    → AreBitsOf v s (signed_shift_down a b g).bits (VWord (length a) (ashr_of (length a) (number v a) (number v b)))
signed_shift_down_means v g one a b s some e same h = as_word v (length a) _ s _ (ok_is e) (length-fresh_bits (length a) _) (ashr_is v g a b one some h)

-- ---- equality

pub equal_means : (v : ℕ → Bool) (g : ℕ) → v 1 ≡ true → (a b : List Literal) → length a ≡ length b → HaveMeaning v g (equality a b g).gates → lit_true v (equal_bit g true_literal a b) ≡ (number v a == number v b)
equal_means v g one a b same h = equal_number v g true_literal a b same h ∙ ap (λ c. c && (number v a == number v b)) one

comp_number : (c : Bool) (x y : ℕ) → (x == y) ≡ c → bit c + 2 * 0 ≡ (if x == y then 1 else 0)
comp_number true x y e = ap (λ c. if c then 1 else 0) (sym e)
comp_number false x y e = ap (λ c. if c then 1 else 0) (sym e)

pub comparison_means : (v : ℕ → Bool) (g : ℕ) → v 1 ≡ true → (a b : List Literal) (s : Sort) → ◌≡◌ {A = Result Sort MakeFault} (Ok (sort.Word 1)) (Ok s) → length a ≡ length b → HaveMeaning v g (equality a b g).gates
    → AreBitsOf v s (equality a b g).bits (VWord 1 (comp_of (length a) (number v a) (number v b)))
comparison_means v g one a b s e same h =
    as_word v 1 _ s _ (ok_is e) refl (comp_number (lit_true v (equal_bit g true_literal a b)) (number v a) (number v b) (sym (equal_means v g one a b same h)))

same_bits : (p q : Bool) → ((bit p + 2 * 0) == (bit q + 2 * 0)) ≡ (if p then q else not q)
same_bits true true = refl
same_bits true false = refl
same_bits false true = refl
same_bits false false = refl

-- whether two rows are equal is whether their values are
same_rows : (v : ℕ → Bool) (t : Sort) (a c : List Literal) (x y : Value) → AreBitsOf v t a x → AreBitsOf v t c y → (length a ≡ length c) × ((number v a == number v c) ≡ same_value x y)
same_rows v sort.Bool a c x y p q =
    let l = p.0 in
    let m = q.0 in
    (ap length p.1 ∙ sym (ap length q.1), rw (p.1, q.1, p.2, q.2) (same_bits (lit_true v l) (lit_true v m)))
same_rows v (sort.Word n) a c x y p q =
    (p.0 ∙ sym q.0, rw (p.1, q.1) (sym (ap (λ b. b && (number v a == number v c)) (eq-eqb n n refl))))
same_rows v (sort.Array n m) a c x y p q = absurd p

-- the block of two rows of one length
alike_is : (f : List Literal → List Literal → ℕ → Block) (g : ℕ) (a c : List Literal) (b : Block) → length a ≡ length c → built (two f) g (a ∷ c ∷ []) ≡ Some b → f a c g ≡ b
alike_is f g a c b same e = same_Some _ _ (subst (λ t. built (if t then Makes (f a c) else Lacks) g [] ≡ Some b) (eq-eqb (length a) (length c) same) e)

pub equality_correct : (v : ℕ → Bool) (g : ℕ) → v 1 ≡ true → (ss : List Sort) (rows : List (List Literal)) (xs : List Value) (s : Sort) (b : Block)
    → ranked equality_rank 0 (map Some ss) ≡ Ok s → EachIsBits v ss rows xs → built (two equality) g rows ≡ Some b → HaveMeaning v g b.gates
    → (x : Value) × (y : Value) × (xs ≡ x ∷ y ∷ []) × AreBitsOf v s b.bits (VBool (same_value x y))
equality_correct v g one ss rows xs s b rank each is have =
    let r = equality_rank_is ss s rank in
    let t = r.0 in
    let k = each_two v t t rows xs (subst (λ l. EachIsBits v l rows xs) r.1 each) in
    let same = same_rows v t k.0 k.1 k.2 k.3 k.6 k.7 in
    let blk = alike_is equality g k.0 k.1 b same.0 (subst (λ l. built (two equality) g l ≡ Some b) k.4 is) in
    let means = equal_means v g one k.0 k.1 same.0 (subst (λ c. HaveMeaning v g c.gates) (sym blk) have) in
    (k.2, k.3, k.5, subst (λ c. AreBitsOf v s c.bits (VBool (same_value k.2 k.3))) blk (as_truth v _ s _ r.2 (means ∙ same.1)))

-- ---- rows side by side

pub concatenation_correct : (v : ℕ → Bool) (g : ℕ) (ss : List Sort) (rows : List (List Literal)) (xs : List Value) (s : Sort) (b : Block)
    → ranked concatenation 0 (map Some ss) ≡ Ok s → EachIsBits v ss rows xs → built (Takes λ a. Takes λ c. Makes (wires (c ++ a))) g rows ≡ Some b
    → (x : Value) × (y : Value) × (xs ≡ x ∷ y ∷ []) × AreBitsOf v s b.bits (VWord (width_in x + width_in y) (concat_of (width_in y) (number_of x) (number_of y)))
concatenation_correct v g ss rows xs s b rank each is =
    let r = concatenation_rank_is ss s rank in
    let k = each_two v (sort.Word r.0) (sort.Word r.1) rows xs (subst (λ l. EachIsBits v l rows xs) r.2 each) in
    let blk = same_Some _ _ (subst (λ l. built (Takes λ a. Takes λ c. Makes (wires (c ++ a))) g l ≡ Some b) k.4 is) in
    let widths = k.6.0 in
    let widths' = k.7.0 in
    let means = concat_means v k.0 k.1 s (rw (widths, widths') r.3) in (
      k.2,
      k.3,
      k.5,
      rw (k.6.1, k.7.1) (subst (λ c. AreBitsOf v s c.bits (VWord (r.0 + r.1) (concat_of r.1 (number v k.0) (number v k.1)))) blk
          (subst (λ (p : ℕ × ℕ). AreBitsOf v s (k.1 ++ k.0) (VWord (p.0 + p.1) (concat_of p.1 (number v k.0) (number v k.1)))) (λ i. (widths i, widths' i)) means)),
    )

-- ---- choices

choice_value : (c : Bool) (n x y z : ℕ) → z ≡ (if c then x else y) → VWord n z ≡ (if c then VWord n x else VWord n y)
choice_value true n x y z e = ap (VWord n) e
choice_value false n x y z e = ap (VWord n) e

choice_truth : (c p q r : Bool) → r ≡ (if c then p else q) → VBool r ≡ (if c then VBool p else VBool q)
choice_truth true p q r e = ap VBool e
choice_truth false p q r e = ap VBool e

-- the chosen row has the bits of the chosen value
chosen : (v : ℕ → Bool) (g : ℕ) (t : Sort) (c : Literal) (a d : List Literal) (x y : Value) → AreBitsOf v t a x → AreBitsOf v t d y → HaveMeaning v g (mux_gates c a d)
    → (length a ≡ length d) × AreBitsOf v t (fresh_bits g (length a)) (if lit_true v c then x else y)
chosen v g sort.Bool c a d x y p q h =
    let l = p.0 in
    let m = q.0 in
    let have : HaveMeaning v g (mux_gates c (l ∷ []) (m ∷ [])) = (rw (p.1, q.1) at h) in
    let row : fresh_bits g (length a) ≡ positive_of g ∷ [] = ap (λ r. fresh_bits g (length r)) p.1 in
    (ap length p.1 ∙ sym (ap length q.1), (positive_of g, row, rw (p.2, q.2) (sym (choice_truth (lit_true v c) (lit_true v l) (lit_true v m) (v g) have.0))))
chosen v g (sort.Word n) c a d x y p q h =
    let same : length a ≡ length d = p.0 ∙ sym q.0 in
    (same, (length-fresh_bits (length a) g ∙ p.0, rw (p.1, q.1) (sym (choice_value (lit_true v c) n (number v a) (number v d) _ (mux_number v g c a d same h)))))
chosen v g (sort.Array n m) c a d x y p q h = absurd p

choice_is : (g : ℕ) (c : Literal) (a d : List Literal) (b : Block) → built (choice_by (c ∷ []) a d) g [] ≡ Some b → record { gates = mux_gates c a d; bits = fresh_bits g (length a) } ≡ b
choice_is g c a d b e = go (length a == length d) e
  where
    go : (t : Bool) → built (if t then Makes (λ g. record { gates = mux_gates c a d; bits = fresh_bits g (length a) }) else Lacks) g [] ≡ Some b → ◌≡◌ {A = Block} (record { gates = mux_gates c a d; bits = fresh_bits g (length a) }) b
    go true e = same_Some _ _ e
    go false e = let q : ⊥ = cc in absurd q

pub choice_correct : (v : ℕ → Bool) (g : ℕ) (ss : List Sort) (rows : List (List Literal)) (xs : List Value) (s : Sort) (b : Block)
    → ranked choice_rank 0 (map Some ss) ≡ Ok s → EachIsBits v ss rows xs → built choice g rows ≡ Some b → HaveMeaning v g b.gates
    → (w : Value) × (x : Value) × (y : Value) × (xs ≡ w ∷ x ∷ y ∷ []) × AreBitsOf v s b.bits (if is_true w then x else y)
choice_correct v g ss rows xs s b rank each is have =
    let k = each_three v sort.Bool s s rows xs (subst (λ l. EachIsBits v l rows xs) (choice_rank_is ss s rank) each) in
    let c = k.8.0 in
    let made : built (choice_by k.0 k.1 k.2) g [] ≡ Some b = subst (λ l. built choice g l ≡ Some b) k.6 is in
    let blk = choice_is g c k.1 k.2 b (subst (λ l. built (choice_by l k.1 k.2) g [] ≡ Some b) k.8.1 made) in
    let means = chosen v g s c k.1 k.2 k.4 k.5 k.9 k.10 (subst (λ (z : Block). HaveMeaning v g z.gates) (sym blk) have) in (
      k.3,
      k.4,
      k.5,
      k.7,
      rw k.8.2 (subst (λ (z : Block). AreBitsOf v s z.bits (if lit_true v c then k.4 else k.5)) blk means.1),
    )
