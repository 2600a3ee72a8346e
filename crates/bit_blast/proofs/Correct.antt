-- The bits of each operator's block are those of the operator's value.
use Rattle.std.proofs.Common.{◌≡◌, ℕ, ◌+◌, ◌-◌, ◌*◌, ◌^◌, ◌<◌, Bool, true, false, not, ◌&&◌, List, [], ◌∷◌, length, refl, sym, ap, ◌∙◌, subst, arith}
use Rattle.std.specs.Prelude.{if◌then◌else◌, nat_le, map, Result, Ok, Err}
use Rattle.std.proofs.lemmas.List.{length-map}
use Rattle.cnf_base.specs.Literals.{Literal, positive_of, true_literal, false_literal, negated}
use Rattle.cnf_base.specs.Clauses.{lit_true, number, bit}
use Rattle.cnf_base.specs.Gates.{HaveMeaning}
use Rattle.cnf_base.specs.Assignments.{fresh_bits}
use Rattle.cnf_base.specs.Adders.{add_bits, add_carry}
use Rattle.cnf_base.proofs.Truth.{lit_true-negated}
use Rattle.cnf_base.proofs.Numbers.{number_lt, number-negated}
use Rattle.cnf_base.proofs.Adding.{add_number, length-add_bits}
use Rattle.cnf_base.proofs.Rows.{length-fresh_bits}
use Rattle.smt_words.specs.Words.{not_of, add_of, sub_of}
use Rattle.circ_plain.proofs.Bits.{false_is_false}
use Rattle.circ_plain.proofs.Negating.{sum_mod}
use Rattle.smt_terms.specs.declared.sort.Sort.{Sort}
use Rattle.smt_terms.specs.declared.sort.Sort.TheVariants as sort
use Rattle.smt_terms.specs.declared.fault.MakeFault.{MakeFault}
use Rattle.smt_terms.specs.declared.fault.MakeFault.TheVariants.{WidthOutOfRange}
use Rattle.smt_terms.specs.Ranks.{word_sort}
use Rattle.smt_terms.specs.Values.{VBool, VWord}
use Rattle.bit_blast.specs.declared.rows.Connective.{Connective}
use Rattle.bit_blast.specs.Circuits.{signed, by_gate, sum, difference}
use Rattle.bit_blast.specs.Meanings.{AreBitsOf}
use Rattle.bit_blast.proofs.Bitwise.{said, agreed, gate_said, Works, row_number, negated_number, unnegated_number}

-- ---- sorts

pub ok_is : {s t : Sort} → ◌≡◌ {A = Result Sort MakeFault} (Ok s) (Ok t) → t ≡ s
ok_is e = cc

pub word_sort_is : (n : ℕ) (s : Sort) → word_sort n ≡ Ok s → s ≡ sort.Word n
word_sort_is n s e = go (nat_le 1 n && nat_le n 128) e
  where
    go : (c : Bool) → ◌≡◌ {A = Result Sort MakeFault} (if c then Ok (sort.Word n) else Err (WidthOutOfRange n)) (Ok s) → s ≡ sort.Word n
    go true e = ok_is e
    go false e = let f : ⊥ = cc in absurd f

pub as_word : (v : ℕ → Bool) (n x : ℕ) (s : Sort) (bits : List Literal) → s ≡ sort.Word n → length bits ≡ n → number v bits ≡ x → AreBitsOf v s bits (VWord n x)
as_word v n x s bits e len num = subst (λ t. AreBitsOf v t bits (VWord n x)) (sym e) (len, ap (VWord n) (sym num))

pub as_truth : (v : ℕ → Bool) (b : Bool) (s : Sort) (l : Literal) → s ≡ sort.Bool → lit_true v l ≡ b → AreBitsOf v s (l ∷ []) (VBool b)
as_truth v b s l e t = subst (λ u. AreBitsOf v u (l ∷ []) (VBool b)) (sym e) (l, refl, ap VBool (sym t))

-- ---- bit by bit

length-signed : (positive : Bool) (row : List Literal) → length (signed positive row) ≡ length row
length-signed true row = refl
length-signed false row = length-map row negated

-- the row of a function that works as the gates do
pub direct_means : (k : Connective) (positive : Bool) (f : ℕ → ℕ → ℕ) → Works k positive f → (v : ℕ → Bool) (g : ℕ) (a b : List Literal) (s : Sort)
    → ◌≡◌ {A = Result Sort MakeFault} (Ok (sort.Word (length a))) (Ok s) → length a ≡ length b → HaveMeaning v g (by_gate k positive a b g).gates
    → AreBitsOf v s (by_gate k positive a b g).bits (VWord (length a) (f (number v a) (number v b)))
direct_means k positive f w v g a b s e same h =
    as_word v (length a) _ s _ (ok_is e) (length-signed positive (fresh_bits g (length a)) ∙ length-fresh_bits (length a) g) (row_number k positive f w v g a b same h)

-- the opposite of such a row
pub nand_means : (k : Connective) (f : ℕ → ℕ → ℕ) → Works k true f → (v : ℕ → Bool) (g : ℕ) (a b : List Literal) (s : Sort)
    → ◌≡◌ {A = Result Sort MakeFault} (Ok (sort.Word (length a))) (Ok s) → length a ≡ length b → HaveMeaning v g (by_gate k false a b g).gates
    → AreBitsOf v s (by_gate k false a b g).bits (VWord (length a) (not_of (length a) (f (number v a) (number v b))))
nand_means k f w v g a b s e same h =
    let row = fresh_bits g (length a) in
    let len = length-fresh_bits (length a) g in
    as_word v (length a) _ s _ (ok_is e) (length-map row negated ∙ len) (negated_number v row (length a) _ len (row_number k true f w v g a b same h))

pub nor_means : (k : Connective) (f : ℕ → ℕ → ℕ) → Works k false f → (v : ℕ → Bool) (g : ℕ) (a b : List Literal) (s : Sort)
    → ◌≡◌ {A = Result Sort MakeFault} (Ok (sort.Word (length a))) (Ok s) → length a ≡ length b → HaveMeaning v g (by_gate k true a b g).gates
    → AreBitsOf v s (by_gate k true a b g).bits (VWord (length a) (not_of (length a) (f (number v a) (number v b))))
nor_means k f w v g a b s e same h =
    let row = fresh_bits g (length a) in
    let len = length-fresh_bits (length a) g in
    as_word v (length a) _ s _ (ok_is e) len (unnegated_number v row (length a) _ len (row_number k false f w v g a b same h))

-- two Bools
pub pair_means : (k : Connective) (positive : Bool) (f : Bool → Bool → Bool) → ((p q : Bool) → agreed positive (said k p q) ≡ f p q) → (v : ℕ → Bool) (g : ℕ) (l m : Literal)
    → HaveMeaning v g (by_gate k positive (l ∷ []) (m ∷ []) g).gates
    → AreBitsOf v sort.Bool (by_gate k positive (l ∷ []) (m ∷ []) g).bits (VBool (f (lit_true v l) (lit_true v m)))
pair_means k true f is v g l m h =
    as_truth v _ sort.Bool (positive_of g) refl (h.0 ∙ gate_said v k l m ∙ is (lit_true v l) (lit_true v m))
pair_means k false f is v g l m h =
    as_truth v _ sort.Bool (negated (positive_of g)) refl (lit_true-negated v (positive_of g) ∙ ap not (h.0 ∙ gate_said v k l m) ∙ is (lit_true v l) (lit_true v m))

-- ---- sums

pub sum_means : (v : ℕ → Bool) (g : ℕ) → v 1 ≡ true → (a b : List Literal) (s : Sort)
    → ◌≡◌ {A = Result Sort MakeFault} (Ok (sort.Word (length a))) (Ok s) → length a ≡ length b → HaveMeaning v g (sum false_literal a b g).gates
    → AreBitsOf v s (sum false_literal a b g).bits (VWord (length a) (add_of (length a) (number v a) (number v b)))
sum_means v g one a b s e same h =
    let all = add_number v g a b false_literal same h in
    let low : bit (lit_true v false_literal) ≡ 0 = ap bit (false_is_false v one) in
    let len = length-add_bits g a b same in
    let lt : number v (add_bits g a b) < 2 ^ length a = subst (λ n. number v (add_bits g a b) < 2 ^ n) len (number_lt v (add_bits g a b)) in
    as_word v (length a) _ s _ (ok_is e) len
    (sum_mod (number v (add_bits g a b)) (2 ^ length a) (bit (lit_true v (add_carry g a b false_literal))) (number v a + number v b) lt (omega (arith, all, low)))

turned_sum : (n x y z s c p : ℕ) → z + y + 1 ≡ p → s + p * c ≡ x + z + 1 → s + p * c ≡ p + x - y
turned_sum n x y z s c p e h = omega (arith, e, h)

pub difference_means : (v : ℕ → Bool) (g : ℕ) → v 1 ≡ true → (a b : List Literal) (s : Sort)
    → ◌≡◌ {A = Result Sort MakeFault} (Ok (sort.Word (length a))) (Ok s) → length a ≡ length b → HaveMeaning v g (difference a b g).gates
    → AreBitsOf v s (difference a b g).bits (VWord (length a) (sub_of (length a) (number v a) (number v b)))
difference_means v g one a b s e same h =
    let c = map negated b in
    let width : length a ≡ length c = same ∙ sym (length-map b negated) in
    let all = add_number v g a c true_literal width h in
    let high : bit (lit_true v true_literal) ≡ 1 = ap bit one in
    let len = length-add_bits g a c width in
    let lt : number v (add_bits g a c) < 2 ^ length a = subst (λ n. number v (add_bits g a c) < 2 ^ n) len (number_lt v (add_bits g a c)) in
    let opposite : number v c + number v b + 1 ≡ 2 ^ length a = number-negated v b ∙ ap (λ n. 2 ^ n) (sym same) in
    as_word v (length a) _ s _ (ok_is e) len
    (sum_mod (number v (add_bits g a c)) (2 ^ length a) (bit (lit_true v (add_carry g a c true_literal))) (2 ^ length a + number v a - number v b) lt
    (turned_sum (length a) (number v a) (number v b) (number v c) _ _ (2 ^ length a) opposite (omega (arith, all, high))))
