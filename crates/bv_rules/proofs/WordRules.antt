-- The rules on one word, and on two words of one width, keep each evaluation.
use Rattle.std.proofs.Common.{◌≡◌, ℕ, ◌-◌, ◌^◌, ◌<◌, ◌≤◌, Bool, true, false, [], ◌∷◌, length, refl, sym, ap, ◌∙◌, arith, Ok}
use Rattle.std.specs.Prelude.{◌==◌, ◌&&◌, ◌||◌, nat_lt}
use Rattle.std.proofs.lemmas.Bool.{eqb-true, and_parts, le-leb}
use Rattle.smt_words.specs.Words.{IsWord, not_of, neg_of, and_of, or_of, xor_of, add_of, sub_of, mul_of, udiv_of, urem_of, shl_of, lshr_of, ashr_of, ult_of, ule_of, slt_of, sle_of}
use Rattle.smt_words.proofs.LawsOfNumbers.{cancels, difference}
use Rattle.smt_terms.specs.declared.sort.Sort.TheVariants as sort
use Rattle.smt_terms.specs.declared.operator.Operator.{Operator}
use Rattle.smt_terms.specs.declared.operator.Operator.TheVariants as plain
use Rattle.smt_terms.specs.declared.node.Op.TheVariants.{Plain}
use Rattle.smt_terms.specs.declared.rank.Demand.TheVariants.{AnyWord, Exactly}
use Rattle.smt_terms.specs.Nodes.{node_at}
use Rattle.smt_terms.specs.Ranks.{truth, one_word, word_sort, operator_rank}
use Rattle.smt_terms.specs.Terms.{sort_of}
use Rattle.smt_terms.specs.Values.{Value, VBool, VWord, number_of, width_in, applied, word_of, operator_meaning}
use Rattle.smt_terms.specs.Evaluations.{is_witness}
use Rattle.bv_rules.specs.declared.reading.Constant.{Constant}
use Rattle.bv_rules.specs.declared.reading.Constant.TheVariants.{Zero, One, Ones}
use Rattle.bv_rules.specs.Reading.{is_number, is_constant, exponent_in, is_power, is_past, op_at, arg}
use Rattle.bv_rules.specs.Rules.{is, on, with_term, of_term, of_terms}
use Rattle.bv_rules.proofs.Numbers.{less_same, less_zero, add_same, and_turned, or_turned, xor_turned, add_turned, mul_turned}
use Rattle.bv_rules.proofs.Known.{Context, or_cases, never, constant_of, ok_is, WordAt, word_at, op_is, value_by, two_at, on_word, one_word_at, constant_is, number_is, power_is, past_is, OnWords, Words, words}

-- ---- the operators

abbrev pub Binary : Operator → (ℕ → ℕ → ℕ → ℕ) → Type 0
Binary o f = OnWords o (λ n x y. VWord n (f n x y)) Ok

abbrev pub Order : Operator → (ℕ → ℕ → ℕ → Bool) → Type 0
Order o f = OnWords o (λ n x y. VBool (f n x y)) (λ _. truth)

pub and_words : Binary plain.Bvand and_of
and_words = record { rank = refl; meaning = refl; other = refl; turns = λ e n x y. ap (VWord n) (and_turned n x y) }

pub or_words : Binary plain.Bvor or_of
or_words = record { rank = refl; meaning = refl; other = refl; turns = λ e n x y. ap (VWord n) (or_turned n x y) }

pub xor_words : Binary plain.Bvxor xor_of
xor_words = record { rank = refl; meaning = refl; other = refl; turns = λ e n x y. ap (VWord n) (xor_turned n x y) }

pub add_words : Binary plain.Bvadd add_of
add_words = record { rank = refl; meaning = refl; other = refl; turns = λ e n x y. ap (VWord n) (add_turned n x y) }

pub mul_words : Binary plain.Bvmul mul_of
mul_words = record { rank = refl; meaning = refl; other = refl; turns = λ e n x y. ap (VWord n) (mul_turned n x y) }

pub sub_words : Binary plain.Bvsub sub_of
sub_words = record { rank = refl; meaning = refl; other = refl; turns = λ e n x y. never e }

pub udiv_words : Binary plain.Bvudiv udiv_of
udiv_words = record { rank = refl; meaning = refl; other = refl; turns = λ e n x y. never e }

pub urem_words : Binary plain.Bvurem urem_of
urem_words = record { rank = refl; meaning = refl; other = refl; turns = λ e n x y. never e }

pub shl_words : Binary plain.Bvshl shl_of
shl_words = record { rank = refl; meaning = refl; other = refl; turns = λ e n x y. never e }

pub lshr_words : Binary plain.Bvlshr lshr_of
lshr_words = record { rank = refl; meaning = refl; other = refl; turns = λ e n x y. never e }

pub ashr_words : Binary plain.Bvashr ashr_of
ashr_words = record { rank = refl; meaning = refl; other = refl; turns = λ e n x y. never e }

pub ult_words : Order plain.Bvult ult_of
ult_words = record { rank = refl; meaning = refl; other = refl; turns = λ e n x y. never e }

pub ule_words : Order plain.Bvule ule_of
ule_words = record { rank = refl; meaning = refl; other = refl; turns = λ e n x y. never e }

pub slt_words : Order plain.Bvslt slt_of
slt_words = record { rank = refl; meaning = refl; other = refl; turns = λ e n x y. never e }

pub sle_words : Order plain.Bvsle sle_of
sle_words = record { rank = refl; meaning = refl; other = refl; turns = λ e n x y. never e }

pub ugt_words : Order plain.Bvugt (λ n x y. ult_of n y x)
ugt_words = record { rank = refl; meaning = refl; other = refl; turns = λ e n x y. never e }

pub uge_words : Order plain.Bvuge (λ n x y. ule_of n y x)
uge_words = record { rank = refl; meaning = refl; other = refl; turns = λ e n x y. never e }

pub sgt_words : Order plain.Bvsgt (λ n x y. slt_of n y x)
sgt_words = record { rank = refl; meaning = refl; other = refl; turns = λ e n x y. never e }

pub sge_words : Order plain.Bvsge (λ n x y. sle_of n y x)
sge_words = record { rank = refl; meaning = refl; other = refl; turns = λ e n x y. never e }

-- an operator from a word to one of its width
pub record Unary (o : Operator) (f : ℕ → ℕ → ℕ) : Type 0 where
  pub rank : operator_rank o ≡ one_word word_sort
  pub meaning : operator_meaning o ≡ (word_of λ n x. VWord n (f n x))
  pub other : is_witness (Plain o) ≡ false

pub not_word : Unary plain.Bvnot not_of
not_word = record { rank = refl; meaning = refl; other = refl }

pub neg_word : Unary plain.Bvneg neg_of
neg_word = record { rank = refl; meaning = refl; other = refl }

abbrev word_by : (ℕ → ℕ → ℕ) → ℕ → ℕ → Value
word_by f n x = VWord n (f n x)

-- what such a function on two words gives for values
abbrev on_words : (ℕ → ℕ → ℕ → ℕ) → Value → Value → Value
on_words f p q = VWord (width_in p) (f (width_in p) (number_of p) (number_of q))

same_number : (k : Context) (x y n : ℕ) (a : WordAt k x n) (b : WordAt k y n) → x ≡ y → a.number ≡ b.number
same_number k x y n a b e = ap number_of (sym a.is ∙ ap k.v e ∙ b.is)

-- ---- operators on given terms

of_one : (k : Context) (o : Operator) (f : ℕ → ℕ → ℕ) → Unary o f → (x t : ℕ) → t < length k.nodes → of_term k.nodes o x t ≡ true → k.v t ≡ on_word (word_by f) (k.v x)
of_one k o f b x t lt e =
    let p = and_parts (is k.nodes o t) (arg k.nodes 0 t == x) e in
    let w = one_word_at k (Plain o) (word_by f) word_sort b.rank b.meaning b.other t lt (op_is k o t p.0) in
    w.value ∙ ap (λ y. on_word (word_by f) (k.v y)) (eqb-true (arg k.nodes 0 t) x p.1)

record With (k : Context) (f : ℕ → ℕ → ℕ → ℕ) (x : ℕ) (p : ℕ → Bool) (t : ℕ) : Type 0 where
  y : ℕ
  n : ℕ
  holds : p y ≡ true
  word : WordAt k y n
  value : k.v t ≡ on_words f (k.v x) (k.v y)

with_at : (k : Context) (o : Operator) (f : ℕ → ℕ → ℕ → ℕ) → Binary o f → (x : ℕ) (p : ℕ → Bool) (t : ℕ) → t < length k.nodes → with_term k.nodes o x p t ≡ true → With k f x p t
with_at k o f b x p t lt e =
    let w = words k o (λ n x y. VWord n (f n x y)) Ok b (λ y z. (y == x) && p z) t lt e in
    let q = and_parts (w.x == x) (p w.y) w.holds in
    record {
      y = w.y;
      n = w.n;
      holds = q.1;
      word = w.right;
      value = w.value ∙ (λ i. on_words f (sym w.left.is i) (sym w.right.is i)) ∙ ap (λ z. on_words f (k.v z) (k.v w.y)) (eqb-true w.x x q.0);
    }

is_word_at : (k : Context) (x n : ℕ) (w : WordAt k x n) → IsWord n w.number
is_word_at k x n w = (omega (arith, w.width.0), w.width.1, w.fits)

-- ---- the rules

module _ (k : Context) (t u : ℕ) (lt : t < length k.nodes) (lu : u < length k.nodes) (same : sort_of k.nodes u ≡ sort_of k.nodes t) where
  constant_u : (n : ℕ) → sort_of k.nodes t ≡ sort.Word n → (z : Constant) → is_constant z (op_at k.nodes u) ≡ true → k.v u ≡ VWord n (constant_of z n)
  constant_u n e z h = let w = word_at k u n lu (same ∙ e) in w.is ∙ ap (VWord n) (constant_is k u n w z h)

  pub twice : (o : Operator) (f : ℕ → ℕ → ℕ) → Unary o f → ((n x : ℕ) → x < 2 ^ n → f n (f n x) ≡ x) → (is k.nodes o t && (is k.nodes o (arg k.nodes 0 t) && (u == arg k.nodes 0 (arg k.nodes 0 t)))) ≡ true → k.v u ≡ k.v t
  twice o f b law e =
      let a = arg k.nodes 0 t in
      let x = arg k.nodes 0 a in
      let p = and_parts (is k.nodes o t) (is k.nodes o a && (u == x)) e in
      let q = and_parts (is k.nodes o a) (u == x) p.1 in
      let outer = one_word_at k (Plain o) (word_by f) word_sort b.rank b.meaning b.other t lt (op_is k o t p.0) in
      let inner = one_word_at k (Plain o) (word_by f) word_sort b.rank b.meaning b.other a outer.word.held (op_is k o a q.0) in
      ap k.v (eqb-true u x q.1)
      ∙ inner.word.is
      ∙ ap (VWord inner.n) (sym (law inner.n inner.word.number inner.word.fits))
      ∙ sym (outer.value ∙ ap (on_word (word_by f)) (inner.value ∙ ap (on_word (word_by f)) inner.word.is))

  module _ (o : Operator) (f : ℕ → ℕ → ℕ → ℕ) (b : Binary o f) where
    on_o : (p : ℕ → ℕ → Bool) → on k.nodes o p t ≡ true → Words k (λ n x y. VWord n (f n x y)) Ok p t
    on_o p e = words k o (λ n x y. VWord n (f n x y)) Ok b p t lt e

    pub gives_term : (z : Constant) → ((n x : ℕ) → x < 2 ^ n → f n x (constant_of z n) ≡ x) → on k.nodes o (λ x c. is_constant z (op_at k.nodes c) && (u == x)) t ≡ true → k.v u ≡ k.v t
    gives_term z law e =
        let w = on_o (λ x c. is_constant z (op_at k.nodes c) && (u == x)) e in
        let p = and_parts (is_constant z (op_at k.nodes w.y)) (u == w.x) w.holds in
        ap k.v (eqb-true u w.x p.1)
        ∙ w.left.is
        ∙ ap (VWord w.n) (sym (law w.n w.left.number w.left.fits) ∙ ap (f w.n w.left.number) (sym (constant_is k w.y w.n w.right z p.0)))
        ∙ sym w.value

    pub gives_word : (z r : Constant) → ((n x : ℕ) → x < 2 ^ n → f n x (constant_of z n) ≡ constant_of r n) → on k.nodes o (λ x c. is_constant z (op_at k.nodes c) && is_constant r (op_at k.nodes u)) t ≡ true → k.v u ≡ k.v t
    gives_word z r law e =
        let w = on_o (λ x c. is_constant z (op_at k.nodes c) && is_constant r (op_at k.nodes u)) e in
        let p = and_parts (is_constant z (op_at k.nodes w.y)) (is_constant r (op_at k.nodes u)) w.holds in
        constant_u w.n (ok_is (sort.Word w.n) (sort_of k.nodes t) w.gives) r p.1
        ∙ ap (VWord w.n) (sym (law w.n w.left.number w.left.fits) ∙ ap (f w.n w.left.number) (sym (constant_is k w.y w.n w.right z p.0)))
        ∙ sym w.value

    pub same_gives_term : ((n x : ℕ) → x < 2 ^ n → f n x x ≡ x) → on k.nodes o (λ x y. (x == y) && (u == x)) t ≡ true → k.v u ≡ k.v t
    same_gives_term law e =
        let w = on_o (λ x y. (x == y) && (u == x)) e in
        let p = and_parts (w.x == w.y) (u == w.x) w.holds in
        ap k.v (eqb-true u w.x p.1)
        ∙ w.left.is
        ∙ ap (VWord w.n) (sym (law w.n w.left.number w.left.fits) ∙ ap (f w.n w.left.number) (same_number k w.x w.y w.n w.left w.right (eqb-true w.x w.y p.0)))
        ∙ sym w.value

    pub same_gives_word : (r : Constant) → ((n x : ℕ) → x < 2 ^ n → f n x x ≡ constant_of r n) → on k.nodes o (λ x y. (x == y) && is_constant r (op_at k.nodes u)) t ≡ true → k.v u ≡ k.v t
    same_gives_word r law e =
        let w = on_o (λ x y. (x == y) && is_constant r (op_at k.nodes u)) e in
        let p = and_parts (w.x == w.y) (is_constant r (op_at k.nodes u)) w.holds in
        constant_u w.n (ok_is (sort.Word w.n) (sort_of k.nodes t) w.gives) r p.1
        ∙ ap (VWord w.n) (sym (law w.n w.left.number w.left.fits) ∙ ap (f w.n w.left.number) (same_number k w.x w.y w.n w.left w.right (eqb-true w.x w.y p.0)))
        ∙ sym w.value

    -- a power of two becomes its exponent, or a mask
    pub by_power : (r : Operator) (g : ℕ → ℕ → ℕ → ℕ) → Binary r g → (m : ℕ → ℕ) → ((n x e : ℕ) → f n x (2 ^ e) ≡ g n x (m e))
        → on k.nodes o (λ x c. is_power (op_at k.nodes c) && with_term k.nodes r x (λ z. is_number (m (exponent_in (op_at k.nodes c))) (op_at k.nodes z)) u) t ≡ true → k.v u ≡ k.v t
    by_power r g c m law e =
        let w = on_o (λ x c. is_power (op_at k.nodes c) && with_term k.nodes r x (λ z. is_number (m (exponent_in (op_at k.nodes c))) (op_at k.nodes z)) u) e in
        let x = exponent_in (op_at k.nodes w.y) in
        let by : ℕ → Bool = λ z. is_number (m x) (op_at k.nodes z) in
        let p = and_parts (is_power (op_at k.nodes w.y)) (with_term k.nodes r w.x by u) w.holds in
        let j = with_at k r g c w.x by u lu p.1 in
        let q : k.v j.y ≡ VWord j.n (m x) = j.word.is ∙ ap (VWord j.n) (number_is k j.y j.n (m x) j.word j.holds) in
        j.value
        ∙ (λ i. on_words g (w.left.is i) (q i))
        ∙ ap (VWord w.n) (sym (law w.n w.left.number x) ∙ ap (f w.n w.left.number) (sym (power_is k w.y w.n w.right p.0)))
        ∙ sym w.value

    pub past_gives_zero : ((n x y : ℕ) → x < 2 ^ n → n ≤ y → f n x y ≡ 0) → on k.nodes o (λ x c. is_past (op_at k.nodes c) && is_constant Zero (op_at k.nodes u)) t ≡ true → k.v u ≡ k.v t
    past_gives_zero law e =
        let w = on_o (λ x c. is_past (op_at k.nodes c) && is_constant Zero (op_at k.nodes u)) e in
        let p = and_parts (is_past (op_at k.nodes w.y)) (is_constant Zero (op_at k.nodes u)) w.holds in
        constant_u w.n (ok_is (sort.Word w.n) (sort_of k.nodes t) w.gives) Zero p.1
        ∙ ap (VWord w.n) (sym (law w.n w.left.number w.right.number w.left.fits (past_is k w.y w.n w.right p.0)))
        ∙ sym w.value

  -- ones turn each bit
  pub xor_with_ones : ((n x : ℕ) → x < 2 ^ n → xor_of n x (2 ^ n - 1) ≡ not_of n x) → on k.nodes plain.Bvxor (λ x c. is_constant Ones (op_at k.nodes c) && of_term k.nodes plain.Bvnot x u) t ≡ true → k.v u ≡ k.v t
  xor_with_ones law e =
      let w = on_o plain.Bvxor xor_of xor_words (λ x c. is_constant Ones (op_at k.nodes c) && of_term k.nodes plain.Bvnot x u) e in
      let p = and_parts (is_constant Ones (op_at k.nodes w.y)) (of_term k.nodes plain.Bvnot w.x u) w.holds in
      of_one k plain.Bvnot not_of not_word w.x u lu p.1
      ∙ ap (on_word (word_by not_of)) w.left.is
      ∙ ap (VWord w.n) (sym (law w.n w.left.number w.left.fits) ∙ ap (xor_of w.n w.left.number) (sym (constant_is k w.y w.n w.right Ones p.0)))
      ∙ sym w.value

  pub add_negated : on k.nodes plain.Bvadd (λ x y. of_term k.nodes plain.Bvneg x y && is_constant Zero (op_at k.nodes u)) t ≡ true → k.v u ≡ k.v t
  add_negated e =
      let w = on_o plain.Bvadd add_of add_words (λ x y. of_term k.nodes plain.Bvneg x y && is_constant Zero (op_at k.nodes u)) e in
      let p = and_parts (of_term k.nodes plain.Bvneg w.x w.y) (is_constant Zero (op_at k.nodes u)) w.holds in
      let q : k.v w.y ≡ VWord w.n (neg_of w.n w.left.number) = of_one k plain.Bvneg neg_of neg_word w.x w.y w.right.held p.0 ∙ ap (on_word (word_by neg_of)) w.left.is in
      let r : neg_of w.n w.left.number ≡ w.right.number = ap number_of (sym q ∙ w.right.is) in
      constant_u w.n (ok_is (sort.Word w.n) (sort_of k.nodes t) w.gives) Zero p.1
      ∙ ap (VWord w.n) (sym (cancels w.n w.left.number (is_word_at k w.x w.n w.left)) ∙ ap (add_of w.n w.left.number) r)
      ∙ sym w.value

  pub subtracted : on k.nodes plain.Bvsub (λ x y. with_term k.nodes plain.Bvadd x (of_term k.nodes plain.Bvneg y) u) t ≡ true → k.v u ≡ k.v t
  subtracted e =
      let w = on_o plain.Bvsub sub_of sub_words (λ x y. with_term k.nodes plain.Bvadd x (of_term k.nodes plain.Bvneg y) u) e in
      let j = with_at k plain.Bvadd add_of add_words w.x (of_term k.nodes plain.Bvneg w.y) u lu w.holds in
      let q : k.v j.y ≡ VWord w.n (neg_of w.n w.right.number) = of_one k plain.Bvneg neg_of neg_word w.y j.y j.word.held j.holds ∙ ap (on_word (word_by neg_of)) w.right.is in
      j.value
      ∙ (λ i. on_words add_of (w.left.is i) (q i))
      ∙ ap (VWord w.n) (sym (difference w.n w.left.number w.right.number (is_word_at k w.x w.n w.left) (is_word_at k w.y w.n w.right)))
      ∙ sym w.value

  pub doubled : on k.nodes plain.Bvadd (λ x y. (x == y) && with_term k.nodes plain.Bvshl x (λ z. is_constant One (op_at k.nodes z)) u) t ≡ true → k.v u ≡ k.v t
  doubled e =
      let w = on_o plain.Bvadd add_of add_words (λ x y. (x == y) && with_term k.nodes plain.Bvshl x (λ z. is_constant One (op_at k.nodes z)) u) e in
      let by : ℕ → Bool = λ z. is_constant One (op_at k.nodes z) in
      let p = and_parts (w.x == w.y) (with_term k.nodes plain.Bvshl w.x by u) w.holds in
      let j = with_at k plain.Bvshl shl_of shl_words w.x by u lu p.1 in
      let q : k.v j.y ≡ VWord j.n 1 = j.word.is ∙ ap (VWord j.n) (constant_is k j.y j.n j.word One j.holds) in
      j.value
      ∙ (λ i. on_words shl_of (w.left.is i) (q i))
      ∙ ap (VWord w.n) (sym (add_same w.n w.left.number) ∙ ap (add_of w.n w.left.number) (same_number k w.x w.y w.n w.left w.right (eqb-true w.x w.y p.0)))
      ∙ sym w.value

  -- ---- orders

  false_u : is k.nodes plain.False u ≡ true → k.v u ≡ VBool false
  false_u h = value_by k (Plain plain.False) u (node_at k.nodes u).args lu (op_is k plain.False u h) refl refl

  true_u : is k.nodes plain.True u ≡ true → k.v u ≡ VBool true
  true_u h = value_by k (Plain plain.True) u (node_at k.nodes u).args lu (op_is k plain.True u h) refl refl

  pub not_less : on k.nodes plain.Bvult (λ x y. ((x == y) || is_constant Zero (op_at k.nodes y)) && is k.nodes plain.False u) t ≡ true → k.v u ≡ k.v t
  not_less e =
      let w = words k plain.Bvult (λ n x y. VBool (ult_of n x y)) (λ _. truth) ult_words (λ x y. ((x == y) || is_constant Zero (op_at k.nodes y)) && is k.nodes plain.False u) t lt e in
      let p = and_parts ((w.x == w.y) || is_constant Zero (op_at k.nodes w.y)) (is k.nodes plain.False u) w.holds in
      let q : nat_lt w.left.number w.right.number ≡ false = or_cases (w.x == w.y) (is_constant Zero (op_at k.nodes w.y)) p.0
      (λ h. ap (nat_lt w.left.number) (sym (same_number k w.x w.y w.n w.left w.right (eqb-true w.x w.y h))) ∙ less_same w.left.number)
      (λ h. ap (nat_lt w.left.number) (constant_is k w.y w.n w.right Zero h) ∙ less_zero w.left.number) in
      false_u p.1 ∙ ap VBool (sym q) ∙ sym w.value

  pub at_most : on k.nodes plain.Bvule (λ x y. ((x == y) || is_constant Zero (op_at k.nodes x)) && is k.nodes plain.True u) t ≡ true → k.v u ≡ k.v t
  at_most e =
      let w = words k plain.Bvule (λ n x y. VBool (ule_of n x y)) (λ _. truth) ule_words (λ x y. ((x == y) || is_constant Zero (op_at k.nodes x)) && is k.nodes plain.True u) t lt e in
      let p = and_parts ((w.x == w.y) || is_constant Zero (op_at k.nodes w.x)) (is k.nodes plain.True u) w.holds in
      let le : w.left.number ≤ w.right.number = or_cases (w.x == w.y) (is_constant Zero (op_at k.nodes w.x)) p.0
      (λ h. omega (arith, same_number k w.x w.y w.n w.left w.right (eqb-true w.x w.y h)))
      (λ h. omega (arith, constant_is k w.x w.n w.left Zero h)) in
      true_u p.1 ∙ ap VBool (sym (le-leb w.left.number w.right.number le)) ∙ sym w.value

  pub turned_order : (o r : Operator) (f : ℕ → ℕ → ℕ → Bool) → Order o (λ n x y. f n y x) → Order r f → on k.nodes o (λ x y. of_terms k.nodes r y x u) t ≡ true → k.v u ≡ k.v t
  turned_order o r f b c e =
      let w = words k o (λ n x y. VBool (f n y x)) (λ _. truth) b (λ x y. of_terms k.nodes r y x u) t lt e in
      let p = and_parts (is k.nodes r u) ((arg k.nodes 0 u == w.y) && (arg k.nodes 1 u == w.x)) w.holds in
      let q = and_parts (arg k.nodes 0 u == w.y) (arg k.nodes 1 u == w.x) p.1 in
      let op = op_is k r u p.0 in
      let j = two_at k AnyWord (λ s. Exactly s) (λ s _. truth) (Plain r) u c.rank lu op in
      let left : k.v (arg k.nodes 0 u) ≡ VWord w.n w.right.number = ap k.v (eqb-true (arg k.nodes 0 u) w.y q.0) ∙ w.right.is in
      let right : k.v (arg k.nodes 1 u) ≡ VWord w.n w.left.number = ap k.v (eqb-true (arg k.nodes 1 u) w.x q.1) ∙ w.left.is in
      value_by k (Plain r) u (arg k.nodes 0 u ∷ arg k.nodes 1 u ∷ []) lu op c.other j.args
      ∙ ap (λ m. applied m (k.v (arg k.nodes 0 u) ∷ k.v (arg k.nodes 1 u) ∷ [])) c.meaning
      ∙ (λ i. VBool (f (width_in (left i)) (number_of (left i)) (number_of (right i))))
      ∙ sym w.value
