-- The value of a term under an interpretation, by the theories Core, FixedSizeBitVectors and ArraysEx of SMT-LIB 2.6.
use Rattle.std.specs.Prelude.{◌≡◌, ℕ, zero, suc, ◌+◌, ◌-◌, ◌*◌, ◌%◌, ◌^◌, ◌<◌, ◌==◌, Bool, true, false, not, if◌then◌else◌, ◌&&◌, ◌||◌, nat_lt, List, [], ◌∷◌, map}
use Rattle.smt_words.specs.Words.{not_of, neg_of, and_of, or_of, xor_of, nand_of, nor_of, xnor_of, add_of, sub_of, mul_of, udiv_of, urem_of, sdiv_of, srem_of, smod_of, shl_of, lshr_of, ashr_of, ult_of, ule_of, slt_of, sle_of, comp_of, concat_of, extract_of, sign_extend_of, rotate_left_of, rotate_right_of, repeat_of}
use Rattle.smt_terms.specs.declared.sort.Sort.{Sort}
use Rattle.smt_terms.specs.declared.sort.Sort.TheVariants as sort
use Rattle.smt_terms.specs.declared.operator.Operator.{Operator}
use Rattle.smt_terms.specs.declared.operator.Operator.TheVariants as plain
use Rattle.smt_terms.specs.declared.node.Op.{Op}
use Rattle.smt_terms.specs.declared.node.Op.TheVariants.{Plain, Word, Extract, ZeroExtend, SignExtend, RotateLeft, RotateRight, Repeat, ConstantArray, Constant, Apply, Param}
use Rattle.smt_terms.specs.declared.node.Node.{Node}
use Rattle.smt_terms.specs.Nodes.{at_term}

-- ---- the elements of arrays

-- the element at every index that is not held, and the indexes that are held with their elements
pub record Elements : Type 0 where
  pub default : ℕ
  pub entries : List (ℕ × ℕ)

-- the element at an index; of an index that stands twice the first counts
abbrev pub element_in : ℕ → List (ℕ × ℕ) → ℕ → ℕ
element_in d [] i = d
element_in d (e ∷ es) i = if e.0 == i then e.1 else element_in d es i

abbrev pub held_at : Elements → ℕ → ℕ
held_at a i = element_in a.default a.entries i

-- this element at every index
abbrev pub filled : ℕ → Elements
filled x = record { default = x; entries = [] }

-- the entries with one more, in the place of the one that held its index, or where its index stands in the order
abbrev pub placed : List (ℕ × ℕ) → ℕ × ℕ → List (ℕ × ℕ)
placed [] f = f ∷ []
placed (e ∷ es) f = if e.0 == f.0 then f ∷ es else if nat_lt f.0 e.0 then f ∷ e ∷ es else e ∷ placed es f

-- one element changed
abbrev pub with_entry : Elements → ℕ → ℕ → Elements
with_entry a i x = record { default = a.default; entries = placed a.entries (i, x) }

-- each element modulo a number
abbrev pub reduced : ℕ → ℕ × ℕ → ℕ × ℕ
reduced m e = (e.0, e.1 % m)

abbrev pub elements_below : ℕ → Elements → Elements
elements_below m a = record { default = a.default % m; entries = map (reduced m) a.entries }

-- ---- values

-- a truth value, a word of some width, or an array by its widths and its elements
pub data Value : Type 0 where
  VBool : (b : Bool) → Value
  VWord : (width number : ℕ) → Value
  VArray : (index element : ℕ) (held : Elements) → Value

-- a value is of a sort
abbrev pub HasSort : Sort → Value → Type 0
HasSort sort.Bool v = (b : Bool) × (v ≡ VBool b)
HasSort (sort.Word n) v = (x : ℕ) × (v ≡ VWord n x) × (x < 2 ^ n)
HasSort (sort.Array n m) v = (a : Elements) × (v ≡ VArray n m a) × ((i : ℕ) → held_at a i < 2 ^ m)

abbrev pub no_value : Value
no_value = VBool false

abbrev pub is_true : Value → Bool
is_true (VBool b) = b
is_true (VWord n x) = false
is_true (VArray n m a) = false

abbrev pub number_of : Value → ℕ
number_of (VBool b) = 0
number_of (VWord n x) = x
number_of (VArray n m a) = 0

abbrev pub width_in : Value → ℕ
width_in (VBool b) = 0
width_in (VWord n x) = n
width_in (VArray n m a) = 0

-- false, zero, or the array of zeros
abbrev pub default_of : Sort → Value
default_of sort.Bool = VBool false
default_of (sort.Word n) = VWord n 0
default_of (sort.Array n m) = VArray n m (filled 0)

-- a value read at a sort: one that is not of the sort is read as one that is
abbrev pub read_at : Sort → Value → Value
read_at sort.Bool (VBool b) = VBool b
read_at sort.Bool (VWord n x) = VBool false
read_at sort.Bool (VArray n m a) = VBool false
read_at (sort.Word n) (VWord m x) = VWord n (x % 2 ^ n)
read_at (sort.Word n) (VBool b) = VWord n 0
read_at (sort.Word n) (VArray k m a) = VWord n 0
read_at (sort.Array n m) (VArray k l a) = VArray n m (elements_below (2 ^ m) a)
read_at (sort.Array n m) (VBool b) = VArray n m (filled 0)
read_at (sort.Array n m) (VWord k x) = VArray n m (filled 0)

-- A value for each declared constant, and a function for each declared function, by the numbers of the declarations.
-- They are read at the sorts of the declarations.
pub record Interpretation : Type 0 where
  pub constants : ℕ → Value
  pub functions : ℕ → List Value → Value

-- ---- arrays

-- a test holds of each number below n
unfoldable pub all_below : (ℕ → Bool) → ℕ → Bool
all_below p zero = true
all_below p (suc n) = all_below p n && p n

-- the least number below n at which a test holds, or 0
unfoldable pub first_below : (ℕ → Bool) → ℕ → ℕ
first_below p zero = 0
first_below p (suc n) = if all_below (λ i. not (p i)) n then (if p n then n else 0) else first_below p n

-- equality of two values of one sort; arrays agree at every index
abbrev pub same_value : Value → Value → Bool
same_value (VBool a) (VBool b) = if a then b else not b
same_value (VBool a) (VWord n x) = false
same_value (VBool a) (VArray n m c) = false
same_value (VWord n x) (VBool b) = false
same_value (VWord n x) (VWord m y) = (n == m) && (x == y)
same_value (VWord n x) (VArray k m a) = false
same_value (VArray n m a) (VBool b) = false
same_value (VArray n m a) (VWord k x) = false
same_value (VArray n m a) (VArray k l b) = all_below (λ i. held_at a i == held_at b i) (2 ^ n)

abbrev pub select_of : Value → Value → Value
select_of (VBool b) i = no_value
select_of (VWord n x) i = no_value
select_of (VArray n m a) i = VWord m (held_at a (number_of i))

abbrev pub store_of : Value → Value → Value → Value
store_of (VBool b) i v = no_value
store_of (VWord n x) i v = no_value
store_of (VArray n m a) i v = VArray n m (with_entry a (number_of i) (number_of v))

-- the least index at which two arrays differ, or 0
abbrev pub witness_of : Value → Value → Value
witness_of (VBool b) w = no_value
witness_of (VWord n x) w = no_value
witness_of (VArray n m a) (VBool b) = no_value
witness_of (VArray n m a) (VWord k x) = no_value
witness_of (VArray n m a) (VArray k l b) = VWord n (first_below (λ i. not (held_at a i == held_at b i)) (2 ^ n))

-- ---- meanings

-- a value, or what the value of the next argument leads to
pub data Meaning : Type 0 where
  Is : (given : Value) → Meaning
  Of : (next : Value → Meaning) → Meaning

-- what a meaning gives for arguments of these values
abbrev pub applied : Meaning → List Value → Value
applied (Is v) vs = v
applied (Of next) [] = no_value
applied (Of next) (v ∷ vs) = applied (next v) vs

abbrev pub truth_of : (Bool → Bool) → Meaning
truth_of f = Of λ v. Is (VBool (f (is_true v)))

abbrev pub truths_of : (Bool → Bool → Bool) → Meaning
truths_of f = Of λ v. Of λ w. Is (VBool (f (is_true v) (is_true w)))

-- a word's width and number give a value
abbrev pub word_of : (ℕ → ℕ → Value) → Meaning
word_of f = Of λ v. Is (f (width_in v) (number_of v))

-- the width of two words, and their numbers, give a value
abbrev pub words_of : (ℕ → ℕ → ℕ → Value) → Meaning
words_of f = Of λ v. Of λ w. Is (f (width_in v) (number_of v) (number_of w))

-- a word of the same width
abbrev pub one : (ℕ → ℕ → ℕ) → Meaning
one f = word_of λ n x. VWord n (f n x)

abbrev pub two : (ℕ → ℕ → ℕ → ℕ) → Meaning
two f = words_of λ n x y. VWord n (f n x y)

abbrev pub order : (ℕ → ℕ → ℕ → Bool) → Meaning
order f = words_of λ n x y. VBool (f n x y)

abbrev pub differ : Bool → Bool → Bool
differ a b = if a then not b else b

-- what a function gives for as many arguments as there are sorts
abbrev pub collected : List Sort → (List Value → Value) → Meaning
collected [] f = Is (f [])
collected (s ∷ ss) f = Of λ v. collected ss λ vs. f (v ∷ vs)

abbrev pub operator_meaning : Operator → Meaning
operator_meaning plain.True = Is (VBool true)
operator_meaning plain.False = Is (VBool false)
operator_meaning plain.Not = truth_of not
operator_meaning plain.And = truths_of λ a b. a && b
operator_meaning plain.Or = truths_of λ a b. a || b
operator_meaning plain.Xor = truths_of differ
operator_meaning plain.Implies = truths_of λ a b. not a || b
operator_meaning plain.Ite = Of λ c. Of λ v. Of λ w. Is (if is_true c then v else w)
operator_meaning plain.Equal = Of λ v. Of λ w. Is (VBool (same_value v w))
operator_meaning plain.Bvnot = one not_of
operator_meaning plain.Bvneg = one neg_of
operator_meaning plain.Bvadd = two add_of
operator_meaning plain.Bvsub = two sub_of
operator_meaning plain.Bvmul = two mul_of
operator_meaning plain.Bvand = two and_of
operator_meaning plain.Bvor = two or_of
operator_meaning plain.Bvxor = two xor_of
operator_meaning plain.Bvnand = two nand_of
operator_meaning plain.Bvnor = two nor_of
operator_meaning plain.Bvxnor = two xnor_of
operator_meaning plain.Bvudiv = two udiv_of
operator_meaning plain.Bvurem = two urem_of
operator_meaning plain.Bvsdiv = two sdiv_of
operator_meaning plain.Bvsrem = two srem_of
operator_meaning plain.Bvsmod = two smod_of
operator_meaning plain.Bvshl = two shl_of
operator_meaning plain.Bvlshr = two lshr_of
operator_meaning plain.Bvashr = two ashr_of
operator_meaning plain.Bvult = order ult_of
operator_meaning plain.Bvule = order ule_of
operator_meaning plain.Bvugt = order λ n x y. ult_of n y x
operator_meaning plain.Bvuge = order λ n x y. ule_of n y x
operator_meaning plain.Bvslt = order slt_of
operator_meaning plain.Bvsle = order sle_of
operator_meaning plain.Bvsgt = order λ n x y. slt_of n y x
operator_meaning plain.Bvsge = order λ n x y. sle_of n y x
operator_meaning plain.Bvcomp = words_of λ n x y. VWord 1 (comp_of n x y)
operator_meaning plain.Concat = Of λ v. Of λ w. Is (VWord (width_in v + width_in w) (concat_of (width_in w) (number_of v) (number_of w)))
operator_meaning plain.Select = Of λ a. Of λ i. Is (select_of a i)
operator_meaning plain.Store = Of λ a. Of λ i. Of λ v. Is (store_of a i v)
operator_meaning plain.Witness = Of λ a. Of λ b. Is (witness_of a b)

abbrev pub meaning_of : Interpretation → Op → Meaning
meaning_of M (Plain o) = operator_meaning o
meaning_of M (Word n x) = Is (VWord n x)
meaning_of M (Extract i j) = word_of λ n x. VWord (i - j + 1) (extract_of i j x)
meaning_of M (ZeroExtend i) = word_of λ n x. VWord (n + i) x
meaning_of M (SignExtend i) = word_of λ n x. VWord (n + i) (sign_extend_of n i x)
meaning_of M (RotateLeft i) = one λ n x. rotate_left_of n i x
meaning_of M (RotateRight i) = one λ n x. rotate_right_of n i x
meaning_of M (Repeat i) = word_of λ n x. VWord (n * i) (repeat_of n i x)
meaning_of M (ConstantArray k) = word_of λ n x. VArray k n (filled x)
meaning_of M (Constant d s) = Is (read_at s (M.constants d))
meaning_of M (Apply d s) = collected s.args λ vs. read_at s.value (M.functions d vs)
meaning_of M (Param k s) = Is (default_of s)

-- what an operator gives for arguments of these values
abbrev pub op_value : Interpretation → Op → List Value → Value
op_value M op vs = applied (meaning_of M op) vs

-- the value of a term
abbrev pub value : Interpretation → List Node → ℕ → Value
value M nodes t = at_term no_value (λ u. op_value M) nodes t
