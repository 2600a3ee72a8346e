-- Ranks: what sorts an operator takes, one argument after the other, and what it then gives.
use Rattle.std.specs.Prelude.{ℕ, suc, ◌+◌, ◌-◌, ◌*◌, ◌^◌, Bool, true, false, ◌&&◌, nat_lt, nat_le, if◌then◌else◌, List, [], ◌∷◌, Option, Some, None, Result, Ok, Err}
use Rattle.smt_terms.specs.declared.sort.Sort.{Sort}
use Rattle.smt_terms.specs.declared.sort.Sort.TheVariants as sort
use Rattle.smt_terms.specs.declared.operator.Operator.{Operator}
use Rattle.smt_terms.specs.declared.operator.Operator.TheVariants as plain
use Rattle.smt_terms.specs.declared.node.Op.{Op}
use Rattle.smt_terms.specs.declared.node.Op.TheVariants.{Plain, Word, Extract, ZeroExtend, SignExtend, RotateLeft, RotateRight, Repeat, ConstantArray, Constant, Apply, Param}
use Rattle.smt_terms.specs.declared.rank.Demand.{Demand}
use Rattle.smt_terms.specs.declared.rank.Demand.TheVariants.{Any, AnyWord, AnyArray, Exactly, Argument}
use Rattle.smt_terms.specs.declared.fault.MakeFault.{MakeFault}
use Rattle.smt_terms.specs.declared.fault.MakeFault.TheVariants.{WrongSort, WidthOutOfRange}
use Rattle.smt_terms.specs.Same.{same_sort}

-- a step that may be refused, and what follows it
abbrev pub and_then : {E A B : Type 0} → Result A E → (A → Result B E) → Result B E
and_then (Ok x) f = f x
and_then (Err e) f = Err e

-- ---- sorts

abbrev pub is_word : Sort → Bool
is_word sort.Bool = false
is_word (sort.Word n) = true
is_word (sort.Array n m) = false

abbrev pub is_array : Sort → Bool
is_array sort.Bool = false
is_array (sort.Word n) = false
is_array (sort.Array n m) = true

-- Bool or a word
abbrev pub is_plain : Sort → Bool
is_plain sort.Bool = true
is_plain (sort.Word n) = true
is_plain (sort.Array n m) = false

abbrev pub width_of : Sort → ℕ
width_of sort.Bool = 0
width_of (sort.Word n) = n
width_of (sort.Array n m) = 0

-- the sort of an array's indexes
abbrev pub index_sort : Sort → Sort
index_sort sort.Bool = sort.Bool
index_sort (sort.Word n) = sort.Bool
index_sort (sort.Array n m) = sort.Word n

-- the sort of an array's elements
abbrev pub element_sort : Sort → Sort
element_sort sort.Bool = sort.Bool
element_sort (sort.Word n) = sort.Bool
element_sort (sort.Array n m) = sort.Word m

-- ---- ranks

abbrev pub allows : Demand → Sort → Bool
allows Any s = true
allows AnyWord s = is_word s
allows AnyArray s = is_array s
allows (Exactly t) s = same_sort t s
allows (Argument t) s = is_plain t && same_sort t s

-- the sort that is given, or an argument that is taken next, and what its sort leads to
pub data Rank : Type 0 where
  Gives : (given : Result Sort MakeFault) → Rank
  Takes : (demand : Demand) (next : Sort → Rank) → Rank

-- The sort that a rank gives for arguments of these sorts, where None is no held term, or the first fault: the argument
-- that is missing, one too many, not held, or of another sort. So many arguments stand before these.
abbrev pub ranked : Rank → ℕ → List (Option Sort) → Result Sort MakeFault
ranked (Gives r) k [] = r
ranked (Gives r) k (a ∷ args) = Err (WrongSort k)
ranked (Takes d next) k [] = Err (WrongSort k)
ranked (Takes d next) k (None ∷ args) = Err (WrongSort k)
ranked (Takes d next) k (Some s ∷ args) = if allows d s then ranked (next s) (suc k) args else Err (WrongSort k)

-- a word of this width, which is 1 to 128
abbrev pub word_sort : ℕ → Result Sort MakeFault
word_sort n = if nat_le 1 n && nat_le n 128 then Ok (sort.Word n) else Err (WidthOutOfRange n)

-- a sort, whose widths are 1 to 128
abbrev pub constant_sort : Sort → Result Sort MakeFault
constant_sort sort.Bool = Ok sort.Bool
constant_sort (sort.Word n) = word_sort n
constant_sort (sort.Array n m) = and_then (word_sort n) λ _. and_then (word_sort m) λ _. Ok (sort.Array n m)

-- the same of a sort that is Bool or a word
abbrev pub plain_sort : Sort → Result Sort MakeFault
plain_sort sort.Bool = Ok sort.Bool
plain_sort (sort.Word n) = word_sort n
plain_sort (sort.Array n m) = Err (WrongSort 0)

abbrev pub literal_sort : ℕ → ℕ → Result Sort MakeFault
literal_sort n x = if nat_lt x (2 ^ n) then word_sort n else Err (WrongSort 0)

-- the bits from j to i of a word of width n
abbrev pub extract_sort : ℕ → ℕ → ℕ → Result Sort MakeFault
extract_sort i j n = if nat_le j i && nat_lt i n then word_sort (i - j + 1) else Err (WrongSort 0)

-- ---- the shapes of ranks

abbrev pub truth : Result Sort MakeFault
truth = Ok sort.Bool

abbrev pub one_truth : Rank
one_truth = Takes (Exactly sort.Bool) λ _. Gives truth

abbrev pub two_truths : Rank
two_truths = Takes (Exactly sort.Bool) λ _. Takes (Exactly sort.Bool) λ _. Gives truth

-- a word, and what its width gives
abbrev pub one_word : (ℕ → Result Sort MakeFault) → Rank
one_word h = Takes AnyWord λ s. Gives (h (width_of s))

-- two words of one sort, and what this gives
abbrev pub two_words : (Sort → Result Sort MakeFault) → Rank
two_words h = Takes AnyWord λ s. Takes (Exactly s) λ _. Gives (h s)

abbrev pub concatenation : Rank
concatenation = Takes AnyWord λ s. Takes AnyWord λ r. Gives (word_sort (width_of s + width_of r))

abbrev pub equality : Rank
equality = Takes Any λ s. Takes (Exactly s) λ _. Gives truth

abbrev pub choice : Rank
choice = Takes (Exactly sort.Bool) λ _. Takes Any λ s. Takes (Exactly s) λ _. Gives (Ok s)

abbrev pub selection : Rank
selection = Takes AnyArray λ a. Takes (Exactly (index_sort a)) λ _. Gives (Ok (element_sort a))

abbrev pub storing : Rank
storing = Takes AnyArray λ a. Takes (Exactly (index_sort a)) λ _. Takes (Exactly (element_sort a)) λ _. Gives (Ok a)

abbrev pub difference : Rank
difference = Takes AnyArray λ a. Takes (Exactly a) λ _. Gives (Ok (index_sort a))

-- arguments of these sorts, each Bool or a word
abbrev pub each_of : List Sort → Result Sort MakeFault → Rank
each_of [] r = Gives r
each_of (s ∷ ss) r = Takes (Argument s) λ _. each_of ss r

-- a function has an argument at least
abbrev pub application : List Sort → Sort → Rank
application [] value = Gives (Err (WrongSort 0))
application (s ∷ ss) value = each_of (s ∷ ss) (plain_sort value)

-- ---- the table

abbrev pub operator_rank : Operator → Rank
operator_rank plain.True = Gives truth
operator_rank plain.False = Gives truth
operator_rank plain.Not = one_truth
operator_rank plain.And = two_truths
operator_rank plain.Or = two_truths
operator_rank plain.Xor = two_truths
operator_rank plain.Implies = two_truths
operator_rank plain.Ite = choice
operator_rank plain.Equal = equality
operator_rank plain.Bvnot = one_word word_sort
operator_rank plain.Bvneg = one_word word_sort
operator_rank plain.Bvadd = two_words Ok
operator_rank plain.Bvsub = two_words Ok
operator_rank plain.Bvmul = two_words Ok
operator_rank plain.Bvand = two_words Ok
operator_rank plain.Bvor = two_words Ok
operator_rank plain.Bvxor = two_words Ok
operator_rank plain.Bvnand = two_words Ok
operator_rank plain.Bvnor = two_words Ok
operator_rank plain.Bvxnor = two_words Ok
operator_rank plain.Bvudiv = two_words Ok
operator_rank plain.Bvurem = two_words Ok
operator_rank plain.Bvsdiv = two_words Ok
operator_rank plain.Bvsrem = two_words Ok
operator_rank plain.Bvsmod = two_words Ok
operator_rank plain.Bvshl = two_words Ok
operator_rank plain.Bvlshr = two_words Ok
operator_rank plain.Bvashr = two_words Ok
operator_rank plain.Bvult = two_words λ _. truth
operator_rank plain.Bvule = two_words λ _. truth
operator_rank plain.Bvugt = two_words λ _. truth
operator_rank plain.Bvuge = two_words λ _. truth
operator_rank plain.Bvslt = two_words λ _. truth
operator_rank plain.Bvsle = two_words λ _. truth
operator_rank plain.Bvsgt = two_words λ _. truth
operator_rank plain.Bvsge = two_words λ _. truth
operator_rank plain.Bvcomp = two_words λ _. Ok (sort.Word 1)
operator_rank plain.Concat = concatenation
operator_rank plain.Select = selection
operator_rank plain.Store = storing
operator_rank plain.Witness = difference

abbrev pub rank_of : Op → Rank
rank_of (Plain o) = operator_rank o
rank_of (Word n x) = Gives (literal_sort n x)
rank_of (Extract i j) = one_word (extract_sort i j)
rank_of (ZeroExtend i) = one_word λ n. word_sort (n + i)
rank_of (SignExtend i) = one_word λ n. word_sort (n + i)
rank_of (RotateLeft i) = one_word word_sort
rank_of (RotateRight i) = one_word word_sort
rank_of (Repeat i) = one_word λ n. word_sort (n * i)
rank_of (ConstantArray k) = one_word λ n. constant_sort (sort.Array k n)
rank_of (Constant d s) = Gives (constant_sort s)
rank_of (Apply d s) = application s.args s.value
rank_of (Param k s) = Gives (plain_sort s)
