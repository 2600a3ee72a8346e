-- What a rule sees of a term: its operator, its arguments, and the number of a word.
use Rattle.std.specs.Prelude.{ℕ, ◌-◌, ◌%◌, ◌^◌, ◌==◌, nat_lt, nat_le, not, Bool, true, false, ◌&&◌, List, slice_index_or}
use Rattle.std.specs.Int.{w128, trailing_zeros}
use Rattle.smt_terms.specs.declared.operator.Operator.{Operator}
use Rattle.smt_terms.specs.declared.operator.Operator.TheVariants.{And, Or, Bvand, Bvor, Bvxor, Bvadd, Bvmul}
use Rattle.smt_terms.specs.declared.node.Op.{Op}
use Rattle.smt_terms.specs.declared.node.Op.TheVariants.{Word, Extract, ZeroExtend, SignExtend, RotateLeft, RotateRight, Repeat}
use Rattle.smt_terms.specs.declared.node.Node.{Node}
use Rattle.smt_terms.specs.Nodes.{node_at}
use Rattle.bv_rules.specs.declared.reading.Constant.{Constant}
use Rattle.bv_rules.specs.declared.reading.Constant.TheVariants.{Zero, One, Ones}

-- ---- operators

-- the two arguments match in either order
abbrev pub commutes : Operator → Bool
commutes Bvand = true
commutes Bvor = true
commutes Bvxor = true
commutes Bvadd = true
commutes Bvmul = true
commutes And = true
commutes Or = true
commutes _ = false

-- the word with this number
abbrev pub is_number : ℕ → Op → Bool
is_number k (Word n x) = x == k
is_number k _ = false

-- the word whose bits are all 1
abbrev pub is_ones : Op → Bool
is_ones (Word n x) = x == 2 ^ n - 1
is_ones _ = false

-- the word 0, 1 or all ones of its width
abbrev pub is_constant : Constant → Op → Bool
is_constant Zero op = is_number 0 op
is_constant One op = is_number 1 op
is_constant Ones op = is_ones op

-- the number k, where a word is 2 ^ k
abbrev pub exponent_in : Op → ℕ
exponent_in (Word n x) = trailing_zeros w128 x
exponent_in _ = 0

-- the word 2 ^ k for some k from 1 to n - 1
abbrev pub is_power : Op → Bool
is_power (Word n x) =
    let k = trailing_zeros w128 x in
    nat_lt 0 k && (nat_lt k n && (x == 2 ^ k))
is_power _ = false

-- a word whose number is n or more
abbrev pub is_past : Op → Bool
is_past (Word n x) = nat_le n x
is_past _ = false

-- words of different numbers
abbrev pub are_unequal : Op → Op → Bool
are_unequal (Word n x) (Word m y) = not (x == y)
are_unequal _ _ = false

-- the bits from one place to another
abbrev pub is_extract : Op → Bool
is_extract (Extract i j) = true
is_extract _ = false

abbrev pub high_in : Op → ℕ
high_in (Extract i j) = i
high_in _ = 0

abbrev pub low_in : Op → ℕ
low_in (Extract i j) = j
low_in _ = 0

-- an extension by no bit, one copy, or a rotation by a multiple of the width
abbrev pub is_idle : ℕ → Op → Bool
is_idle n (ZeroExtend i) = i == 0
is_idle n (SignExtend i) = i == 0
is_idle n (RotateLeft i) = i % n == 0
is_idle n (RotateRight i) = i % n == 0
is_idle n (Repeat i) = i == 1
is_idle n _ = false

-- ---- terms

module _ (nodes : List Node) where
  abbrev pub op_at : ℕ → Op
  op_at t = (node_at nodes t).op

  -- an argument of a term, counted from 0
  abbrev pub arg : ℕ → ℕ → ℕ
  arg k t = slice_index_or (node_at nodes t).args k 0
