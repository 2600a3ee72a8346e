-- Terms of declared Bools and words, and of the operators of the theories Core and FixedSizeBitVectors over them (SMT-LIB
-- 2.6). They reach no array, so that a check makes no term for them before all else.
use Rattle.std.specs.Prelude.{◌≡◌, ℕ, ◌<◌, ◌≤◌, Bool, true, false, ◌&&◌, List, length, slice_index_or}
use Rattle.std.specs.List.{list_all}
use Rattle.smt_terms.specs.declared.operator.Operator.{Operator}
use Rattle.smt_terms.specs.declared.operator.Operator.TheVariants as plain
use Rattle.smt_terms.specs.declared.node.Op.{Op}
use Rattle.smt_terms.specs.declared.node.Op.TheVariants.{Plain, Word, Extract, ZeroExtend, SignExtend, RotateLeft, RotateRight, Repeat, ConstantArray, Constant, Apply, Param}
use Rattle.smt_terms.specs.declared.node.Node.{Node}
use Rattle.smt_terms.specs.Nodes.{at_term}
use Rattle.smt_terms.specs.Ranks as ranks

-- the operators of the theory ArraysEx, and `witness`, are not plain
abbrev pub is_plain_operator : Operator → Bool
is_plain_operator plain.Select = false
is_plain_operator plain.Store = false
is_plain_operator plain.Witness = false
is_plain_operator _ = true

abbrev pub is_plain_op : Op → Bool
is_plain_op (Plain o) = is_plain_operator o
is_plain_op (Word n x) = true
is_plain_op (Extract i j) = true
is_plain_op (ZeroExtend i) = true
is_plain_op (SignExtend i) = true
is_plain_op (RotateLeft i) = true
is_plain_op (RotateRight i) = true
is_plain_op (Repeat i) = true
is_plain_op (ConstantArray k) = false
is_plain_op (Constant d s) = ranks.is_plain s
is_plain_op (Apply d s) = false
is_plain_op (Param k s) = false

-- the operator of the term is plain, and so are its arguments
abbrev pub is_plain : List Node → ℕ → Bool
is_plain nodes t = at_term false (λ u op args. is_plain_op op && list_all (λ b. b) args) nodes t

-- ---- how it is kept

-- for each of the first terms, whether it is plain
pub record HavePlain (nodes : List Node) (marks : List Bool) : Type 0 where
  pub within : length marks ≤ length nodes
  pub each : (t : ℕ) → t < length marks → slice_index_or marks t false ≡ is_plain nodes t
