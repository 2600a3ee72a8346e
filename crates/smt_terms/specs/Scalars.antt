-- Truth values and words, which code computes with, among the values.
use Rattle.std.specs.Prelude.{◌≡◌, Bool, true, false, List, Option, IsErr, MatchOption}
use Rattle.smt_terms.specs.declared.sort.Sort.{Sort}
use Rattle.smt_terms.specs.declared.sort.Sort.TheVariants as sort
use Rattle.smt_terms.specs.declared.node.Op.{Op}
use Rattle.smt_terms.specs.declared.node.Op.TheVariants.{Plain, Word, Extract, ZeroExtend, SignExtend, RotateLeft, RotateRight, Repeat, ConstantArray, Constant, Apply, Param}
use Rattle.smt_terms.specs.declared.scalar.Scalar.{Scalar}
use Rattle.smt_terms.specs.declared.scalar.Scalar.TheVariants as scalar
use Rattle.smt_terms.specs.Terms.{op_rank}
use Rattle.smt_terms.specs.Values.{Value, VBool, VWord, Interpretation, op_value}

abbrev pub scalar_value : Scalar → Value
scalar_value (scalar.Bool b) = VBool b
scalar_value (scalar.Word w) = VWord w.width w.value

abbrev pub scalar_sort : Scalar → Sort
scalar_sort (scalar.Bool b) = sort.Bool
scalar_sort (scalar.Word w) = sort.Word w.width

-- an operator of the theories or a literal that may take truth values and words to such a value, which no interpretation
-- and no definition gives
abbrev pub is_fixed : Op → Bool
is_fixed (Plain o) = true
is_fixed (Word n x) = true
is_fixed (Extract i j) = true
is_fixed (ZeroExtend i) = true
is_fixed (SignExtend i) = true
is_fixed (RotateLeft i) = true
is_fixed (RotateRight i) = true
is_fixed (Repeat i) = true
is_fixed (ConstantArray k) = false
is_fixed (Constant d s) = false
is_fixed (Apply d s) = false
is_fixed (Param k s) = false

-- an operator with an index, from a word to a word
abbrev pub is_indexed : Op → Bool
is_indexed (Plain o) = false
is_indexed (Word n x) = false
is_indexed (Extract i j) = true
is_indexed (ZeroExtend i) = true
is_indexed (SignExtend i) = true
is_indexed (RotateLeft i) = true
is_indexed (RotateRight i) = true
is_indexed (Repeat i) = true
is_indexed (ConstantArray k) = false
is_indexed (Constant d s) = false
is_indexed (Apply d s) = false
is_indexed (Param k s) = false

-- what an operator gives for arguments of these values, in every interpretation; nothing where it does not take their sorts
abbrev pub Gives : Op → List Sort → List Value → Option Scalar → Type 0
Gives op ss vs result = MatchOption result (IsErr (op_rank op ss)) (λ r. (M : Interpretation) → op_value M op vs ≡ scalar_value r)
