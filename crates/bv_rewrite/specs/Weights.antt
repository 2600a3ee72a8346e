-- Weights of terms, which each rule but that on arguments lowers: so rewriting ends.
use Rattle.std.specs.Prelude.{ℕ, ◌+◌, List, [], ◌∷◌}
use Rattle.smt_terms.specs.declared.operator.Operator.{Operator}
use Rattle.smt_terms.specs.declared.operator.Operator.TheVariants as plain
use Rattle.smt_terms.specs.declared.node.Op.{Op}
use Rattle.smt_terms.specs.declared.node.Op.TheVariants as op
use Rattle.smt_terms.specs.declared.node.Node.{Node}
use Rattle.smt_terms.specs.Nodes.{at_term}
use Rattle.bv_rewrite.specs.declared.shape.Shape.{Shape}
use Rattle.bv_rewrite.specs.declared.shape.Shape.TheVariants.{Term, Truth, Word, Ones, One, Two, WithWord, WithNegated, Bits}

-- what becomes one shift, one order or several operators weighs more than these
abbrev pub operator_weight : Operator → ℕ
operator_weight plain.Bvadd = 2
operator_weight plain.Bvsub = 4
operator_weight plain.Bvmul = 2
operator_weight plain.Bvudiv = 2
operator_weight plain.Bvurem = 2
operator_weight plain.Bvugt = 2
operator_weight plain.Bvuge = 2
operator_weight plain.Bvsgt = 2
operator_weight plain.Bvsge = 2
operator_weight _ = 1

abbrev pub op_weight : Op → ℕ
op_weight (op.Plain o) = operator_weight o
op_weight _ = 1

abbrev pub total : List ℕ → ℕ
total [] = 0
total (n ∷ ns) = n + total ns

-- the weight of a term's operator and those of its arguments
abbrev pub weight : List Node → ℕ → ℕ
weight nodes t = at_term 1 (λ u o ws. op_weight o + total ws) nodes t

-- the weight of the terms of a shape
abbrev pub shape_weight : List Node → Shape → ℕ
shape_weight nodes (Term x) = weight nodes x
shape_weight nodes (Truth b) = 1
shape_weight nodes (Word k) = 1
shape_weight nodes Ones = 1
shape_weight nodes (One o x) = operator_weight o + weight nodes x
shape_weight nodes (Two o x y) = operator_weight o + (weight nodes x + weight nodes y)
shape_weight nodes (WithWord o x k) = operator_weight o + (weight nodes x + 1)
shape_weight nodes (WithNegated x y) = 2 + (weight nodes x + (1 + weight nodes y))
shape_weight nodes (Bits i j x) = 1 + weight nodes x
