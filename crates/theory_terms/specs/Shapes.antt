-- What terms are to functions and arrays.
use Rattle.std.specs.Prelude.{ℕ, List, [], ◌∷◌, Option, position}
use Rattle.smt_terms.specs.declared.sort.Sort.{Sort}
use Rattle.smt_terms.specs.declared.sort.Sort.TheVariants as sort
use Rattle.smt_terms.specs.declared.operator.Operator.{Operator}
use Rattle.smt_terms.specs.declared.operator.Operator.TheVariants as plain
use Rattle.smt_terms.specs.declared.node.Op.{Op}
use Rattle.smt_terms.specs.declared.node.Op.TheVariants.{Plain, ConstantArray, Constant, Apply}
use Rattle.smt_terms.specs.declared.node.Node.{Node}
use Rattle.smt_terms.specs.Nodes.{node_at}
use Rattle.smt_terms.specs.Same.{same_node}
use Rattle.theory_terms.specs.declared.shape.Shape.{Shape}
use Rattle.theory_terms.specs.declared.shape.Shape.TheVariants.{Selecting, Storing, Filling, Choosing, Equating, Witnessing, Applying, Declaring, Other}

-- Bool or a word
abbrev pub IsPlain : Sort → Type 0
IsPlain sort.Bool = Unit {0}
IsPlain (sort.Word n) = Unit {0}
IsPlain (sort.Array n m) = ⊥

abbrev pub filling : List ℕ → Shape
filling (x ∷ []) = Filling x
filling _ = Other

abbrev pub of_two : (ℕ → ℕ → Shape) → List ℕ → Shape
of_two f (a ∷ b ∷ []) = f a b
of_two f _ = Other

abbrev pub of_three : (ℕ → ℕ → ℕ → Shape) → List ℕ → Shape
of_three f (a ∷ b ∷ c ∷ []) = f a b c
of_three f _ = Other

abbrev pub operator_shape : Operator → List ℕ → Shape
operator_shape plain.Select args = of_two Selecting args
operator_shape plain.Store args = of_three Storing args
operator_shape plain.Ite args = of_three Choosing args
operator_shape plain.Equal args = of_two Equating args
operator_shape plain.Witness args = of_two Witnessing args
operator_shape _ args = Other

-- what a term of this operator and these arguments is
abbrev pub shape_of : Op → List ℕ → Shape
shape_of (Plain o) args = operator_shape o args
shape_of (ConstantArray n) args = filling args
shape_of (Constant d s) args = Declaring d s
shape_of (Apply d s) args = Applying d
shape_of _ args = Other

-- what a term is
abbrev pub shape_at : List Node → ℕ → Shape
shape_at nodes t = shape_of (node_at nodes t).op (node_at nodes t).args

-- the term of a node, if there is one
abbrev pub term_of : List Node → Node → Option ℕ
term_of nodes n = position (same_node n) nodes
