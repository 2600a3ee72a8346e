-- The nodes of a shape, the first of them first, and the numbers that they get.
use Rattle.std.specs.Prelude.{◌≡◌, ◌⊎◌, ℕ, ◌-◌, ◌^◌, ◌<◌, ◌≤◌, if◌then◌else◌, List, [], ◌∷◌, ◌++◌, length, Contains, Result, Ok, true}
use Rattle.smt_terms.specs.declared.sort.Sort.{Sort}
use Rattle.smt_terms.specs.declared.sort.Sort.TheVariants as sort
use Rattle.smt_terms.specs.declared.operator.Operator.{Operator}
use Rattle.smt_terms.specs.declared.operator.Operator.TheVariants as plain
use Rattle.smt_terms.specs.declared.node.Op.{Op}
use Rattle.smt_terms.specs.declared.node.Op.TheVariants as op
use Rattle.smt_terms.specs.declared.node.Node.{Node}
use Rattle.smt_terms.specs.declared.fault.MakeFault.{MakeFault}
use Rattle.smt_terms.specs.Nodes.{leaf, node_at}
use Rattle.smt_terms.specs.Ranks.{width_of, literal_sort, word_sort, and_then}
use Rattle.smt_terms.specs.Terms.{TermsValue, AreTerms, op_rank, sort_of, make}
use Rattle.bv_rewrite.specs.declared.shape.Shape.{Shape}
use Rattle.bv_rewrite.specs.declared.shape.Shape.TheVariants.{Term, Truth, Word, Ones, One, Two, WithWord, WithNegated, Bits}
use Rattle.bv_rewrite.specs.Shapes.{has_shape}
use Rattle.bv_rewrite.specs.Weights.{weight, shape_weight}

-- ---- nodes

abbrev pub on_one : Op → ℕ → Node
on_one o x = record { op = o; args = x ∷ [] }

abbrev pub on_two : Op → ℕ → ℕ → Node
on_two o x y = record { op = o; args = x ∷ y ∷ [] }

abbrev pub word_node : ℕ → ℕ → Node
word_node n k = leaf (op.Word n k)

-- the operator on a term and another, which is made first
abbrev pub made_beside : TermsValue → Operator → ℕ → Node → Result (ℕ × TermsValue) MakeFault
made_beside v o x other = and_then (make v other) λ r. make r.1 (on_two (op.Plain o) x r.0)

-- the number of a term of this shape and sort, and the terms with it
abbrev pub made_shape : TermsValue → Sort → Shape → Result (ℕ × TermsValue) MakeFault
made_shape v s (Term x) = Ok (x, v)
made_shape v s (Truth b) = make v (leaf (op.Plain (if b then plain.True else plain.False)))
made_shape v s (Word k) = make v (word_node (width_of s) k)
made_shape v s Ones = make v (word_node (width_of s) (2 ^ width_of s - 1))
made_shape v s (One o x) = make v (on_one (op.Plain o) x)
made_shape v s (Two o x y) = make v (on_two (op.Plain o) x y)
made_shape v s (WithWord o x k) = made_beside v o x (word_node (width_of (sort_of v.nodes x)) k)
made_shape v s (WithNegated x y) = made_beside v plain.Bvadd x (on_one (op.Plain plain.Bvneg) y)
made_shape v s (Bits i j x) = make v (on_one (op.Extract i j) x)

-- ---- sorts

-- an operator gives this sort for held terms
abbrev pub IsOnOne : List Node → Sort → Op → ℕ → Type 0
IsOnOne nodes s o x = (x < length nodes) × (op_rank o (sort_of nodes x ∷ []) ≡ Ok s)

abbrev pub IsOnTwo : List Node → Sort → Op → ℕ → ℕ → Type 0
IsOnTwo nodes s o x y = (x < length nodes) × (y < length nodes) × (op_rank o (sort_of nodes x ∷ sort_of nodes y ∷ []) ≡ Ok s)

-- each node of the shape has a sort, and the last has this one
abbrev pub IsRanked : List Node → Sort → Shape → Type 0
IsRanked nodes s (Term x) = (x < length nodes) × (sort_of nodes x ≡ s)
IsRanked nodes s (Truth b) = s ≡ sort.Bool
IsRanked nodes s (Word k) = literal_sort (width_of s) k ≡ Ok s
IsRanked nodes s Ones = word_sort (width_of s) ≡ Ok s
IsRanked nodes s (One o x) = IsOnOne nodes s (op.Plain o) x
IsRanked nodes s (Two o x y) = IsOnTwo nodes s (op.Plain o) x y
IsRanked nodes s (WithWord o x k) = IsOnTwo nodes s (op.Plain o) x x × (literal_sort (width_of (sort_of nodes x)) k ≡ Ok (sort_of nodes x))
IsRanked nodes s (WithNegated x y) = IsOnTwo nodes s (op.Plain plain.Bvadd) x y × IsOnOne nodes (sort_of nodes y) (op.Plain plain.Bvneg) y
IsRanked nodes s (Bits i j x) = IsOnOne nodes s (op.Extract i j) x × (j ≤ i) × (i < 128)

-- A term of this shape and sort stands there, and the terms before it are as they were. Behind them stand no others but the term
-- itself and arguments of it.
pub record IsOfShape (v w : TermsValue) (s : Sort) (shape : Shape) (u : ℕ) : Type 0 where
  pub terms : AreTerms w
  pub more : List Node
  pub grown : w.nodes ≡ v.nodes ++ more
  pub limit : w.limit ≡ v.limit
  pub held : u < length w.nodes
  pub sort : sort_of w.nodes u ≡ s
  pub has : has_shape w.nodes shape u ≡ true
  pub weight : weight w.nodes u ≡ shape_weight v.nodes shape
  pub needed : (k : ℕ) → length v.nodes ≤ k → k < length w.nodes → (u ≡ k) ⊎ Contains (node_at w.nodes u).args k
