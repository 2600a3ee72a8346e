-- Values of all terms under an interpretation in which witnesses are any words of their sort.
use Rattle.std.specs.Prelude.{◌≡◌, ℕ, ◌<◌, Bool, true, false, not, ◌&&◌, List, [], ◌∷◌, length, map}
use Rattle.smt_terms.specs.declared.operator.Operator.TheVariants as plain
use Rattle.smt_terms.specs.declared.node.Op.{Op}
use Rattle.smt_terms.specs.declared.node.Op.TheVariants.{Plain}
use Rattle.smt_terms.specs.declared.node.Node.{Node}
use Rattle.smt_terms.specs.Operators.{same_operator}
use Rattle.smt_terms.specs.Nodes.{node_at, at_term}
use Rattle.smt_terms.specs.Terms.{sort_of}
use Rattle.smt_terms.specs.Values.{Value, HasSort, Interpretation, op_value}

abbrev pub is_witness : Op → Bool
is_witness (Plain o) = same_operator o plain.Witness
is_witness _ = false

-- each term has the value that its operator gives, but for witnesses, which are any words of their sort
pub record IsEvaluation (M : Interpretation) (nodes : List Node) (v : ℕ → Value) : Type 0 where
  pub means : (t : ℕ) → t < length nodes → is_witness (node_at nodes t).op ≡ false → v t ≡ op_value M (node_at nodes t).op (map v (node_at nodes t).args)
  pub sorted : (t : ℕ) → t < length nodes → HasSort (sort_of nodes t) (v t)

abbrev pub each_true : List Bool → Bool
each_true [] = true
each_true (b ∷ bs) = b && each_true bs

-- no witness stands in the term
abbrev pub has_no_witness : List Node → ℕ → Bool
has_no_witness nodes t = at_term true (λ u op bs. not (is_witness op) && each_true bs) nodes t
