-- Nodes, and recursion over lists of them.
use Rattle.std.specs.Prelude.{ℕ, zero, suc, ◌==◌, if◌then◌else◌, List, [], map, slice_index_or}
use Rattle.smt_terms.specs.declared.operator.Operator.TheVariants as plain
use Rattle.smt_terms.specs.declared.node.Op.{Op}
use Rattle.smt_terms.specs.declared.node.Op.TheVariants.{Plain}
use Rattle.smt_terms.specs.declared.node.Node.{Node}

abbrev pub node_of : Op → List ℕ → Node
node_of op args = record { op = op; args = args }

-- a node without arguments
abbrev pub leaf : Op → Node
leaf op = node_of op []

-- what stands past the end of a list
abbrev pub no_node : Node
no_node = leaf (Plain plain.True)

abbrev pub node_at : List Node → ℕ → Node
node_at nodes t = slice_index_or nodes t no_node

-- A recursion over the terms below a number, each by its number, its operator, and what its arguments gave.
unfoldable pub below : {A : Type 0} → A → (ℕ → Op → List A → A) → List Node → ℕ → ℕ → A
below d step nodes zero t = d
below d step nodes (suc n) t = if t == n then step n (node_at nodes n).op (map (below d step nodes n) (node_at nodes n).args) else below d step nodes n t

-- what the recursion gives at a term
abbrev pub at_term : {A : Type 0} → A → (ℕ → Op → List A → A) → List Node → ℕ → A
at_term d step nodes t = below d step nodes (suc t) t
