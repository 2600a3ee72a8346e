-- A node without arguments that is held is made at its number.
use Rattle.std.proofs.Common.{◌≡◌, ℕ, Some, ap, ◌∙◌, subst, map, position, Ok}
use Rattle.smt_terms.specs.declared.node.Op.{Op}
use Rattle.smt_terms.specs.declared.node.Node.{Node}
use Rattle.smt_terms.specs.Nodes.{leaf}
use Rattle.smt_terms.specs.Ranks.{and_then}
use Rattle.smt_terms.specs.Same.{same_node}
use Rattle.smt_terms.specs.Terms.{TermsValue, sort_of, op_rank, node_sort, numbered, make, IsTermList}
use Rattle.smt_terms.proofs.Made.{at_place}

pub found_made : (v : TermsValue) → IsTermList v.nodes → (op : Op) (t : ℕ) → position (same_node (leaf op)) v.nodes ≡ Some t → make v (leaf op) ≡ Ok (t, v)
unfolding make
found_made v list op t e =
    let p = at_place v.nodes (leaf op) t e in
    let own : node_sort v.nodes (leaf op) ≡ Ok (sort_of v.nodes t) = subst (λ (n : Node). op_rank n.op (map (sort_of v.nodes) n.args) ≡ Ok (sort_of v.nodes t)) p.1 (list t p.0).rank in
    ap (λ r. and_then r (λ _. numbered v (leaf op) (position (same_node (leaf op)) v.nodes))) own ∙ ap (numbered v (leaf op)) e
