use Rattle.std.proofs.Common.{◌≡◌, ◌^◌, [], ◌∷◌, refl, Ok}
use Rattle.smt_terms.specs.declared.operator.Operator.TheVariants as plain
use Rattle.smt_terms.specs.declared.node.Op.TheVariants.{Plain}
use Rattle.smt_terms.specs.Nodes.{leaf, node_of, below}
use Rattle.smt_terms.specs.Terms.{TermsValue, make, no_terms, with_node}
use Rattle.proof_log.specs.Faults.{IsNewNode}
use Rattle.proof_log_rows.proofs.tests.put_nodes.Goals as goal

abbrev true_term : TermsValue
true_term = with_node (no_terms (2 ^ 24)) (leaf (Plain plain.True))

is_made : make true_term (node_of (Plain plain.Not) (0 ∷ [])) ≡ Ok (1, with_node true_term (node_of (Plain plain.Not) (0 ∷ [])))
unfolding make below
is_made = refl

is_new : IsNewNode true_term (node_of (Plain plain.Not) (0 ∷ []))
is_new = record { operator = λ h. h; new = refl; made = is_made }

pub push_node-requires-clause-valid : goal.push_node-requires-clause-valid
push_node-requires-clause-valid c = rw (c.in-Ok.ensures.terms, c.in_ok-of.ensures) is_new
