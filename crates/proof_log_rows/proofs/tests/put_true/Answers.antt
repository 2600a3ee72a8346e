use Rattle.std.proofs.Common.{◌≡◌, ◌^◌, refl, Ok}
use Rattle.smt_terms.specs.declared.operator.Operator.TheVariants as plain
use Rattle.smt_terms.specs.declared.node.Op.TheVariants.{Plain}
use Rattle.smt_terms.specs.Nodes.{leaf}
use Rattle.smt_terms.specs.Terms.{make, no_terms, with_node}
use Rattle.proof_log.specs.Faults.{IsNewNode}
use Rattle.proof_log_rows.proofs.tests.put_true.Goals as goal

is_made : make (no_terms (2 ^ 24)) (leaf (Plain plain.True)) ≡ Ok (0, with_node (no_terms (2 ^ 24)) (leaf (Plain plain.True)))
unfolding make
is_made = refl

is_new : IsNewNode (no_terms (2 ^ 24)) (leaf (Plain plain.True))
is_new = record { operator = λ h. h; new = refl; made = is_made }

pub push_node-requires-clause-valid : goal.push_node-requires-clause-valid
push_node-requires-clause-valid c = rw (c.requires.terms, c.leaf-node.ensures) is_new
