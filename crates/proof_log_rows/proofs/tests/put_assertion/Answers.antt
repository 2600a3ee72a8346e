use Rattle.std.proofs.Common.{◌≡◌, ◌++◌, ◌^◌, [], ◌∷◌, List, refl, arith}
use Rattle.cnf_base.specs.Literals.{true_literal}
use Rattle.smt_terms.specs.declared.sort.Sort.TheVariants as sort
use Rattle.smt_terms.specs.declared.operator.Operator.TheVariants as plain
use Rattle.smt_terms.specs.declared.node.Op.TheVariants.{Plain}
use Rattle.smt_terms.specs.Nodes.{leaf, below}
use Rattle.smt_terms.specs.Terms.{TermsValue, no_terms, with_node, sort_of}
use Rattle.proof_log.specs.declared.entry.Entry.{Entry}
use Rattle.proof_log.specs.declared.entry.Entry.TheVariants as step
use Rattle.proof_log.specs.Logs.{state_of, IsEncoding, IsSelector}
use Rattle.proof_log_rows.proofs.tests.put_assertion.Goals as goal

abbrev true_term : TermsValue
true_term = with_node (no_terms (2 ^ 24)) (leaf (Plain plain.True))

abbrev first_step : List Entry
first_step = step.Node (leaf (Plain plain.True)) ∷ []

is_encoding : IsEncoding true_term.nodes (state_of true_term.nodes first_step) 0
is_encoding = record { term = omega arith; new = refl; block = record { gates = []; bits = true_literal ∷ [] }; circuit = refl }

is_bool : sort_of true_term.nodes 0 ≡ sort.Bool
unfolding below
is_bool = refl

is_selector : IsSelector true_term.nodes (state_of true_term.nodes (first_step ++ step.Encode 0 ∷ [])) 0 0
is_selector = record { term = omega arith; sort = is_bool; new = refl; bit = true_literal; encoded = refl }

pub push-requires-clause-valid : goal.push-requires-clause-valid
push-requires-clause-valid c = rw (c.in_ok-_first.ensures.terms, c.in_ok-_first.ensures.steps) is_encoding

pub push-requires-2-clause-valid : goal.push-requires-2-clause-valid
push-requires-2-clause-valid c = rw (c.in_ok-second.ensures.pushed.entries, c.in_ok-_first.ensures.terms, c.in_ok-_first.ensures.steps) is_selector
