-- Values and evaluations, over more and over fewer terms.
use Rattle.std.proofs.Common.{◌≡◌, ℕ, ◌<◌, List, ◌++◌, length, map, ap, ◌∙◌, subst, arith, length-append}
use Rattle.smt_terms.specs.declared.node.Node.{Node}
use Rattle.smt_terms.specs.Terms.{IsTermList}
use Rattle.smt_terms.specs.Values.{Value, HasSort, no_value, Interpretation, op_value, value}
use Rattle.smt_terms.specs.Evaluations.{is_witness, IsEvaluation}
use Rattle.smt_terms.proofs.Recursion.{at_term_longer}
use Rattle.smt_terms.proofs.Growing.{node_longer, sort_longer}
use Rattle.smt_terms.proofs.Typing.{value_is, typed}

-- more terms change no value
pub value_longer : (M : Interpretation) (nodes more : List Node) (t : ℕ) → t < length nodes → value M (nodes ++ more) t ≡ value M nodes t
value_longer M nodes more t lt = at_term_longer no_value (λ u. op_value M) nodes more t lt

-- the values of terms are an evaluation
pub value_is_evaluation : (M : Interpretation) (nodes : List Node) → IsTermList nodes → IsEvaluation M nodes (value M nodes)
value_is_evaluation M nodes terms = record {
  means = λ t lt w. value_is M nodes t (terms t lt);
  sorted = typed M nodes terms;
}

-- an evaluation of more terms is one of the terms before
pub evaluation_shorter : (M : Interpretation) (nodes more : List Node) (v : ℕ → Value) → IsEvaluation M (nodes ++ more) v → IsEvaluation M nodes v
evaluation_shorter M nodes more v h = record {
  means = λ t lt w.
      let same = node_longer nodes more t lt in
      let within : t < length (nodes ++ more) = omega (arith, length-append nodes more) in
      h.means t within (ap (λ n. is_witness n.op) same ∙ w) ∙ ap (λ n. op_value M n.op (map v n.args)) same;
  sorted = λ t lt.
      let within : t < length (nodes ++ more) = omega (arith, length-append nodes more) in
      subst (λ s. HasSort s (v t)) (sort_longer nodes more t lt) (h.sorted t within);
}
