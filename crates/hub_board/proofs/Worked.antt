-- A chain that is valid in every log: that variable 1 is true, by the clause of position 0.
use Rattle.std.proofs.Common.{◌≡◌, true, not, List, [], ◌∷◌, refl, sym, ap, ◌∙◌, inr, arith}
use Rattle.std.proofs.lemmas.List.Elements.{All-cons, All-nil}
use Rattle.cnf_base.specs.Literals.{Literal, negated, true_literal}
use Rattle.cnf_base.specs.declared.clause.ClauseId.{ClauseId}
use Rattle.cnf_base.proofs.Agreeing.{AreBelow-more}
use Rattle.cnf_base.proofs.Lists.{Contains-first, Contains-one}
use Rattle.hint_chain.specs.Chains.{IsFalse, HasPair}
use Rattle.hint_chain.proofs.Growing.{IsChain-grows}
use Rattle.smt_terms.specs.declared.node.Node.{Node}
use Rattle.proof_log.specs.declared.entry.Entry.{Entry}
use Rattle.proof_log.specs.declared.entry.Entry.TheVariants as step
use Rattle.proof_log.specs.Logs.{start, state_of, IsStep, IsLog}
use Rattle.proof_log.proofs.Staying.{steps_hold}

abbrev pub top : ClauseId
top = record { pos = 0; part = 0 }

no_pair : HasPair (true_literal ∷ []) → ⊥
no_pair h =
    let one : true_literal ≡ h.0 = Contains-one true_literal h.0 h.1 in
    let other : true_literal ≡ negated h.0 = Contains-one true_literal (negated h.0) h.2 in
    let e : true ≡ not true = ap (λ (l : Literal). l.positive) other ∙ ap (λ (l : Literal). not l.positive) (sym one) in
    cc

at_start : (nodes : List Node) → IsStep nodes start (step.Chain (true_literal ∷ []) (top ∷ []))
at_start nodes = (
  (omega arith, tt),
  inr (
    no_pair,
    (
      true_literal ∷ [],
      refl,
      All-cons (IsFalse (negated true_literal ∷ [])) true_literal [] (Contains-first (negated true_literal) []) (All-nil (IsFalse (negated true_literal ∷ []))),
    ),
  ),
)

pub truth_is_valid : (nodes : List Node) (log : List Entry) → IsLog nodes log → IsStep nodes (state_of nodes log) (step.Chain (true_literal ∷ []) (top ∷ []))
truth_is_valid nodes log h =
    let x = steps_hold nodes start log h in
    let v = at_start nodes in
    (AreBelow-more _ _ x.next (true_literal ∷ []) v.0, IsChain-grows _ _ x.clauses (true_literal ∷ []) (top ∷ []) v.1)
