use Rattle.std.proofs.Common.{◌<◌, sym, subst, length}
use Rattle.std.specs.Prelude.{All}
use Rattle.smt_terms.specs.Terms.{TermsValue}
use Rattle.smt_eval.specs.Evaluated.{AreSuited}
use Rattle.accepted_proof.proofs.Valuing.{are_suited}
use Rattle.proof_checker.proofs.Valued.{judged, held_for}
use Rattle.proof_checker.proofs.models.is_model.Goals as goal

pub values_with-requires : goal.values_with-requires
values_with-requires c = record {
  suited = subst (λ (v : TermsValue). AreSuited v.nodes c.in_ok-interp.interp) (sym c.terms.ensures.terms) (are_suited c.args.state.now c.terms.ensures.state c.in_ok-interp.interp (held_for c.args.state.now.symbols.signatures c.args.values.now c.in_ok-interp.interp c.requires c.in_ok-interp.ensures));
  held = rw c.as_slice.ensures.value (subst (λ (v : TermsValue). All (λ t. t < length v.nodes) c.in_ok-asked.asked.items) (sym c.terms.ensures.terms) c.in_ok-asked.ensures.held);
}

pub returns : goal.returns
returns c =
    judged c.args.state.now c.args.values.now c.in_ok-interp.interp c.as_slice-truths.result.now c.as_slice.result.now c.terms.result.now c.are_true-holds.result c.terms.ensures.terms
    (rw c.as_slice.ensures.value c.in_ok-asked.ensures.roots) c.in_ok-interp.ensures (rw c.as_slice-truths.ensures.value c.in_ok-found.ensures) c.are_true-holds.ensures
