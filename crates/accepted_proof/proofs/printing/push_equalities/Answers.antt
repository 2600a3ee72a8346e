use Rattle.std.proofs.Common.{◌++◌, ap, ◌∙◌}
use Rattle.smt_terms.specs.declared.scalar.Scalar.{Scalar}
use Rattle.accepted_proof.specs.Answers.{equality_text}
use Rattle.accepted_proof.proofs.Pieces.{listed_more}
use Rattle.accepted_proof.proofs.printing.push_equalities.Goals as goal

pub loop-place-preserved : goal.loop-place-preserved
loop-place-preserved c =
    listed_more equality_text c.args.values.now c.loop-place.place c.index-values-place.result _ _ _ _ c.loop-place-test.true c.loop-place.invariant c.in_ok-push_gap.ensures.ok
    (c.in_ok-push_equality.ensures.ok ∙ ap (λ (v : Scalar). c.push_gap.new.out ++ equality_text c.loop-place.place v) c.index-values-place.is)
