use Rattle.std.proofs.Common.{List, ◌∷◌, ◌++◌, map, refl, ap, ◌∙◌}
use Rattle.smt_terms.specs.declared.scalar.Scalar.{Scalar}
use Rattle.proof_text.specs.Lines.{spaced, scalar_text}
use Rattle.proof_text.specs.Records.{written_scalar}
use Rattle.proof_text.proofs.Appending.{text_more}
use Rattle.proof_text.proofs.value.push_scalars.Goals as goal

pub loop-scalar-preserved : goal.loop-scalar-preserved
loop-scalar-preserved c =
    text_more (λ (xs : List Scalar). spaced (map scalar_text (map written_scalar xs))) (λ (x : Scalar). 32 ∷ scalar_text (written_scalar x)) refl (λ _ _. refl)
    c.args.scalars.now c.loop-scalar.scalar-index c.scalar-item.result _ _ _ c.loop-scalar-test.true c.loop-scalar.invariant
    (c.in_ok-push_spaced_scalar.ensures.ok ∙ ap (λ (x : Scalar). c.loop-scalar.out ++ 32 ∷ scalar_text (written_scalar x)) c.scalar-item.is)
