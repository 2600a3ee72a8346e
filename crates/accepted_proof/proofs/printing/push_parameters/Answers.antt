use Rattle.accepted_proof.specs.Answers.{parameter_text}
use Rattle.accepted_proof.proofs.Pieces.{listed_more}
use Rattle.accepted_proof.proofs.printing.push_parameters.Goals as goal

pub loop-place-preserved : goal.loop-place-preserved
loop-place-preserved c =
    listed_more parameter_text c.args.sorts.now c.loop-place.place _ _ _ _ _ c.loop-place-test.true c.loop-place.invariant c.in_ok-push_gap.ensures.ok c.in_ok-push_parameter.ensures.ok
