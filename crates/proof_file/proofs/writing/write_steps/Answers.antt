use Rattle.std.proofs.Common.{List, ℕ, get_or, refl, subst}
use Rattle.std.proofs.lemmas.List.{take_all}
use Rattle.proof_file.specs.Files.{AreStepsWritten}
use Rattle.proof_file.specs.Held.{file_in}
use Rattle.proof_file.proofs.Lining.{steps_none, steps_next, keeps_none, keeps_more}
use Rattle.proof_file.proofs.writing.write_steps.Goals as goal

pub loop-at-init : goal.loop-at-init
loop-at-init c = record {
  steps = steps_none c.args.log.now.entries (file_in c.args.places.now) c.args.out.now;
  index = keeps_none c.args.log.now.entries (file_in c.args.places.now) c.args.chains.now;
}

pub loop-at-preserved : goal.loop-at-preserved
loop-at-preserved c = record {
  steps =
      steps_next c.args.log.now.entries (file_in c.args.places.now) (file_in c.loop-at.places) (file_in c.write_step.new.places) c.args.positions.now c.loop-at.at-index (get_or c.args.positions.now c.loop-at.at-index 0) 0
      c.args.out.now c.loop-at.out c.write_step.new.out c.loop-at-test.true refl c.loop-at.invariant.steps c.in_ok-write_step.ensures.steps;
  index =
      keeps_more c.args.log.now.entries (file_in c.args.places.now) (file_in c.loop-at.places) (file_in c.write_step.new.places) c.args.chains.now c.loop-at.chains c.write_step.new.chains
      c.loop-at.invariant.index c.in_ok-write_step.ensures.index;
}

pub returns-clause-steps : goal.returns-clause-steps
returns-clause-steps c =
    subst (λ (ps : List ℕ). AreStepsWritten c.args.log.now.entries (file_in c.args.places.now) (file_in c.loop-at.places) ps c.args.out.now c.loop-at.out)
    (take_all c.loop-at.at-index c.args.positions.now c.loop-at-test.false) c.loop-at.invariant.steps

pub returns-clause-index : goal.returns-clause-index
returns-clause-index c = c.loop-at.invariant.index
