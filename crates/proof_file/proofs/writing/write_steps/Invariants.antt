use Rattle.std.proofs.Common.{take}
use Rattle.proof_file.specs.Files.{AreStepsWritten, KeepsIndex}
use Rattle.proof_file.specs.Held.{file_in}
use Rattle.proof_file.proofs.writing.write_steps.Given as goal

abbrev pub invariant-loop-at : goal.invariant-loop-at
invariant-loop-at l = record {
  steps : AreStepsWritten l.log.entries (file_in l.fn.places) (file_in l.places) (take l.at-index l.positions) l.fn.out l.out;
  index : KeepsIndex l.log.entries (file_in l.fn.places) (file_in l.places) l.fn.chains l.chains;
}
