use Rattle.std.proofs.Common.{◌≡◌, take, map}
use Rattle.proof_text.specs.Records.{written_scalar}
use Rattle.accepted_proof.specs.Models.{AreOfKinds}
use Rattle.proof_checker.proofs.written.arguments_of.Given as goal

abbrev pub invariant-loop-at : goal.invariant-loop-at
invariant-loop-at l = record {
  kinds : AreOfKinds (take l.at l.sorts) l.made.items;
  text : map written_scalar l.made.items ≡ take l.at l.written;
}
