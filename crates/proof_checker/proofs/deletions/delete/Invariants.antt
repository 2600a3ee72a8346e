use Rattle.std.proofs.Common.{◌≡◌, ◌++◌, take}
use Rattle.proof_text.specs.Deletions.{AreDeletable}
use Rattle.proof_checker.proofs.deletions.delete.Given as goal

abbrev pub invariant-loop-place : goal.invariant-loop-place
invariant-loop-place l = record {
  can : AreDeletable l.log.entries l.initial.deleted (take l.place-index l.places);
  deleted : l.deleted ≡ l.initial.deleted ++ take l.place-index l.places;
}
