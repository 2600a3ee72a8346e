use Rattle.std.proofs.Common.{◌≡◌, ◌++◌, take, map}
use Rattle.std.specs.List.{AllByRecursion}
use Rattle.std.specs.Fmt.{decimal}
use Rattle.proof_text.specs.Lines.{spaced, IsNumber}
use Rattle.proof_file.proofs.writing.write_deletion.Given as goal

abbrev pub invariant-loop-place : goal.invariant-loop-place
invariant-loop-place l = record {
  text : l.out ≡ l.initial.out ++ spaced (map decimal (take l.place-index l.places));
  numbers : AllByRecursion IsNumber (take l.place-index l.places);
}
