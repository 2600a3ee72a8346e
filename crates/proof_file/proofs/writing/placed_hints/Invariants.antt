use Rattle.std.proofs.Common.{◌≡◌, take, map}
use Rattle.proof_file.specs.Places.{placed_hint}
use Rattle.proof_file.specs.Held.{file_in}
use Rattle.proof_file.proofs.writing.placed_hints.Given as goal

abbrev pub invariant-loop-k : goal.invariant-loop-k
invariant-loop-k l = l.placed.items ≡ map (placed_hint (file_in l.places).places) (take l.k l.hints)
