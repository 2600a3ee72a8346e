use Rattle.std.proofs.Common.{◌≡◌, take}
use Rattle.proof_file.specs.Places.{without_places}
use Rattle.proof_file.specs.Held.{file_in}
use Rattle.proof_file.proofs.places.Places.remove_all.Given as goal

abbrev pub invariant-loop-place : goal.invariant-loop-place
invariant-loop-place l = file_in l.self ≡ without_places (file_in l.fn.self) (take l.place-index l.gone)
