use Rattle.std.proofs.Common.{take}
use Rattle.proof_file.specs.Noting.{Adds, IsPlaceOf}
use Rattle.proof_file.proofs.noting.add_places.Given as goal

abbrev pub invariant-positions : goal.invariant-positions
invariant-positions l = Adds l.fn.found.items (IsPlaceOf l.places (take l.position-index l.positions)) l.found.items
