use Rattle.std.proofs.Common.{take, []}
use Rattle.proof_file.specs.Noting.{Adds, IsPlaceUnder}
use Rattle.proof_file.proofs.noting.places_under.Given as goal

abbrev pub invariant-assertions : goal.invariant-assertions
invariant-assertions l = Adds [] (IsPlaceUnder l.places l.noted (take l.assertion-index l.assertions)) l.found.items
