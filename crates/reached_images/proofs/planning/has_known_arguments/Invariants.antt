use Rattle.std.proofs.Common.{◌≡◌, ℕ, ◌<◌, Some}
use Rattle.std.specs.Prelude.{slice_get}
use Rattle.reached_images.specs.Plans.{IsKnown}
use Rattle.reached_images.proofs.planning.has_known_arguments.Given as goal

abbrev pub invariant-arguments : goal.invariant-arguments
invariant-arguments l = (j u : ℕ) → j < l.argument-index → slice_get l.args j ≡ Some u → IsKnown l.bits l.plan u
