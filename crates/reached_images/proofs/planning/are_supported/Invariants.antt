use Rattle.std.proofs.Common.{◌≡◌, ℕ, ◌<◌, Some}
use Rattle.std.specs.Prelude.{slice_get}
use Rattle.reached_images.specs.Settled.{IsSupported}
use Rattle.reached_images.proofs.planning.are_supported.Given as goal

abbrev pub invariant-terms : goal.invariant-terms
invariant-terms l = (j u : ℕ) → j < l.term-index → slice_get l.some j ≡ Some u → IsSupported l.terms.nodes l.bits l.plan u
