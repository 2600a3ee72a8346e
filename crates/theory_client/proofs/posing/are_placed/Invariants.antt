use Rattle.std.proofs.Common.{ℕ, ◌<◌}
use Rattle.theory_client.specs.Posed.{IsPlaced}
use Rattle.theory_client.proofs.posing.are_placed.Given as goal

abbrev pub invariant-terms : goal.invariant-terms
invariant-terms l = (t : ℕ) → t < l.term → IsPlaced l.log t
