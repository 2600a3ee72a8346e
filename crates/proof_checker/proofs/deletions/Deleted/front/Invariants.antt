use Rattle.std.proofs.Common.{◌≡◌, take}
use Rattle.proof_checker.proofs.deletions.Deleted.front.Given as goal

abbrev pub invariant-loop-place : goal.invariant-loop-place
invariant-loop-place l = l.front ≡ take l.place-index l.self
