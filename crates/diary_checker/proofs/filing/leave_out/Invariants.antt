use Rattle.std.proofs.Common.{◌≡◌, ℕ, not, take}
use Rattle.std.specs.Prelude.{◌&&◌}
use Rattle.proof_text.specs.Deletions.{is_deleted}
use Rattle.diary_checker.specs.Tables.{bit_in}
use Rattle.diary_checker.proofs.filing.leave_out.Given as goal

abbrev pub invariant-loop-place : goal.invariant-loop-place
invariant-loop-place l = (p : ℕ) → bit_in l.held p ≡ (bit_in l.fn.held p && not (is_deleted (take l.place-index l.places) p))
