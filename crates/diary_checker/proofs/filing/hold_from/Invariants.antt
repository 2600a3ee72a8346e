use Rattle.std.proofs.Common.{◌≡◌, ℕ, not}
use Rattle.std.specs.Prelude.{◌&&◌, ◌||◌, ltb}
use Rattle.proof_log.specs.Logs.{clause_at, entry_at}
use Rattle.proof_log.specs.Diaries.{is_chain}
use Rattle.diary_checker.specs.Tables.{bit_in}
use Rattle.diary_checker.specs.Uses.{AreFiled}
use Rattle.diary_checker.proofs.filing.hold_from.Given as goal

abbrev pub invariant-loop-at : goal.invariant-loop-at
invariant-loop-at l = record {
  held : (p : ℕ) → bit_in l.held p ≡ (ltb p l.at && not (bit_in l.deleted p || is_chain (entry_at l.log.entries p)));
  filed : AreFiled (clause_at l.log.clauses) (bit_in l.held) l.watches;
}
