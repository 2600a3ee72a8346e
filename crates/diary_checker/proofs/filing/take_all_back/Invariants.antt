use Rattle.std.proofs.Common.{ℕ, Bool, drop}
use Rattle.proof_log.specs.Logs.{clause_at}
use Rattle.diary_checker.specs.Tables.{bit_in}
use Rattle.diary_checker.specs.Uses.{AreFiled}
use Rattle.diary_checker.specs.Starts.{IsBroughtTo}
use Rattle.diary_checker.proofs.filing.take_all_back.Given as goal

abbrev pub invariant-loop-at : goal.invariant-loop-at
invariant-loop-at l = record {
  back : (start : ℕ → Bool) → IsBroughtTo start (bit_in l.fn.held) l.brought → IsBroughtTo start (bit_in l.held) (drop l.at-index l.brought);
  filed : AreFiled (clause_at l.log.clauses) (bit_in l.fn.held) l.fn.watches → AreFiled (clause_at l.log.clauses) (bit_in l.held) l.watches;
}
