use Rattle.std.proofs.Common.{◌≡◌, ◌++◌, ◌-◌, drop}
use Rattle.proof_file.specs.Trimmed.{made_from}
use Rattle.proof_file.proofs.writing.made_positions.Given as goal

abbrev pub invariant-loop-at : goal.invariant-loop-at
invariant-loop-at l = made_from l.from (drop (l.from - 1) l.log.entries) ≡ l.made.items ++ made_from l.at (drop (l.at - 1) l.log.entries)
