use Rattle.std.proofs.Common.{◌≡◌, length, map}
use Rattle.proof_text.specs.Reading.{look_up}
use Rattle.proof_text.proofs.keyword.look_up.Given as goal

abbrev pub invariant-loop-entries : goal.invariant-loop-entries
invariant-loop-entries g l = look_up (map (λ entry. (entry.0.now, entry.1)) l.entries) l.word ≡ look_up (map (λ entry. (entry.0.now, entry.1)) l.initial.entries) l.word

abbrev pub decreases-loop-entries : goal.decreases-loop-entries
decreases-loop-entries g l = length l.entries
