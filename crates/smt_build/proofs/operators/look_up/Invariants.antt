use Rattle.std.proofs.Common.{◌≡◌, length, map}
use Rattle.smt_build.specs.Operators.{look_up}
use Rattle.smt_build.proofs.operators.look_up.Given as goal

abbrev pub invariant-loop-entries : goal.invariant-loop-entries
invariant-loop-entries l = look_up (map (λ entry. (entry.0.now, entry.1)) l.entries) l.name ≡ look_up (map (λ entry. (entry.0.now, entry.1)) l.initial.entries) l.name

abbrev pub decreases-loop-entries : goal.decreases-loop-entries
decreases-loop-entries l = length l.entries
