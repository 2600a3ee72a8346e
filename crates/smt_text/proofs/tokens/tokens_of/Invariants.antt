use Rattle.std.proofs.Common.{length, ◌-◌}
use Rattle.smt_text.proofs.Spelled.{Spelled}
use Rattle.smt_text.proofs.tokens.tokens_of.Given as goal

abbrev pub invariant-loop-n : goal.invariant-loop-n
invariant-loop-n l = Spelled l.text l.out.items l.at

abbrev pub decreases-loop-n : goal.decreases-loop-n
decreases-loop-n l = length l.initial.text - l.at
