use Rattle.std.proofs.Common.{take}
use Rattle.proof_checker.specs.Written.{IsArrayOf}
use Rattle.proof_checker.proofs.written.array_of.Given as goal

abbrev pub invariant-loop-entry : goal.invariant-loop-entry
invariant-loop-entry l = IsArrayOf l.index l.element l.default (take l.entry-index l.entries) l.array
