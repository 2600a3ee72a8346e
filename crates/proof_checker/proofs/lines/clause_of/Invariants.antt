use Rattle.std.proofs.Common.{◌≡◌, map, take}
use Rattle.proof_text.specs.Entries.{written_literal}
use Rattle.proof_checker.proofs.lines.clause_of.Given as goal

abbrev pub invariant-loop-literal : goal.invariant-loop-literal
invariant-loop-literal l = map written_literal l.made.items ≡ take l.literal-index l.literals
