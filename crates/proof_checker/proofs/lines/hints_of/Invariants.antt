use Rattle.std.proofs.Common.{◌≡◌, map, take}
use Rattle.proof_text.specs.Entries.{written_hint}
use Rattle.proof_checker.proofs.lines.hints_of.Given as goal

abbrev pub invariant-loop-hint : goal.invariant-loop-hint
invariant-loop-hint l = map written_hint l.made.items ≡ take l.hint-index l.hints
