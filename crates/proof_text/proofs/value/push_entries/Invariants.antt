use Rattle.std.proofs.Common.{◌≡◌, ◌++◌, take, map}
use Rattle.std.specs.List.{flat_map}
use Rattle.proof_text.specs.Lines.{spaced, entry_words}
use Rattle.proof_text.specs.Records.{written_entry}
use Rattle.proof_text.proofs.value.push_entries.Given as goal

abbrev pub invariant-loop-entry : goal.invariant-loop-entry
invariant-loop-entry l = l.out ≡ l.fn.out ++ spaced (flat_map entry_words (map written_entry (take l.entry-index l.entries)))
