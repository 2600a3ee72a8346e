use Rattle.std.proofs.Common.{◌≡◌, ◌++◌, take}
use Rattle.std.specs.List.{flat_map}
use Rattle.accepted_proof.specs.Printed.{store_ending}
use Rattle.accepted_proof.proofs.printing.push_endings.Given as goal

abbrev pub invariant-loop-entry : goal.invariant-loop-entry
invariant-loop-entry l = l.out ≡ l.fn.out ++ flat_map (store_ending l.default) (take l.entry-index l.entries)
