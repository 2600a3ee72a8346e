use Rattle.std.proofs.Common.{◌≡◌, ◌++◌, take}
use Rattle.std.specs.List.{flat_map}
use Rattle.smt_values.specs.Arrays.{Entry}
use Rattle.accepted_proof.specs.Printed.{store_opening}
use Rattle.accepted_proof.proofs.printing.push_openings.Given as goal

abbrev pub invariant-loop-entry : goal.invariant-loop-entry
invariant-loop-entry l = l.out ≡ l.fn.out ++ flat_map (λ (e : Entry). store_opening l.default e.1) (take l.entry-index l.entries)
