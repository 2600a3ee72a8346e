use Rattle.std.proofs.Common.{◌≡◌, take}
use Rattle.std.specs.Prelude.{map}
use Rattle.bit_blast.specs.Assigned.{assigned}
use Rattle.access_tables.specs.Held.{assigned_value}
use Rattle.access_walk.specs.Maps.{gate_of}
use Rattle.access_walk.proofs.valued.put_gates.Given as goal

abbrev pub invariant-loop-guard : goal.invariant-loop-guard
invariant-loop-guard l = l.gates.items ≡ map (gate_of (assigned_value l.terms.nodes l.bits (assigned l.assignment))) (take l.guard-index l.guards)
