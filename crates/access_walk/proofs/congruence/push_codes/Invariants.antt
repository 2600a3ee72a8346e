use Rattle.std.proofs.Common.{◌≡◌, ◌++◌, take}
use Rattle.std.specs.Prelude.{map}
use Rattle.bit_blast.specs.Assigned.{assigned}
use Rattle.access_tables.specs.Held.{assigned_value}
use Rattle.access_walk.specs.Congruent.{code_of}
use Rattle.access_walk.proofs.congruence.push_codes.Given as goal

abbrev pub invariant-loop-arg : goal.invariant-loop-arg
invariant-loop-arg l = l.keys.items ≡ l.fn.keys.items ++ map (λ t. code_of (assigned_value l.terms.nodes l.bits (assigned l.assignment) t)) (take l.arg-index l.args)
