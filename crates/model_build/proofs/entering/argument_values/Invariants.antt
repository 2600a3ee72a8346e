use Rattle.std.proofs.Common.{◌≡◌, take}
use Rattle.std.specs.Prelude.{map}
use Rattle.smt_terms.specs.Scalars.{scalar_value}
use Rattle.bit_blast.specs.Assigned.{assigned}
use Rattle.access_tables.specs.Held.{assigned_value}
use Rattle.model_build.proofs.entering.argument_values.Given as goal

abbrev pub invariant-loop-arg : goal.invariant-loop-arg
invariant-loop-arg l = map scalar_value l.values ≡ map (assigned_value l.terms.nodes l.bits (assigned l.assignment)) (take l.arg-index l.args)
