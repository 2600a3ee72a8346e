use Rattle.std.proofs.Common.{◌≡◌, ℕ, take}
use Rattle.std.specs.Prelude.{Contains}
use Rattle.bit_blast.specs.Assigned.{assigned}
use Rattle.cube_search.specs.Running.{valuation_of}
use Rattle.theory_search.proofs.assigning.assignment_of.Given as goal

abbrev pub invariant-variables : goal.invariant-variables
invariant-variables l = (x : ℕ) → Contains (take l.variable-index l.variables) x → assigned l.values.items x ≡ valuation_of l.search x
