use Rattle.std.proofs.Common.{◌≡◌, true, take}
use Rattle.std.specs.List.{list_all}
use Rattle.smt_terms.specs.Values.{is_true}
use Rattle.smt_values.specs.Held.{meaning}
use Rattle.proof_checker.proofs.models.are_true.Given as goal

abbrev pub invariant-loop-value : goal.invariant-loop-value
invariant-loop-value l = list_all (λ v. is_true (meaning v)) (take l.value-index l.values) ≡ true
