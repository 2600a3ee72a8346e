use Rattle.std.proofs.Common.{◌≡◌, true, take}
use Rattle.std.specs.List.{list_all}
use Rattle.std.specs.Ordering.{nat_cmp}
use Rattle.std.specs.BTreeSet.{contains}
use Rattle.cnf_base.specs.Literals.{code_of}
use Rattle.proof_checker.proofs.refutations.are_among.Given as goal

abbrev pub invariant-loop-literal : goal.invariant-loop-literal
invariant-loop-literal l = list_all (λ x. contains nat_cmp l.codes (code_of x)) (take l.literal-index l.literals) ≡ true
