use Rattle.std.proofs.Common.{◌≡◌, ℕ, take}
use Rattle.std.specs.List.{list_any}
use Rattle.std.specs.Ordering.{nat_cmp}
use Rattle.std.specs.BTreeSet.{contains}
use Rattle.proof_checker.specs.Checkers.{is_against}
use Rattle.proof_checker.proofs.refutations.codes_of.Given as goal

abbrev pub invariant-loop-assertion : goal.invariant-loop-assertion
invariant-loop-assertion l = (q : ℕ) → contains nat_cmp l.codes q ≡ list_any (λ a. is_against l.log.selectors a q) (take l.assertion-index l.live)
