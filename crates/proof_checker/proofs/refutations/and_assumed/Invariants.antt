use Rattle.std.proofs.Common.{◌≡◌, ℕ, take}
use Rattle.std.specs.Prelude.{◌||◌}
use Rattle.std.specs.List.{list_any}
use Rattle.std.specs.Ordering.{nat_cmp}
use Rattle.std.specs.BTreeSet.{contains}
use Rattle.proof_checker.specs.Checkers.{is_against_bit}
use Rattle.proof_checker.proofs.refutations.and_assumed.Given as goal

abbrev pub invariant-loop-assumption : goal.invariant-loop-assumption
invariant-loop-assumption l = (q : ℕ) → contains nat_cmp l.all q ≡ (contains nat_cmp l.initial.all q || list_any (λ a. is_against_bit l.log.bits a q) (take l.assumption-index l.assumed))
