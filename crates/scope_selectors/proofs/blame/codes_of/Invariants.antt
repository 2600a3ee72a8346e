use Rattle.std.proofs.Common.{◌≡◌, ◌==◌, ℕ, take}
use Rattle.std.specs.List.{list_any}
use Rattle.std.specs.Ordering.{nat_cmp}
use Rattle.std.specs.BTreeSet.{contains}
use Rattle.cnf_base.specs.Literals.{code_of}
use Rattle.scope_selectors.proofs.blame.codes_of.Given as goal

abbrev pub invariant-loop-literal : goal.invariant-loop-literal
invariant-loop-literal l = (q : ℕ) → contains nat_cmp l.codes q ≡ list_any (λ k. code_of k == q) (take l.literal-index l.literal-items)
