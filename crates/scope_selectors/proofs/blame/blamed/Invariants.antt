use Rattle.std.proofs.Common.{◌≡◌, ℕ, take}
use Rattle.std.specs.Ordering.{nat_cmp}
use Rattle.std.specs.BTreeSet.{contains}
use Rattle.cnf_base.specs.Literals.{code_of}
use Rattle.scope_selectors.specs.Cores.{is_blamed}
use Rattle.scope_selectors.proofs.blame.blamed.Given as goal

abbrev pub invariant-loop-assertion : goal.invariant-loop-assertion
invariant-loop-assertion l = (a : ℕ) → contains nat_cmp l.assertions a ≡ is_blamed (λ k. contains nat_cmp l.codes (code_of k)) (take l.assertion-index l.selectors) a
