use Rattle.std.proofs.Common.{ℕ, ◌≡◌, ◌<◌, ◌≤◌, get_or, []}
use Rattle.cdcl_core.specs.declared.watches.Kind.TheVariants.{Fixed}
use Rattle.cdcl_core.specs.Stamps.{Has}
use Rattle.cdcl_core.specs.Watched.{kind_at}
use Rattle.cdcl_core.specs.State.{all_codes}
use Rattle.cdcl_core.proofs.propagate.refuted_slot.Given as goal

abbrev pub invariant-loop-slot : goal.invariant-loop-slot
invariant-loop-slot l = (s : ℕ) → 1 ≤ s → s < l.slot → kind_at l.w.kinds.items s ≡ Fixed → (m : ℕ) × (Has (get_or (all_codes l.w.clauses.items) s []) m × (get_or l.t.stamps.items m 0 ≡ 1))
