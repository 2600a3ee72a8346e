use Rattle.std.proofs.Common.{ℕ, ◌<◌, ◌≤◌}
use Rattle.cdcl_learn.specs.Walks.{IsSet}
use Rattle.cdcl_learn.proofs.marks.Marks.top.Given as goal

abbrev pub invariant-places : goal.invariant-places
invariant-places l = record {
  reached : l.top ≤ l.end;
  above : (p : ℕ) → l.top ≤ p → p < l.end → IsSet l.self p → ⊥;
}

abbrev pub decreases-places : goal.decreases-places
decreases-places l = l.top
