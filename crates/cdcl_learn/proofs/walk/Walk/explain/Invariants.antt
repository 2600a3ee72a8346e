use Rattle.std.proofs.Common.{ℕ, ◌≡◌, ◌<◌, ◌≤◌, ◌⊎◌, None}
use Rattle.std.specs.Prelude.{IsTrue}
use Rattle.cdcl_core.specs.Search.{clause_of}
use Rattle.cdcl_learn.specs.Rows.{level_at, reason_at}
use Rattle.cdcl_learn.specs.Walks.{IsSet, IsWalk, IsExplained, MeetsReasons}
use Rattle.cdcl_learn.proofs.walk.Walk.explain.Given as goal

abbrev pub invariant-back : goal.invariant-back
invariant-back l = record {
  reached : l.i ≤ l.end;
  walk : IsWalk (clause_of l.watches) l.rows l.self;
  explained : IsExplained l.end l.fn.self.marks l.self.marks;
  met : MeetsReasons l.rows l.fn.self.hints.items l.self.hints.items;
  whole : (p : ℕ) → l.i ≤ p → p < l.end → ((IsTrue l.whole) ⊎ (level_at l.rows p ≡ 0)) → IsSet l.self.marks p → reason_at l.rows p ≡ None;
}

abbrev pub decreases-back : goal.decreases-back
decreases-back l = l.i
