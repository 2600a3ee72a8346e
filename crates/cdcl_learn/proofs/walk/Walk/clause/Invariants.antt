use Rattle.std.proofs.Common.{◌-◌, ◌<◌, ◌≤◌, length}
use Rattle.cdcl_learn.specs.Walks.{IsSet}
use Rattle.cdcl_learn.proofs.Marking.{IsCollected}
use Rattle.cdcl_learn.proofs.walk.Walk.clause.Given as goal

abbrev pub invariant-back : goal.invariant-back
invariant-back l = record {
  reached : l.i ≤ length l.rows;
  marked : 0 < l.i → IsSet l.self.marks (l.i - 1);
  collected : IsCollected l.rows l.self.marks l.literals.items l.i;
}

abbrev pub decreases-back : goal.decreases-back
decreases-back l = l.i
