use Rattle.std.proofs.Common.{◌-◌, ◌≤◌}
use Rattle.smt_build.proofs.Levels.{HasCopied}
use Rattle.smt_build.proofs.symbols.push_copies.Given as goal

abbrev pub invariant-loop-copies : goal.invariant-loop-copies
invariant-loop-copies l = HasCopied l.fn.items.items l.items.items l.item l.copies × (l.copies ≤ l.count)

abbrev pub decreases-loop-copies : goal.decreases-loop-copies
decreases-loop-copies l = l.count - l.copies
