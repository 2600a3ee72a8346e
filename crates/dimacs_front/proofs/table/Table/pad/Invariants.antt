use Rattle.std.proofs.Common.{◌≡◌}
use Rattle.dimacs_front.specs.Lrat.{padded}
use Rattle.dimacs_front.proofs.table.Table.pad.Given as goal

abbrev pub invariant-loop-left : goal.invariant-loop-left
invariant-loop-left l = padded l.left l.self ≡ padded l.count l.fn.self

abbrev pub decreases-loop-left : goal.decreases-loop-left
decreases-loop-left l = l.left
