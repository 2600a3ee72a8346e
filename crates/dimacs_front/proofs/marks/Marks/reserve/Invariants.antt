use Rattle.std.proofs.Common.{◌-◌, ◌+◌, List, length}
use Rattle.cnf_base.specs.Literals.{Literal}
use Rattle.dimacs_front.specs.Marks.{AreMarked}
use Rattle.dimacs_front.proofs.marks.Marks.reserve.Given as goal

abbrev pub invariant-stamps : goal.invariant-stamps
invariant-stamps l = (known : List Literal) → AreMarked l.fn.self known → AreMarked l.self known

abbrev pub decreases-stamps : goal.decreases-stamps
decreases-stamps l = l.place + 1 - length l.self.stamps
