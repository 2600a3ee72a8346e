use Rattle.std.proofs.Common.{◌≡◌, List, drop}
use Rattle.cnf_base.specs.Literals.{Literal}
use Rattle.dimacs_front.specs.declared.shape.Shape.TheVariants.{AllFalse}
use Rattle.dimacs_front.specs.Lrat.{shape_from}
use Rattle.dimacs_front.specs.Marks.{AreMarked}
use Rattle.dimacs_front.proofs.shape.shape_of.Given as goal

abbrev pub invariant-loop-l : goal.invariant-loop-l
invariant-loop-l l = (known : List Literal) → AreMarked l.trues known → shape_from known l.shape (drop l.l-index l.clause) ≡ shape_from known AllFalse l.clause
