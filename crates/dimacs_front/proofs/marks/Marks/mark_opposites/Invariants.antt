use Rattle.std.proofs.Common.{◌≡◌, List, [], drop}
use Rattle.cnf_base.specs.Literals.{Literal}
use Rattle.dimacs_front.specs.Lrat.{opposites}
use Rattle.dimacs_front.specs.Marks.{AreMarked}
use Rattle.dimacs_front.proofs.marks.Marks.mark_opposites.Given as goal

abbrev pub invariant-loop-l : goal.invariant-loop-l
invariant-loop-l l = record {
  trues : List Literal;
  marked : AreMarked l.self trues;
  same : opposites trues (drop l.l-index l.clause) ≡ opposites [] l.clause;
}
