use Rattle.std.proofs.Common.{◌≡◌, List, drop}
use Rattle.cnf_base.specs.Literals.{Literal}
use Rattle.dimacs_front.specs.Lrat.{leads}
use Rattle.dimacs_front.specs.Marks.{AreMarked}
use Rattle.dimacs_front.proofs.lrat.leads.Given as goal

abbrev pub invariant-loop-place : goal.invariant-loop-place
invariant-loop-place l = (known : List Literal) → AreMarked l.fn.trues known → record {
  now : List Literal;
  marked : AreMarked l.trues now;
  same : leads l.table now (drop l.place l.hints) ≡ leads l.table known l.hints;
}
