use Rattle.std.proofs.Common.{◌≡◌, drop}
use Rattle.dimacs_front.specs.Lrat.{clause_in}
use Rattle.dimacs_front.proofs.Hints.{with_literals}
use Rattle.dimacs_front.proofs.step.make_clause.Given as goal

abbrev pub invariant-loop-number : goal.invariant-loop-number
invariant-loop-number l = with_literals l.literals.items (clause_in l.variables (drop l.number-index l.numbers)) ≡ clause_in l.variables l.numbers
