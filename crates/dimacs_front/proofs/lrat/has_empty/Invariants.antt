use Rattle.std.proofs.Common.{◌≡◌, drop}
use Rattle.std.specs.List.{list_any}
use Rattle.dimacs_front.specs.Lrat.{is_empty}
use Rattle.dimacs_front.proofs.lrat.has_empty.Given as goal

abbrev pub invariant-loop-place : goal.invariant-loop-place
invariant-loop-place l = list_any is_empty (drop l.place l.cnf.clauses) ≡ list_any is_empty l.cnf.clauses
