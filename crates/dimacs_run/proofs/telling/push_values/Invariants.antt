use Rattle.std.proofs.Common.{◌≡◌, ◌++◌, take}
use Rattle.dimacs_run.specs.Findings.{value_words}
use Rattle.dimacs_run.proofs.telling.push_values.Given as goal

abbrev pub invariant-values : goal.invariant-values
invariant-values l = l.out ≡ l.fn.out ++ value_words 1 (take l.place l.values)
