use Rattle.std.proofs.Common.{◌≡◌, drop}
use Rattle.dimacs_front.specs.Lrat.{without}
use Rattle.dimacs_front.proofs.table.Table.remove.Given as goal

abbrev pub invariant-loop-place : goal.invariant-loop-place
invariant-loop-place l = without l.self (drop l.place l.numbers) ≡ without l.fn.self l.numbers
