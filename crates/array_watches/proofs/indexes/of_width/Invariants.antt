use Rattle.std.proofs.Common.{◌≡◌, ◌++◌, drop}
use Rattle.std.specs.List.{filter}
use Rattle.array_watches.specs.Needed.{has_width}
use Rattle.array_watches.proofs.indexes.of_width.Given as goal

abbrev pub invariant-loop-term : goal.invariant-loop-term
invariant-loop-term l = l.found.items ++ filter (has_width l.terms.nodes l.width) (drop l.term-index l.among) ≡ filter (has_width l.terms.nodes l.width) l.among
