use Rattle.std.proofs.Common.{◌≡◌, ◌++◌, drop}
use Rattle.std.specs.List.{filter_map}
use Rattle.array_watches.specs.Needed.{index_at}
use Rattle.array_watches.proofs.indexes.indexes_among.Given as goal

abbrev pub invariant-loop-term : goal.invariant-loop-term
invariant-loop-term l = l.found.items ++ filter_map (index_at l.terms.nodes) (drop l.term-index l.among) ≡ filter_map (index_at l.terms.nodes) l.among
