use Rattle.std.proofs.Common.{◌≡◌, ◌++◌, drop}
use Rattle.std.specs.List.{filter_map}
use Rattle.array_watches.specs.Needed.{filled_at}
use Rattle.array_watches.proofs.indexes.widths_among.Given as goal

abbrev pub invariant-loop-term : goal.invariant-loop-term
invariant-loop-term l = l.found.items ++ filter_map (filled_at l.terms.nodes) (drop l.term-index l.among) ≡ filter_map (filled_at l.terms.nodes) l.among
