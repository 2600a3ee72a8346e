use Rattle.std.proofs.Common.{◌≡◌, ◌++◌, drop}
use Rattle.std.specs.List.{filter}
use Rattle.array_watches.specs.Needed.{is_array_equality}
use Rattle.array_watches.proofs.found.equalities_among.Given as goal

abbrev pub invariant-loop-term : goal.invariant-loop-term
invariant-loop-term l = l.found.items ++ filter (is_array_equality l.terms.nodes) (drop l.term-index l.among) ≡ filter (is_array_equality l.terms.nodes) l.among
