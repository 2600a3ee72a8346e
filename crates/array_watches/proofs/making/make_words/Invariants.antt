use Rattle.std.proofs.Common.{◌≡◌}
use Rattle.array_watches.specs.Needed.{with_words}
use Rattle.array_watches.specs.Making.{value_of}
use Rattle.array_watches.proofs.making.make_words.Given as goal

abbrev pub invariant-loop-number : goal.invariant-loop-number
invariant-loop-number l = l.terms ≡ value_of (with_words l.fn.terms.nodes l.width l.number) l.fn.terms.limit
