use Rattle.std.proofs.Common.{◌≡◌, ◌≤◌, ◌∷◌, drop}
use Rattle.smt_build.specs.Grouping.{joins_within}
use Rattle.smt_build.proofs.grouping.joins_within.Given as goal

abbrev pub invariant-loop-term : goal.invariant-loop-term
invariant-loop-term l = (joins_within l.terms.nodes 0 (l.first ∷ l.rest) ≡ joins_within l.terms.nodes l.bits (drop l.term-index l.rest)) × (l.bits ≤ 128)
