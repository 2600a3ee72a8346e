use Rattle.std.proofs.Common.{◌≡◌, drop}
use Rattle.array_watches.specs.Needed.{with_watches}
use Rattle.array_watches.specs.Making.{Extends}
use Rattle.array_watches.proofs.making.make_each.Given as goal

abbrev pub invariant-loop-equality : goal.invariant-loop-equality
invariant-loop-equality l = record {
  rest : with_watches l.terms.nodes (drop l.equality-index l.equalities) ≡ with_watches l.fn.terms.nodes l.equalities;
  grown : Extends l.fn.terms l.terms;
}
