use Rattle.std.proofs.Common.{◌≡◌, drop}
use Rattle.smt_terms.specs.Ranks.{each_of}
use Rattle.smt_terms.specs.Places.{sorts_at, ranked_at}
use Rattle.smt_terms.proofs.rank.each_of.Given as goal

abbrev pub invariant-loop-sort : goal.invariant-loop-sort
invariant-loop-sort l =
    (l.place ≡ l.sort-index) × (ranked_at (each_of l.wanted l.given) 0 (sorts_at l.held l.args) ≡ ranked_at (each_of (drop l.sort-index l.wanted) l.given) l.sort-index (sorts_at l.held l.args))
