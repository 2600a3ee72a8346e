use Rattle.std.proofs.Common.{◌≡◌, drop}
use Rattle.std.specs.List.{list_all}
use Rattle.smt_terms.specs.Terms.{held_sort}
use Rattle.smt_build.specs.Grouping.{has_sort}
use Rattle.smt_build.proofs.grouping.are_alike.Given as goal

abbrev pub invariant-loop-term : goal.invariant-loop-term
invariant-loop-term l = list_all (λ t. has_sort l.sort (held_sort l.terms.nodes t)) l.rest ≡ list_all (λ t. has_sort l.sort (held_sort l.terms.nodes t)) (drop l.term-index l.rest)
