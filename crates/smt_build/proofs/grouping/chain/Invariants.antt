use Rattle.std.proofs.Common.{List, []}
use Rattle.smt_terms.specs.declared.sort.Signature.{Signature}
use Rattle.smt_build.specs.Building.{Grows}
use Rattle.smt_build.specs.Grouping.{next_equal}
use Rattle.smt_build.proofs.Folds.{Goes}
use Rattle.smt_build.proofs.grouping.chain.Given as goal

abbrev pub invariant-loop-next : goal.invariant-loop-next
invariant-loop-next l = Goes next_equal (record { found = []; last = l.first; terms = l.fn.terms }) l.rest l.next-index (record { found = l.found.items; last = l.last; terms = l.terms }) × ((signatures : List Signature) → Grows signatures l.fn.terms l.terms)
