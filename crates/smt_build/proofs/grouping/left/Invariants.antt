use Rattle.std.proofs.Common.{List}
use Rattle.smt_terms.specs.declared.sort.Signature.{Signature}
use Rattle.smt_build.specs.Building.{Grows}
use Rattle.smt_build.proofs.Folds.{Goes, left_step}
use Rattle.smt_build.proofs.grouping.left.Given as goal

abbrev pub invariant-loop-next : goal.invariant-loop-next
invariant-loop-next l = Goes (left_step l.operator) (l.first, l.fn.terms) l.rest l.next-index (l.term, l.terms) × ((signatures : List Signature) → Grows signatures l.fn.terms l.terms)
