use Rattle.std.proofs.Common.{List}
use Rattle.smt_terms.specs.declared.sort.Signature.{Signature}
use Rattle.smt_build.specs.Building.{Grows}
use Rattle.smt_build.specs.Grouping.{next_apart}
use Rattle.smt_build.proofs.Folds.{Goes}
use Rattle.smt_build.proofs.grouping.apart_from.Given as goal

abbrev pub invariant-loop-b : goal.invariant-loop-b
invariant-loop-b l = Goes (next_apart l.a) (l.fn.found.items, l.fn.terms) l.rest l.b-index (l.found.items, l.terms) × ((signatures : List Signature) → Grows signatures l.fn.terms l.terms)
