use Rattle.std.proofs.Common.{List, ◌∷◌, length}
use Rattle.smt_terms.specs.declared.sort.Signature.{Signature}
use Rattle.smt_build.specs.Building.{Grows}
use Rattle.smt_build.proofs.Folds.{Apart}
use Rattle.smt_build.proofs.grouping.all_apart.Given as goal

abbrev pub invariant-loop-rest : goal.invariant-loop-rest
invariant-loop-rest l = Apart l.fn.terms l.fn.found.items (l.first ∷ l.fn.rest) l.terms l.found.items l.rest × ((signatures : List Signature) → Grows signatures l.fn.terms l.terms)

abbrev pub decreases-loop-rest : goal.decreases-loop-rest
decreases-loop-rest l = length l.rest
