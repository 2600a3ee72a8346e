use Rattle.std.proofs.Common.{List, ◌<◌, length}
use Rattle.smt_terms.specs.declared.sort.Signature.{Signature}
use Rattle.smt_build.specs.Building.{Grows}
use Rattle.smt_build.proofs.Folds.{Grouped}
use Rattle.smt_build.proofs.grouping.right.Given as goal

abbrev pub invariant-loop-place : goal.invariant-loop-place
invariant-loop-place l = Grouped l.operator l.fn.terms l.first l.rest l.place l.term l.terms × (l.place < length l.rest) × ((signatures : List Signature) → Grows signatures l.fn.terms l.terms)

abbrev pub decreases-loop-place : goal.decreases-loop-place
decreases-loop-place l = l.place
