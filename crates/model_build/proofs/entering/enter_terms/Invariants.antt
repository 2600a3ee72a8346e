use Rattle.bit_blast.specs.Assigned.{assigned}
use Rattle.model_build.specs.Drafts.{HasDefaults, AreSorted}
use Rattle.model_build.proofs.entering.enter_terms.Given as goal

abbrev pub invariant-loop-term : goal.invariant-loop-term
invariant-loop-term l = record {
  entered : HasDefaults l.terms.nodes l.bits (assigned l.assignment) l.table l.term-index 0 l.draft;
  sorted : AreSorted l.terms.nodes l.bits l.table.terms l.draft;
}
