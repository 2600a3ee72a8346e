use Rattle.std.proofs.Common.{length}
use Rattle.bit_blast.specs.Assigned.{assigned}
use Rattle.model_build.specs.Drafts.{HasDefaults, AreSorted}
use Rattle.model_build.proofs.filling.give_defaults.Given as goal

abbrev pub invariant-loop-row : goal.invariant-loop-row
invariant-loop-row l = record {
  given : HasDefaults l.terms.nodes l.bits (assigned l.assignment) l.table (length l.table.terms) l.row-index l.draft;
  sorted : AreSorted l.terms.nodes l.bits l.table.terms l.draft;
}
