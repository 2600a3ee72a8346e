use Rattle.std.proofs.Common.{length, subst, get_or}
use Rattle.bit_blast.specs.Assigned.{assigned}
use Rattle.model_build.specs.Drafts.{HasDefaults}
use Rattle.model_build.proofs.Looping.{default_step, row_place, all_rows, contains_row}
use Rattle.model_build.proofs.WellSorted.{default_sorted}
use Rattle.model_build.proofs.filling.give_defaults.Goals as goal

pub loop-row-preserved : goal.loop-row-preserved
loop-row-preserved c = record {
  given = default_step c.args.terms.now c.len-count.ensures.terms c.args.bits.now (assigned c.args.assignment.now) c.args.table.now c.requires.closed c.loop-row.draft c.give_default.new.draft c.loop-row.row-index (get_or c.rows-row-items.result.now c.loop-row.row-index _)
      (row_place c.args.table.now.rows c.rows-row-items.result.now c.loop-row.row-index _ c.rows-row-items.ensures c.loop-row-test.true) (length c.args.table.now.terms) c.in_ok-give_default.ensures c.loop-row.invariant.given;
  sorted = default_sorted c.args.terms.now c.len-count.ensures.terms c.args.bits.now c.args.table.now.terms (assigned c.args.assignment.now) c.requires.bits c.loop-row.draft c.give_default.new.draft (get_or c.rows-row-items.result.now c.loop-row.row-index _)
      (c.requires.closed.accesses (get_or c.rows-row-items.result.now c.loop-row.row-index _) (contains_row c.args.table.now.rows c.loop-row.row-index _ (row_place c.args.table.now.rows c.rows-row-items.result.now c.loop-row.row-index _ c.rows-row-items.ensures c.loop-row-test.true)))
      c.loop-row.invariant.sorted c.args.table.now.spares c.in_ok-give_default.ensures;
}

pub returns-clause-given : goal.returns-clause-given
returns-clause-given c =
    subst (λ k. HasDefaults c.args.terms.now.nodes c.args.bits.now (assigned c.args.assignment.now) c.args.table.now (length c.args.table.now.terms) k c.loop-row.draft)
    (all_rows c.args.table.now.rows c.rows-row-items.result.now c.loop-row.row-index c.rows-row-items.ensures c.loop-row.auto.row-index-end c.loop-row-test.false) c.loop-row.invariant.given
