use Rattle.std.proofs.Common.{length, get_or, subst}
use Rattle.bit_blast.specs.Assigned.{assigned}
use Rattle.model_build.specs.Drafts.{HasElements}
use Rattle.model_build.proofs.Looping.{start_elements, open_row, element_step, row_place, all_rows, contains_row}
use Rattle.model_build.proofs.WellSorted.{element_sorted}
use Rattle.model_build.proofs.filling.give_elements.Goals as goal

pub loop-row-init : goal.loop-row-init
loop-row-init c = record {
  given = start_elements c.args.terms.now c.len-count.ensures.terms c.args.bits.now (assigned c.args.assignment.now) c.args.table.now c.requires.closed c.args.draft.now c.requires.given;
  sorted = c.requires.sorted;
}

pub give_element-requires-clause-ready : goal.give_element-requires-clause-ready
give_element-requires-clause-ready c =
    open_row c.args.terms.now c.len-count.ensures.terms c.args.bits.now (assigned c.args.assignment.now) c.args.table.now c.requires.closed c.requires.bits c.loop-row.row-index (get_or c.rows-row-items.result.now c.loop-row.row-index _) c.loop-row.draft
    (c.requires.closed.accesses (get_or c.rows-row-items.result.now c.loop-row.row-index _) (contains_row c.args.table.now.rows c.loop-row.row-index _ (row_place c.args.table.now.rows c.rows-row-items.result.now c.loop-row.row-index _ c.rows-row-items.ensures c.loop-row-test.true)))
    c.loop-row.invariant.given

pub loop-row-preserved : goal.loop-row-preserved
loop-row-preserved c = record {
  given = element_step c.args.terms.now c.len-count.ensures.terms c.args.bits.now (assigned c.args.assignment.now) c.args.table.now c.requires.closed c.loop-row.draft c.give_element.new.draft c.loop-row.row-index (get_or c.rows-row-items.result.now c.loop-row.row-index _)
      (row_place c.args.table.now.rows c.rows-row-items.result.now c.loop-row.row-index _ c.rows-row-items.ensures c.loop-row-test.true) (length c.args.table.now.terms) c.in_ok-give_element.ensures c.loop-row.invariant.given;
  sorted = element_sorted c.args.terms.now c.len-count.ensures.terms c.args.bits.now c.args.table.now.terms (assigned c.args.assignment.now) c.requires.bits c.loop-row.draft c.give_element.new.draft (get_or c.rows-row-items.result.now c.loop-row.row-index _)
      (c.requires.closed.accesses (get_or c.rows-row-items.result.now c.loop-row.row-index _) (contains_row c.args.table.now.rows c.loop-row.row-index _ (row_place c.args.table.now.rows c.rows-row-items.result.now c.loop-row.row-index _ c.rows-row-items.ensures c.loop-row-test.true)))
      c.loop-row.invariant.sorted c.in_ok-give_element.ensures;
}

pub returns-clause-given : goal.returns-clause-given
returns-clause-given c =
    subst (λ k. HasElements c.args.terms.now.nodes c.args.bits.now (assigned c.args.assignment.now) c.args.table.now (length c.args.table.now.terms) k c.loop-row.draft)
    (all_rows c.args.table.now.rows c.rows-row-items.result.now c.loop-row.row-index c.rows-row-items.ensures c.loop-row.auto.row-index-end c.loop-row-test.false) c.loop-row.invariant.given
