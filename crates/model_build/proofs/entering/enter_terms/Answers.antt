use Rattle.std.proofs.Common.{get_or, sym, subst}
use Rattle.bit_blast.specs.Assigned.{assigned}
use Rattle.model_build.specs.Drafts.{AreSorted}
use Rattle.term_reach.proofs.Tables.{contains_at}
use Rattle.model_build.proofs.Looping.{no_terms, term_step, term_place}
use Rattle.model_build.proofs.WellSorted.{nothing_sorted, term_sorted}
use Rattle.model_build.proofs.entering.enter_terms.Goals as goal

pub loop-term-init : goal.loop-term-init
loop-term-init c = record {
  entered = no_terms c.args.terms.now c.len-count.ensures.terms c.args.bits.now (assigned c.args.assignment.now) c.args.table.now c.requires.closed c.new-draft.result;
  sorted = subst (AreSorted c.args.terms.now.nodes c.args.bits.now c.args.table.now.terms) (sym c.new-draft.ensures) (nothing_sorted c.args.terms.now.nodes c.args.bits.now c.args.table.now.terms);
}

pub loop-term-preserved : goal.loop-term-preserved
loop-term-preserved c =
    let t = get_or c.terms-term-items.result.now c.loop-term.term-index 0 in
    let at = term_place c.args.table.now.terms c.terms-term-items.result.now c.loop-term.term-index c.terms-term-items.ensures c.loop-term-test.true in
    record {
      entered = term_step c.args.terms.now c.len-count.ensures.terms c.args.bits.now (assigned c.args.assignment.now) c.args.table.now c.requires.closed c.loop-term.draft c.enter_term.new.draft c.loop-term.term-index t
          at c.in_ok-enter_term.ensures c.loop-term.invariant.entered;
      sorted = term_sorted c.args.terms.now c.len-count.ensures.terms c.args.bits.now c.args.table.now.terms (assigned c.args.assignment.now) c.requires.bits c.requires.closed.terms c.loop-term.draft c.enter_term.new.draft t
          (contains_at c.args.table.now.terms c.loop-term.term-index t at) c.in_ok-enter_term.ensures c.loop-term.invariant.sorted;
    }
