use Rattle.std.proofs.Common.{◌-◌, ◌∙◌, ap, arith}
use Rattle.std.proofs.lemmas.List.{get_or_read}
use Rattle.cnf_base.specs.Literals.{negated}
use Rattle.cdcl_core.specs.Levels.{Row}
use Rattle.cdcl_core.specs.State.{no_row}
use Rattle.cdcl_learn.proofs.Marking.{none_collected, more_collected}
use Rattle.cdcl_learn.proofs.walk.Walk.clause.Goals as goal

pub back-init : goal.back-init
back-init c = record {
  reached = c.top-i.ensures.reached;
  marked = c.top-i.ensures.marked;
  collected = rw c.in_ok-literals.ensures.items (none_collected c.args.rows.now c.args.self.now.marks c.top-i.result c.top-i.ensures);
}

pub back-preserved : goal.back-preserved
back-preserved c = record {
  reached = omega (arith, c.top-i-in-back.ensures.reached, c.back.invariant.reached);
  marked = c.top-i-in-back.ensures.marked;
  collected = rw c.in_ok-push.ensures.items (more_collected c.args.rows.now c.args.self.now.marks c.back.literals.items c.back.i c.top-i-in-back.result c.negated.result c.back-test.true c.back.invariant.reached (c.back.invariant.marked c.back-test.true)
      (c.negated.ensures ∙ (ap negated c.literal.ensures ∙ ap (λ (r : Row). negated r.0) (get_or_read c.args.rows.now (c.back.i - 1) c.index-rows-i.result (omega (arith, c.back-test.true, c.back.invariant.reached)) c.index-rows-i.is no_row))) c.top-i-in-back.ensures c.back.invariant.collected);
}

pub returns-clause-each : goal.returns-clause-each
returns-clause-each c = λ p h s. rw (c.from_vec.ensures, c.in_ok-exact.ensures.items, c.as_slice.ensures.value) (c.back.invariant.collected.each p (omega (arith, c.back-test.false)) h s)

pub returns-clause-only : goal.returns-clause-only
returns-clause-only c = λ l h. c.back.invariant.collected.only l (rw (c.from_vec.ensures, c.in_ok-exact.ensures.items, c.as_slice.ensures.value) at h)
