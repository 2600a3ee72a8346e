use Rattle.std.proofs.Common.{sym, ◌∙◌}
use Rattle.cdcl_learn.proofs.Marking.{skip_marked, more_marked}
use Rattle.cdcl_learn.proofs.walk.mark.Goals as goal
use Rattle.cdcl_learn.proofs.walk.mark.Goals.{in-Some, in_default}

pub loop-l-preserved : goal.loop-l-preserved
loop-l-preserved c = elim c.match-place_of.branch [
  | in-Some w ↦ rw (w.marks-is, w.set.ensures) (more_marked c.args.rows.now c.args.clause.now c.args.marks.now c.loop-l.marks c.loop-l.l-index c.l-item.result w.in-Some.place
      c.requires.once (c.loop-l.invariant.size ∙ c.requires.size) c.loop-l-test.true c.l-item.is w.in-Some.ensures.0 (w.in-Some.ensures.1 ∙ c.negated.ensures) c.loop-l.invariant)
  | in_default w ↦ rw w.marks-is (skip_marked c.args.rows.now c.args.clause.now c.args.marks.now c.loop-l.marks c.loop-l.l-index c.l-item.result
      c.loop-l-test.true c.l-item.is (λ k h e. w.in_default.ensures k h (e ∙ sym c.negated.ensures)) c.loop-l.invariant)
]
