use Rattle.std.proofs.Common.{sym, ◌∙◌}
use Rattle.cnf_base.specs.Literals.{negated}
use Rattle.dimacs_front.proofs.Hints.{shape_open, shape_false, shape_end}
use Rattle.dimacs_front.proofs.shape.shape_of.Goals as goal
use Rattle.dimacs_front.proofs.shape.shape_of.Goals.{then-not-is_marked, else-not-is_marked}

pub loop-l-preserved : goal.loop-l-preserved
loop-l-preserved c =
    let clause = c.args.clause.now in
    let i = c.loop-l.l-index in
    let x = c.l-item.result in
    let within = c.loop-l-test.true in
    let marked = rw c.negated.ensures at c.is_marked.ensures in
    elim c.if-not-is_marked.branch [
      | then-not-is_marked w ↦ rw (w.shape-is, w.join-shape.ensures) (λ ts a. shape_open ts clause i x c.loop-l.shape _ within c.l-item.is (sym (a (negated x)) ∙ sym marked ∙ w.if-not-is_marked.true) (c.loop-l.invariant ts a))
      | else-not-is_marked w ↦ rw w.shape-is (λ ts a. shape_false ts clause i x c.loop-l.shape _ within c.l-item.is (sym (a (negated x)) ∙ sym marked ∙ w.if-not-is_marked.false) (c.loop-l.invariant ts a))
    ]

pub returns : goal.returns
returns c = λ ts a. shape_end ts c.args.clause.now c.loop-l.l-index c.loop-l.shape _ c.loop-l-test.false (c.loop-l.invariant ts a)
