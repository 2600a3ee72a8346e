use Rattle.cnf_base.specs.Literals.{negated}
use Rattle.std.proofs.lemmas.Bool.{iff_false}
use Rattle.std.proofs.lemmas.List.{take_all}
use Rattle.hint_chain.proofs.Shapes.{step_false, step_open}
use Rattle.hint_chain.proofs.Marking.{joined_room, room_at}
use Rattle.hint_chain.proofs.shape.shape_of.Goals as goal
use Rattle.hint_chain.proofs.shape.shape_of.Goals.{then-not-is_marked, else-not-is_marked}

pub loop-l-preserved : goal.loop-l-preserved
loop-l-preserved c =
    let clause = c.args.clause.now in
    let i = c.loop-l.l-index in
    let x = c.l-item.result in
    let within = c.loop-l-test.true in
    let marked = rw c.negated.ensures at c.is_marked.ensures in
    elim c.if-not-is_marked.branch [
      | then-not-is_marked w ↦ rw w.shape-is (record {
        shape = λ ts a. step_open ts clause i x c.loop-l.shape _ within c.l-item.is (c.loop-l.invariant.shape ts a) (λ f. iff_false marked w.if-not-is_marked.true ((a (negated x)).1 f)) w.joined-shape.ensures;
        room = joined_room c.args.trues.now c.loop-l.shape x _ w.joined-shape.ensures (room_at c.args.trues.now clause i x c.requires within c.l-item.is) c.loop-l.invariant.room;
      })
      | else-not-is_marked w ↦ rw w.shape-is (record {
        shape = λ ts a. step_false ts clause i x c.loop-l.shape within c.l-item.is (c.loop-l.invariant.shape ts a) ((a (negated x)).0 (marked.0 w.if-not-is_marked.false));
        room = c.loop-l.invariant.room;
      })
    ]

pub returns-clause-shape : goal.returns-clause-shape
returns-clause-shape c = rw (take_all c.loop-l.l-index c.args.clause.now c.loop-l-test.false) at c.loop-l.invariant.shape
