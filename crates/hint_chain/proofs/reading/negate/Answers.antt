use Rattle.std.proofs.Common.{◌∙◌, length-set}
use Rattle.std.proofs.lemmas.Bool.{iff_false}
use Rattle.std.proofs.lemmas.List.{take_all}
use Rattle.hint_chain.proofs.Marking.{opposite_more, pair_none, room_at, room_same}
use Rattle.hint_chain.proofs.reading.negate.Goals as goal

pub loop-l-preserved : goal.loop-l-preserved
loop-l-preserved c =
    let clause = c.args.clause.now in
    let trues = c.loop-l.trues in
    let i = c.loop-l.l-index in
    let x = c.l-item.result in
    let within = c.loop-l-test.true in
    let room = room_same c.args.trues.now trues clause c.loop-l.invariant.room c.requires.room in
    let unmarked = iff_false c.is_marked.ensures c.if-is_marked.false in
    rw (c.mark.ensures, c.negated.ensures) (record {
      room = length-set trues.stamps _ _ ∙ c.loop-l.invariant.room;
      alone = pair_none trues clause i x within c.l-item.is c.loop-l.invariant.agrees unmarked c.loop-l.invariant.alone;
      agrees = opposite_more trues clause i x (room_at trues clause i x room within c.l-item.is) within c.l-item.is c.loop-l.invariant.agrees;
    })

pub returns-clause-pair : goal.returns-clause-pair
returns-clause-pair c = rw (take_all c.loop-l.l-index c.args.clause.now c.loop-l-test.false) at c.loop-l.invariant.alone

pub returns-clause-agrees : goal.returns-clause-agrees
returns-clause-agrees c = rw (take_all c.loop-l.l-index c.args.clause.now c.loop-l-test.false) at c.loop-l.invariant.agrees
