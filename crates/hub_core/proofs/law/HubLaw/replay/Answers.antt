use Rattle.std.proofs.Common.{sym, take}
use Rattle.std.proofs.lemmas.List.{take_more}
use Rattle.hub_core.proofs.Acts.{made_at}
use Rattle.hub_core.proofs.law.HubLaw.replay.Goals as goal

pub answer-requires : goal.answer-requires
answer-requires c =
    let may = rw (sym c.event-item.is) at (made_at c.args.self.now c.args.events.now c.loop-event.event-index c.event-item.result c.loop-event-test.true c.requires) in
    (take c.loop-event.event-index c.args.events.now, c.loop-event.invariant, may)

pub loop-event-preserved : goal.loop-event-preserved
loop-event-preserved c =
    let before = take c.loop-event.event-index c.args.events.now in
    let may = rw (sym c.event-item.is) at (made_at c.args.self.now c.args.events.now c.loop-event.event-index c.event-item.result c.loop-event-test.true c.requires) in
    let next = c.in_ok-answer.ensures before c.loop-event.invariant may in
    rw (take_more c.args.events.now c.loop-event.event-index c.event-item.result c.loop-event-test.true) (rw (sym c.event-item.is) next.1)
