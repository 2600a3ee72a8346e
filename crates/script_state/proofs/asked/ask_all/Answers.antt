use Rattle.std.proofs.Common.{◌≡◌, ◌+◌, ◌-◌, arith, sym, ◌∙◌}
use Rattle.std.proofs.lemmas.List.{drop-drop}
use Rattle.script_state.proofs.Gathering.{gathered_stands, gathered_fault, gathered_more, gathered_all, gathered_bodies, left_length}
use Rattle.script_state.proofs.asked.ask_all.Goals as goal

pub ask_one-requires-clause-bodies : goal.ask_one-requires-clause-bodies
ask_one-requires-clause-bodies c = gathered_bodies _ _ _ _ _ _ _ _ _ _ c.requires.bodies c.loop-span.invariant.0

pub ask_one-requires-clause-stands : goal.ask_one-requires-clause-stands
ask_one-requires-clause-stands c = gathered_stands _ _ _ _ _ _ _ _ _ _ _ c.loop-span-test.true c.loop-span.invariant.0 c.requires.stand

pub returns-in-Err-clause-asks : goal.returns-in-Err-clause-asks
returns-in-Err-clause-asks c = gathered_fault _ _ _ _ _ _ _ _ _ _ _ c.loop-span-test.true c.loop-span.invariant.0 _ _ c.ask_one.ensures.asks _ c.in-Err.is

pub loop-span-preserved : goal.loop-span-preserved
loop-span-preserved c =
    let same : c.loop-span.place + c.min-count.result - c.loop-span.place ≡ c.min-count.result = omega arith in
    let more = gathered_more _ _ _ _ _ _ _ _ _ _ _ c.loop-span-test.true c.loop-span.invariant.0 _ _ c.ask_one.ensures.asks c.in-Ok.term c.min-count.result c.in-Ok-text_of.text c.in-Ok.is (c.min-count.ensures ∙ left_length _ _ _) (rw same at c.in-Ok-text_of.ensures) c.ask_one.ensures.grows in
    (rw (sym (drop-drop c.min-count.result c.loop-span.place c.args.items.now), c.in-Ok-push.ensures.items) more, grind (arith, c.min-count.ensures, c.loop-span.invariant.1))

pub returns-clause-asks : goal.returns-clause-asks
returns-clause-asks c = rw c.from_vec.ensures (gathered_all _ _ _ _ _ _ _ _ _ _ c.loop-span-test.false c.loop-span.invariant.0)
