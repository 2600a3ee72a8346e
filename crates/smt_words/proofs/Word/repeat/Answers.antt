use Rattle.std.proofs.Common.{◌≡◌, arith}
use Rattle.smt_words.proofs.Numbers.{room_times, repeat_more, repeat_room, repeat_fits}
use Rattle.smt_words.proofs.Word.repeat.Goals as goal

pub loop-done-preserved : goal.loop-done-preserved
loop-done-preserved c =
    let room = room_times _ _ _ c.of.view_is c.requires.fits in
    repeat_more c.of.inside.width c.loop-done._done c.args.copies c.of.inside.value c.loop-done.value c.of.invariant.2 c.loop-done.invariant c.loop-done-test.true room

pub invariant_of-result : goal.invariant_of-result
invariant_of-result c =
    let room = room_times _ _ _ c.of.view_is c.requires.fits in
    let all : c.loop-done._done ≡ c.args.copies = omega (arith, c.loop-done.auto._done-end, c.loop-done-test.false, c.requires.some) in
    let fit = repeat_fits c.of.inside.width c.loop-done._done c.of.inside.value c.of.invariant.2 in
    (repeat_room c.of.inside.width c.args.copies c.of.invariant.0 c.requires.some, room, rw (c.loop-done.invariant, ← all) fit)
