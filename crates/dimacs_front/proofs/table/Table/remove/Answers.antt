use Rattle.std.proofs.Common.{arith}
use Rattle.dimacs_front.proofs.Hints.{drop_here, number_gone, numbers_gone}
use Rattle.dimacs_front.proofs.table.Table.remove.Goals as goal

pub loop-place-preserved : goal.loop-place-preserved
loop-place-preserved c =
    let ns = c.args.numbers.now in
    let n = c.number_at-number.result in
    number_gone c.loop-place.self _ ns c.loop-place.place n _ (drop_here ns c.loop-place.place n c.number_at-number.ensures) (rw c.saturating_sub.ensures at c.remove_at.ensures) c.loop-place.invariant

pub returns : goal.returns
returns c = numbers_gone c.loop-place.self c.args.numbers.now c.loop-place.place _ (omega arith) c.loop-place.invariant
