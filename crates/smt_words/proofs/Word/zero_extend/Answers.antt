use Rattle.std.proofs.Common.{◌+◌, ◌≤◌, arith}
use Rattle.smt_words.proofs.Numbers.{pow_le, room_with}
use Rattle.smt_words.proofs.Word.zero_extend.Goals as goal

pub invariant_of-result : goal.invariant_of-result
invariant_of-result c =
    let le : c.of.inside.width + c.args.more ≤ 128 = room_with _ _ _ c.of.view_is c.requires in
    (omega arith, le, omega (arith, pow_le c.of.inside.width (c.of.inside.width + c.args.more) (omega arith)))
