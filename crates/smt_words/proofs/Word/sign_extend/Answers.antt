use Rattle.std.proofs.Common.{◌+◌, ◌≤◌, arith}
use Rattle.smt_words.proofs.Numbers.{pow_le, room_with, sign_extend_fits}
use Rattle.smt_words.proofs.Word.sign_extend.Goals as goal
use Rattle.smt_words.proofs.Word.sign_extend.Goals.{then-is_negative, else-is_negative}

pub overflow_sub-value : goal.overflow_sub-value
overflow_sub-value c = omega (arith, c.ones.ensures, c.ones-then-is_negative.ensures, pow_le c.of.inside.width (c.of.inside.width + c.args.more) (omega arith))

pub invariant_of-result : goal.invariant_of-result
invariant_of-result c =
    let le : c.of.inside.width + c.args.more ≤ 128 = room_with _ _ _ c.of.view_is c.requires in
    let up = pow_le c.of.inside.width (c.of.inside.width + c.args.more) (omega arith) in
    elim c.if-is_negative.branch [
      | then-is_negative w ↦ (omega arith, le, omega (arith, w.value-is, w.ones.ensures, w.ones-then-is_negative.ensures, sign_extend_fits c.of.inside.width c.args.more c.of.inside.value c.of.invariant.2))
      | else-is_negative w ↦ (omega arith, le, omega (arith, w.value-is, up))
    ]
