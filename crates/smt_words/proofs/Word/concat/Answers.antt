use Rattle.std.proofs.Common.{◌+◌, ◌≤◌, refl, arith}
use Rattle.smt_words.proofs.Numbers.{cat_is, cat_lt, room_of}
use Rattle.smt_words.proofs.Word.concat.Goals as goal

pub invariant_of-result : goal.invariant_of-result
invariant_of-result c =
    let le : c.self.inside.width + c.other.inside.width ≤ 128 = room_of _ _ _ _ c.self.view_is c.other.view_is c.requires in
    rw (cat_is c.self.inside.width c.other.inside.width c.self.inside.value c.other.inside.value c.self.invariant.2 c.other.invariant.2 le)
    (omega arith, le, cat_lt c.self.inside.width c.other.inside.width c.self.inside.value c.other.inside.value c.self.invariant.2 c.other.invariant.2)

pub returns : goal.returns
returns c =
    let le : c.self.inside.width + c.other.inside.width ≤ 128 = room_of _ _ _ _ c.self.view_is c.other.view_is c.requires in
    rw (← c.self.view_is, ← c.other.view_is, cat_is c.self.inside.width c.other.inside.width c.self.inside.value c.other.inside.value c.self.invariant.2 c.other.invariant.2 le) refl
