use Rattle.std.proofs.Common.{◌≡◌}
use Rattle.smt_words.proofs.Numbers.{xor_fits, same_widths}
use Rattle.smt_words.proofs.Word.bvxor.Goals as goal

pub invariant_of-result : goal.invariant_of-result
invariant_of-result c =
    let e : c.self.inside.width ≡ c.other.inside.width = same_widths _ _ _ _ c.self.view_is c.other.view_is c.requires in
    xor_fits c.self.inside.width c.other.inside.width c.self.inside.value c.other.inside.value e c.self.invariant c.other.invariant
