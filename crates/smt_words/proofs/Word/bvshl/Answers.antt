use Rattle.std.proofs.Common.{◌*◌, ◌^◌, refl}
use Rattle.smt_words.proofs.Numbers.{mod_low}
use Rattle.smt_words.proofs.Word.bvshl.Goals as goal

pub returns : goal.returns
returns c = rw (c.wrapped.ensures, c.shifted_left.ensures, ← c.self.view_is, ← c.other.view_is, mod_low (c.self.inside.value * 2 ^ c.other.inside.value) c.self.inside.width c.self.invariant.1) refl
