use Rattle.std.proofs.Common.{◌+◌, refl}
use Rattle.smt_words.proofs.Numbers.{mod_low}
use Rattle.smt_words.proofs.Word.bvadd.Goals as goal

pub returns : goal.returns
returns c = rw (c.wrapped.ensures, ← c.self.view_is, ← c.other.view_is, mod_low (c.self.inside.value + c.other.inside.value) c.self.inside.width c.self.invariant.1) refl
