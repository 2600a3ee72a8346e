use Rattle.smt_words.proofs.Numbers.{rotate_right_is}
use Rattle.std.proofs.Common.{refl}
use Rattle.smt_words.proofs.Word.rotate_right.Goals as goal

pub returns : goal.returns
returns c = rw (c.rotate_left.ensures, ← c.of.view_is, rotate_right_is c.of.inside.width c.args.places c.of.inside.value c.of.invariant.0 c.of.invariant.2) refl
