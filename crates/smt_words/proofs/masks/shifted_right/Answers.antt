use Rattle.std.proofs.Common.{sym}
use Rattle.smt_words.proofs.Numbers.{shr_past}
use Rattle.smt_words.proofs.masks.shifted_right.Goals as goal

pub returns-else-by-lt128 : goal.returns-else-by-lt128
returns-else-by-lt128 c = sym (shr_past c.args.value 128 c.args.by c.ranges.value.fits c.if-by-lt128.false)
