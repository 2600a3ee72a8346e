use Rattle.std.proofs.Common.{rules, arith}
use Rattle.std.proofs.lemmas.Grind.{common_steps}
use Rattle.smt_text.specs.Lexicon.{reserved_kind}
use Rattle.smt_text.proofs.lexicon.reserved_kind.Goals as goal

pub returns : goal.returns
unfolding reserved_kind
returns c = first_of (search rules, grind (arith, common_steps))
