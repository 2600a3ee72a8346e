use Rattle.std.proofs.Common.{◌∙◌}
use Rattle.smt_build.proofs.Declarations.{name_is}
use Rattle.smt_build.proofs.naming.word_at.Goals as goal

pub returns-in-len1 : goal.returns-in-len1
returns-in-len1 c = λ e h. name_is _ _ c.in-len1.len_at_least c.in-len1.len_below e (c.tokens_at.ensures h.within ∙ h.spelled)
