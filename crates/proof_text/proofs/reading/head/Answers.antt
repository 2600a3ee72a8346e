use Rattle.std.proofs.Common.{sym, ◌∙◌}
use Rattle.proof_text.proofs.Splitting.{head_by}
use Rattle.proof_text.proofs.reading.head.Goals as goal

pub returns-in-None : goal.returns-in-None
returns-in-None c = c.indexed_head.ensures ∙ head_by _ _ _ c.in_ok-word.ensures.words (sym c.look_up.ensures ∙ c.in-None.is)
