use Rattle.std.proofs.Common.{sym, ◌∙◌}
use Rattle.proof_text.proofs.Splitting.{indexed_by}
use Rattle.proof_text.proofs.reading.indexed_head.Goals as goal

pub returns-in-Some : goal.returns-in-Some
returns-in-Some c = c.indexed.ensures ∙ indexed_by c.args.word.now _ c.in-Some.name (sym c.look_up.ensures ∙ c.in-Some.is)
