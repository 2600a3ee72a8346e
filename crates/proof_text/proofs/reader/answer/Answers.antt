use Rattle.std.proofs.Common.{refl, sym, ◌∙◌}
use Rattle.proof_text.proofs.Exact.{answer_line, answer_none}
use Rattle.proof_text.proofs.reader.answer.Goals as goal

pub returns-in-Some : goal.returns-in-Some
returns-in-Some c = answer_line c.args.text.now c.in-Some.line (sym c.in_ok-line.ensures ∙ c.in-Some.is)

pub returns-in-None : goal.returns-in-None
returns-in-None c = (refl, answer_none c.args.text.now (sym c.in_ok-line.ensures ∙ c.in-None.is))
