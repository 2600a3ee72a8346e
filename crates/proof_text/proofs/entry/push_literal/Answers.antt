use Rattle.proof_text.proofs.Appending.{on_ok}
use Rattle.proof_text.proofs.Readable.{literal_readable}
use Rattle.proof_text.proofs.entry.push_literal.Goals as goal

pub returns-clause-literal : goal.returns-clause-literal
returns-clause-literal c = on_ok c.push_number.result (literal_readable c.args.literal c.variable.result c.variable.ensures.value c.variable.ensures.positive c.variable.ensures.bound)
