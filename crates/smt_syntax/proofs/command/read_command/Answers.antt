use Rattle.smt_syntax.proofs.CommandReadings.{same_reading}
use Rattle.smt_syntax.proofs.command.read_command.Goals as goal

pub returns : goal.returns
returns c = λ e s. same_reading _ _ e _ c.as_slice.ensures s (c.read_tokens.ensures e)
