use Rattle.smt_syntax.proofs.OneSexp.{spelling-one}
use Rattle.smt_syntax.proofs.command.one_reading.Goals as goal

pub returns : goal.returns
returns c = spelling-one
