use Rattle.smt_text.proofs.Readings.{reads_symbol, reads_string, value_back}
use Rattle.smt_text.proofs.print.reads_back.Goals as goal

pub returns-clause-symbol : goal.returns-clause-symbol
returns-clause-symbol c = reads_symbol

pub returns-clause-string : goal.returns-clause-string
returns-clause-string c = reads_string

pub returns-clause-value : goal.returns-clause-value
returns-clause-value c = value_back
