use Rattle.proof_text.proofs.Exact.{line_reads, line_says}
use Rattle.proof_text.proofs.laws.lines_are_read_exactly.Goals as goal

pub returns-clause-printed : goal.returns-clause-printed
returns-clause-printed c = line_reads

pub returns-clause-read : goal.returns-clause-read
returns-clause-read c = line_says
