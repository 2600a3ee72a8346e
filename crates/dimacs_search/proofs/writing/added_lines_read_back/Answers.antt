use Rattle.dimacs_search.proofs.Reading.{line_reads_back}
use Rattle.dimacs_search.proofs.writing.added_lines_read_back.Goals as goal

pub returns : goal.returns
returns c = line_reads_back
