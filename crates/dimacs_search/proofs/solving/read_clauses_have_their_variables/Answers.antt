use Rattle.dimacs_search.proofs.Variables.{read_in}
use Rattle.dimacs_search.proofs.solving.read_clauses_have_their_variables.Goals as goal

pub returns : goal.returns
returns c = read_in
