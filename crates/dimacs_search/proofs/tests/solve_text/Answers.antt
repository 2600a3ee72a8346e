use Rattle.dimacs_search.proofs.tests.solve_text.Goals as goal

pub solve-requires : goal.solve-requires
solve-requires g c = c.read_clauses_have_their_variables.ensures c.args.text.now c.in-Ok.cnf c.in-Ok.ensures
