use Rattle.dimacs_bench.proofs.search.searched.Goals as goal

pub solve_counting-requires : goal.solve_counting-requires
solve_counting-requires c = c.read_clauses_have_their_variables.ensures c.args.text.now c.in-Ok.cnf c.in-Ok.ensures
