use Rattle.dimacs_run.proofs.solving.find.Goals as goal

pub solve-requires : goal.solve-requires
solve-requires g c = let t = c.in-Ok.ensures.from_text in c.read_clauses_have_their_variables.ensures t.0 c.in-Ok.cnf t.1
