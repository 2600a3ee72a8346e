use Rattle.std.proofs.Common.{◌∙◌}
use Rattle.dimacs_run.proofs.Found.{all_told, front_told}
use Rattle.dimacs_run.proofs.solving.solve_clauses.Goals as goal

pub returns-in-Ok-write_whole-clause-answered : goal.returns-in-Ok-write_whole-clause-answered
returns-in-Ok-write_whole-clause-answered g c = all_told (g.S.Source.left c.args.clauses.now) (g.P.Sink.written c.args.refutation.now) (g.P.Sink.written c.find.new.refutation) (g.W.Sink.written c.args.answers.now) (g.W.Sink.written c.write_whole.new.sink) c.in-Ok-find.finding c.as_slice.result.now (c.as_slice.ensures ∙ c.in-Ok-finding_text.ensures) c.in-Ok-find.ensures.found c.in-Ok-write_whole.ensures.bytes

pub returns-clause-answered : goal.returns-clause-answered
returns-clause-answered g c = let b = c.in-Err-write_whole.ensures.bytes in front_told (g.S.Source.left c.args.clauses.now) (g.P.Sink.written c.args.refutation.now) (g.P.Sink.written c.find.new.refutation) (g.W.Sink.written c.args.answers.now) (g.W.Sink.written c.write_whole.new.sink) c.in-Ok-find.finding c.as_slice.result.now b.0 (c.as_slice.ensures ∙ c.in-Ok-finding_text.ensures) c.in-Ok-find.ensures.found b.2
