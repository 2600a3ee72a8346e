use Rattle.std.proofs.lemmas.Result.{err_from_is_err_and}
use Rattle.smt_run.proofs.Converted.{fronts_of_proof, fronts_behind}
use Rattle.smt_run.proofs.converting.write_ending.Goals as goal

pub returns-in_err-write_whole-clause-fronts : goal.returns-in_err-write_whole-clause-fronts
returns-in_err-write_whole-clause-fronts g c =
    let p = err_from_is_err_and c.from_residual.result c.from_residual.ensures.1 in
    let b = rw c.as_slice.ensures at c.in_err-write_whole.ensures.bytes in
    rw p.1 (fronts_of_proof c.args.ending.now.line c.args.ending.now.proof b.0 (g.W.Sink.written c.args.answers.now) (g.Q.Sink.written c.args.out.now) (g.Q.Sink.written c.write_whole.new.sink) b.2)

pub returns-clause-fronts : goal.returns-clause-fronts
returns-clause-fronts g c =
    fronts_behind c.write_whole-2.result c.args.ending.now.line c.args.ending.now.proof (g.W.Sink.written c.args.answers.now) (g.W.Sink.written c.write_whole-2.new.sink) (g.Q.Sink.written c.args.out.now) (g.Q.Sink.written c.write_whole.new.sink)
    (rw c.as_slice-2.ensures at c.write_whole-2.ensures.bytes) (rw c.as_slice.ensures at c.in_ok-write_whole.ensures.bytes)
