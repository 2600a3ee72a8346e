use Rattle.smt_run.proofs.Converted.{ended_told, cut_told}
use Rattle.smt_run.proofs.converting.convert_proof.Goals as goal

pub returns-in-Ok-write_ending-clause-becomes : goal.returns-in-Ok-write_ending-clause-becomes
returns-in-Ok-write_ending-clause-becomes g c =
    let e = c.in-Ok-ending_of.ending in
    ended_told (g.P.Source.left c.args.proof.now) (g.P.Source.left c.read_whole.new.proof) (g.W.Sink.written c.args.answers.now) (g.W.Sink.written c.write_ending.new.answers) (g.Q.Sink.written c.args.out.now) (g.Q.Sink.written c.write_ending.new.out)
    c.in-Ok-read_whole.text e.line e.proof e.status c.in-Ok-read_whole.ensures.whole.0 c.in-Ok-read_whole.ensures.whole.1 (rw c.as_slice.ensures at c.in-Ok-ending_of.ensures) c.in-Ok-write_ending.ensures.answers c.in-Ok-write_ending.ensures.out

pub returns-clause-becomes : goal.returns-clause-becomes
returns-clause-becomes g c =
    let e = c.in-Ok-ending_of.ending in
    cut_told (g.P.Source.left c.args.proof.now) (g.P.Source.left c.read_whole.new.proof) (g.W.Sink.written c.args.answers.now) (g.W.Sink.written c.write_ending.new.answers) (g.Q.Sink.written c.args.out.now) (g.Q.Sink.written c.write_ending.new.out)
    c.in-Ok-read_whole.text e.line e.proof e.status c.in-Ok-read_whole.ensures.whole.0 c.in-Ok-read_whole.ensures.whole.1 (rw c.as_slice.ensures at c.in-Ok-ending_of.ensures) c.in-Err-write_ending.ensures.fronts
