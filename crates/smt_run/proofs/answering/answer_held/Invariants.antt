use Rattle.std.proofs.Common.{List, length}
use Rattle.smt_text.specs.declared.chunk.Chunk.{Chunk}
use Rattle.smt_text.specs.Script.{Begins}
use Rattle.smt_check.specs.Runs.{counts}
use Rattle.smt_run.specs.Adding.{moment_of, streams, Advances}
use Rattle.smt_run.proofs.Written.{Written}
use Rattle.smt_run.proofs.answering.answer_held.Given as goal

abbrev pub invariant-commands : goal.invariant-commands
invariant-commands g l =
    let W = g.W.Sink.written in
    let Q = g.Q.Sink.written in
    record {
      written : Written (W l.fn.answers) (W l.answers) (Q l.fn.proof) (Q l.proof) (counts 0 (g.W.Sink.faults l.fn.answers) (g.Q.Sink.faults l.fn.proof)) (counts 0 (g.W.Sink.faults l.answers) (g.Q.Sink.faults l.proof));
      chunks : List Chunk;
      begins : Begins l.fn.framer chunks l.framer;
      advances : Advances (moment_of l.fn.so_far.session) l.fn.so_far.refused l.so_far (streams (W l.fn.answers) (Q l.fn.proof)) (streams (W l.answers) (Q l.proof)) chunks;
    }

abbrev pub decreases-commands : goal.decreases-commands
decreases-commands g l = length l.framer.bytes
