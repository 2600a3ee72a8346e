use Rattle.std.proofs.Common.{◌≡◌, ℕ, false, List, length, None}
use Rattle.std.specs.Io.KnownBytes.{Consumes}
use Rattle.smt_text.specs.declared.chunk.Chunk.{Chunk}
use Rattle.smt_text.specs.Framing.{first_chunk}
use Rattle.smt_text.specs.Script.{Begins}
use Rattle.smt_check.specs.Runs.{counts}
use Rattle.smt_session.specs.Sessions.{limits_of}
use Rattle.smt_run.specs.Adding.{opening, streams, Advances}
use Rattle.smt_desk.specs.Meters.{room}
use Rattle.smt_run.proofs.Written.{Written, Progress}
use Rattle.smt_run.proofs.scripts.answer_script.Given as goal

abbrev pub invariant-pieces : goal.invariant-pieces
invariant-pieces g l =
    record {
      read : Progress (length l.buffer) (room l.meter) (g.S.Source.left l.fn.script) (g.S.Source.left l.script);
      written : Written (g.W.Sink.written l.fn.answers) (g.W.Sink.written l.answers) (g.Q.Sink.written l.fn.proof) (g.Q.Sink.written l.proof)
          (counts (g.S.Source.faults l.fn.script) (g.W.Sink.faults l.fn.answers) (g.Q.Sink.faults l.fn.proof)) (counts (g.S.Source.faults l.script) (g.W.Sink.faults l.answers) (g.Q.Sink.faults l.proof));
      text : List ℕ;
      consumed : Consumes (g.S.Source.left l.fn.script) (g.S.Source.left l.script) text;
      chunks : List Chunk;
      begins : Begins (record { line = 1; bytes = text }) chunks l.framer;
      ends : l.so_far.ended ≡ false → first_chunk l.framer ≡ None;
      advances : Advances (opening (limits_of l.fn.settings)) false l.so_far (streams (g.W.Sink.written l.fn.answers) (g.Q.Sink.written l.fn.proof)) (streams (g.W.Sink.written l.answers) (g.Q.Sink.written l.proof)) chunks;
    }

abbrev pub decreases-pieces : goal.decreases-pieces
decreases-pieces g l = room l.meter
