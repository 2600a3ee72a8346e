use Rattle.std.proofs.Common.{false, ◌<◌, ◌++◌, [], length, take, refl, inr, append-nil, arith}
use Rattle.std.proofs.lemmas.Result.{err_from_is_err_and}
use Rattle.std.proofs.KnownBytes.{Consumes-nil, Consumes-trans}
use Rattle.std.proofs.lemmas.Bool.{not-true, not-false}
use Rattle.smt_text.specs.Framing.{Held}
use Rattle.smt_text.proofs.Cuts.{Begins-append}
use Rattle.smt_text.proofs.Driver.{framed_none}
use Rattle.smt_desk.specs.Meters.{room}
use Rattle.smt_desk.proofs.Metering.{room_counted}
use Rattle.smt_check.specs.Runs.{counts}
use Rattle.smt_check.proofs.Parts.{adds_more, cause_after}
use Rattle.smt_session.specs.Sessions.{limits_of}
use Rattle.smt_run.specs.Adding.{opening, streams, with_piece}
use Rattle.smt_run.proofs.Written.{Progress-none, Progress-counted, Progress-resize, Written-none, Written-more, within_none, within_more, read_stopped, read_failed, read_whole, at_most, piece_read, script_cause, sinks_cause}
use Rattle.smt_run.proofs.Turning.{Advances-none, Advances-trans, Begins-trans, held_none, held_stop, held_more, held_behind}
use Rattle.smt_run.proofs.Telling.{front_told, rest_told, ended_told, ended_read, read_told, rest_read, no_read}
use Rattle.smt_run.proofs.scripts.answer_script.Goals as goal

pub returns-in_err-session-clause-read : goal.returns-in_err-session-clause-read
returns-in_err-session-clause-read g c =
    let p = err_from_is_err_and c.from_residual.result c.from_residual.ensures.1 in
    rw p.1 (read_stopped _ _ p.0 (inr p.2) (within_none _))

pub pieces-init : goal.pieces-init
pieces-init g c =
    let fresh = c.in_ok-session.ensures.fresh in
    let framed = framed_none _ [] c.new-framer.ensures refl in
    record {
      read = rw c.new-meter.ensures (Progress-none _ _ c.requires.room);
      written = Written-none _ _ _;
      text = [];
      consumed = Consumes-nil (g.S.Source.left c.args.script.now);
      chunks = [];
      begins = framed.0;
      ends = λ going. framed.1;
      advances = Advances-none _ _ _ _ (λ i. record { state = fresh.0 i; log = fresh.1 i; file = fresh.3 i; shown = fresh.2 i; limits = c.in_ok-session.ensures.limits i }) refl refl;
    }

pub returns-in_err-session-clause-turns : goal.returns-in_err-session-clause-turns
returns-in_err-session-clause-turns g c =
    let p = err_from_is_err_and c.from_residual.result c.from_residual.ensures.1 in
    let start = streams (g.W.Sink.written c.args.answers.now) (g.Q.Sink.written c.args.proof.now) in
    rw p.1 (front_told (limits_of c.args.settings) (g.S.Source.left c.args.script.now) (g.S.Source.left c.args.script.now) [] start start (Consumes-nil (g.S.Source.left c.args.script.now)) (held_none (record { line = 1; bytes = [] }) (opening (limits_of c.args.settings)) start))

pub returns-in-Err-clause-turns : goal.returns-in-Err-clause-turns
returns-in-Err-clause-turns g c =
    let inv = c.pieces.invariant in
    let held : Held = record { line = 1; bytes = inv.text } in
    let start = streams (g.W.Sink.written c.args.answers.now) (g.Q.Sink.written c.args.proof.now) in
    let here = streams (g.W.Sink.written c.pieces.answers) (g.Q.Sink.written c.pieces.proof) in
    let more = piece_read (room c.pieces.meter) (g.S.Source.left c.pieces.script) (g.S.Source.left c.read_piece.new.script) c.in-Err.status c.in-Err.ensures.read in
    front_told (limits_of c.args.settings) (g.S.Source.left c.args.script.now) (g.S.Source.left c.read_piece.new.script) (inv.text ++ more.0) start here
    (Consumes-trans (g.S.Source.left c.args.script.now) (g.S.Source.left c.pieces.script) (g.S.Source.left c.read_piece.new.script) inv.text more.0 inv.consumed more.1)
    (held_more held more.0 (opening (limits_of c.args.settings)) start here
    (held_stop held c.pieces.framer (opening (limits_of c.args.settings)) false c.pieces.so_far start here inv.chunks (not-true c.pieces.so_far.ended c.pieces-test.true) inv.begins inv.advances))

pub returns-in_err-so_far-clause-turns : goal.returns-in_err-so_far-clause-turns
returns-in_err-so_far-clause-turns g c =
    let p = err_from_is_err_and c.from_residual-in_err-so_far.result c.from_residual-in_err-so_far.ensures.1 in
    let inv = c.pieces.invariant in
    let piece = take c.in-Ok.size c.read_piece.new.buffer in
    let held : Held = record { line = 1; bytes = inv.text } in
    let start = streams (g.W.Sink.written c.args.answers.now) (g.Q.Sink.written c.args.proof.now) in
    let here = streams (g.W.Sink.written c.pieces.answers) (g.Q.Sink.written c.pieces.proof) in
    let behind = streams (g.W.Sink.written c.answer_piece.new.answers) (g.Q.Sink.written c.answer_piece.new.proof) in
    rw p.1
    (front_told (limits_of c.args.settings) (g.S.Source.left c.args.script.now) (g.S.Source.left c.read_piece.new.script) (inv.text ++ piece) start behind (Consumes-trans (g.S.Source.left c.args.script.now) (g.S.Source.left c.pieces.script) (g.S.Source.left c.read_piece.new.script) inv.text piece inv.consumed c.in-Ok.ensures.bytes)
    (held_behind (with_piece held piece) (with_piece c.pieces.framer piece) (opening (limits_of c.args.settings)) false c.pieces.so_far start here behind inv.chunks
    (not-true c.pieces.so_far.ended c.pieces-test.true) (Begins-append held inv.chunks c.pieces.framer piece inv.begins) inv.advances c.in_err-so_far.ensures.broken))

pub returns-in-Err-clause-read : goal.returns-in-Err-clause-read
returns-in-Err-clause-read g c =
    read_failed _ _ _ _ _ _ c.pieces.invariant.read c.in-Err.ensures.read

pub returns-in_err-so_far-clause-read : goal.returns-in_err-so_far-clause-read
returns-in_err-so_far-clause-read g c =
    let p = err_from_is_err_and c.from_residual-in_err-so_far.result c.from_residual-in_err-so_far.ensures.1 in
    rw (p.1, p.2) (read_stopped _ _ _ c.in_err-so_far.ensures.stopped (within_more _ _ _ _ _ _ c.pieces.invariant.read c.in-Ok.ensures.read.0 c.in-Ok.ensures.read.1))

pub returns-in_err-so_far-clause-answers : goal.returns-in_err-so_far-clause-answers
returns-in_err-so_far-clause-answers g c = adds_more _ _ _ c.pieces.invariant.written.answers c.in_err-so_far.ensures.answers

pub returns-in_err-so_far-clause-proof : goal.returns-in_err-so_far-clause-proof
returns-in_err-so_far-clause-proof g c = adds_more _ _ _ c.pieces.invariant.written.proof c.in_err-so_far.ensures.proof

pub pieces-preserved : goal.pieces-preserved
pieces-preserved g c =
    let nonempty : 0 < length c.read_piece.new.buffer = omega (arith, c.pieces.invariant.read.room) in
    let inv = c.pieces.invariant in
    let turns = c.in_ok-so_far.ensures.turns in
    let piece = take c.in-Ok.size c.read_piece.new.buffer in
    let held : Held = record { line = 1; bytes = inv.text } in
    let start = streams (g.W.Sink.written c.args.answers.now) (g.Q.Sink.written c.args.proof.now) in
    let here = streams (g.W.Sink.written c.pieces.answers) (g.Q.Sink.written c.pieces.proof) in
    let behind = streams (g.W.Sink.written c.answer_piece.new.answers) (g.Q.Sink.written c.answer_piece.new.proof) in
    record {
      read =
          Progress-resize _ _ _ _ _ nonempty
          (Progress-counted _ _ _ _ _ _ _ c.pieces.invariant.read c.in-Ok.ensures.read.0 (room_counted _ _ _ c.in-Ok.ensures.counted) c.in-Ok.ensures.read.1);
      text = inv.text ++ piece;
      consumed = Consumes-trans (g.S.Source.left c.args.script.now) (g.S.Source.left c.pieces.script) (g.S.Source.left c.read_piece.new.script) inv.text piece inv.consumed c.in-Ok.ensures.bytes;
      chunks = inv.chunks ++ turns.chunks;
      begins =
          Begins-trans (with_piece held piece) (with_piece c.pieces.framer piece) c.answer_piece.new.framer inv.chunks turns.chunks
          (Begins-append held inv.chunks c.pieces.framer piece inv.begins) turns.begins;
      ends = turns.ends;
      advances =
          Advances-trans (opening (limits_of c.args.settings)) false c.pieces.so_far c.in_ok-so_far.so_far start here behind inv.chunks turns.chunks
          (not-true c.pieces.so_far.ended c.pieces-test.true) inv.advances turns.advances;
      written =
          Written-more (g.W.Sink.written c.args.answers.now) (g.W.Sink.written c.pieces.answers) (g.W.Sink.written c.answer_piece.new.answers) (g.Q.Sink.written c.args.proof.now) (g.Q.Sink.written c.pieces.proof) (g.Q.Sink.written c.answer_piece.new.proof)
          (counts (g.S.Source.faults c.args.script.now) (g.W.Sink.faults c.args.answers.now) (g.Q.Sink.faults c.args.proof.now)) (counts (g.S.Source.faults c.pieces.script) (g.W.Sink.faults c.pieces.answers) (g.Q.Sink.faults c.pieces.proof)) (counts (g.S.Source.faults c.read_piece.new.script) (g.W.Sink.faults c.answer_piece.new.answers) (g.Q.Sink.faults c.answer_piece.new.proof))
          c.pieces.invariant.written c.in_ok-so_far.ensures.answers c.in_ok-so_far.ensures.proof
          (record { script = c.read_piece.ensures.later; answers = c.answer_piece.ensures.later.answers; proof = c.answer_piece.ensures.later.proof });
    }

pub returns-then-size-eq0-clause-read : goal.returns-then-size-eq0-clause-read
returns-then-size-eq0-clause-read g c =
    read_whole _ _ _ c.answer_rest.ensures.stopped
    (within_more _ _ _ _ _ _ c.pieces.invariant.read c.in-Ok.ensures.read.0 c.in-Ok.ensures.read.1)

pub returns-then-size-eq0-clause-turns : goal.returns-then-size-eq0-clause-turns
returns-then-size-eq0-clause-turns g c =
    let inv = c.pieces.invariant in
    let all = Consumes-trans (g.S.Source.left c.args.script.now) (g.S.Source.left c.pieces.script) (g.S.Source.left c.read_piece.new.script) inv.text (take c.in-Ok.size c.read_piece.new.buffer) inv.consumed c.in-Ok.ensures.bytes in
    let all' = rw (c.if-size-eq0.true, append-nil) at all in
    let start = streams (g.W.Sink.written c.args.answers.now) (g.Q.Sink.written c.args.proof.now) in
    let here = streams (g.W.Sink.written c.pieces.answers) (g.Q.Sink.written c.pieces.proof) in
    let behind = streams (g.W.Sink.written c.answer_rest.new.answers) (g.Q.Sink.written c.answer_rest.new.proof) in
    rest_told (limits_of c.args.settings) (g.S.Source.left c.args.script.now) (g.S.Source.left c.read_piece.new.script) inv.text c.pieces.so_far start here behind inv.chunks c.pieces.framer c.answer_rest.result
    (not-true c.pieces.so_far.ended c.pieces-test.true) all' (c.in-Ok.ensures.read.2 c.if-size-eq0.true) inv.begins (inv.ends (not-true c.pieces.so_far.ended c.pieces-test.true)) inv.advances c.answer_rest.ensures.turns c.answer_rest.ensures.broken

pub returns-then-size-eq0-clause-answers : goal.returns-then-size-eq0-clause-answers
returns-then-size-eq0-clause-answers g c = adds_more _ _ _ c.pieces.invariant.written.answers c.answer_rest.ensures.answers

pub returns-then-size-eq0-clause-proof : goal.returns-then-size-eq0-clause-proof
returns-then-size-eq0-clause-proof g c = adds_more _ _ _ c.pieces.invariant.written.proof c.answer_rest.ensures.proof

pub returns-clause-read : goal.returns-clause-read
returns-clause-read g c = at_most _ _ _ _ c.pieces.invariant.read

pub returns-clause-read_out : goal.returns-clause-read_out
returns-clause-read_out g c =
    let inv = c.pieces.invariant in
    let start = streams (g.W.Sink.written c.args.answers.now) (g.Q.Sink.written c.args.proof.now) in
    let here = streams (g.W.Sink.written c.pieces.answers) (g.Q.Sink.written c.pieces.proof) in
    ended_read (limits_of c.args.settings) (g.S.Source.left c.args.script.now) (g.S.Source.left c.pieces.script) inv.text c.pieces.so_far start here inv.chunks c.pieces.framer
    (not-false c.pieces.so_far.ended c.pieces-test.false) inv.consumed inv.begins inv.advances

pub returns-clause-turns : goal.returns-clause-turns
returns-clause-turns g c =
    let inv = c.pieces.invariant in
    let start = streams (g.W.Sink.written c.args.answers.now) (g.Q.Sink.written c.args.proof.now) in
    let here = streams (g.W.Sink.written c.pieces.answers) (g.Q.Sink.written c.pieces.proof) in
    rw c.end.ensures
    (ended_told (limits_of c.args.settings) (g.S.Source.left c.args.script.now) (g.S.Source.left c.pieces.script) inv.text c.pieces.so_far start here inv.chunks c.pieces.framer
    (not-false c.pieces.so_far.ended c.pieces-test.false) inv.consumed inv.begins inv.advances)

pub returns-in-Err-clause-cause : goal.returns-in-Err-clause-cause
returns-in-Err-clause-cause g c =
    cause_after _ _ _ _ c.pieces.invariant.written.later (script_cause (g.S.Source.faults c.pieces.script) (g.S.Source.faults c.read_piece.new.script) (g.W.Sink.faults c.pieces.answers) (g.W.Sink.faults c.pieces.answers) (g.Q.Sink.faults c.pieces.proof) (g.Q.Sink.faults c.pieces.proof) _ c.in-Err.ensures.cause)

pub returns-in_err-so_far-clause-cause : goal.returns-in_err-so_far-clause-cause
returns-in_err-so_far-clause-cause g c =
    let p = err_from_is_err_and c.from_residual-in_err-so_far.result c.from_residual-in_err-so_far.ensures.1 in
    rw (p.1, p.2)
    (cause_after _ _ _ _ c.pieces.invariant.written.later
    (sinks_cause (g.S.Source.faults c.pieces.script) (g.S.Source.faults c.read_piece.new.script) _ _ _ _ _ c.in_err-so_far.ensures.cause c.in_err-so_far.ensures.stopped))

pub returns-in_err-session-clause-answered : goal.returns-in_err-session-clause-answered
returns-in_err-session-clause-answered g c =
    let p = err_from_is_err_and c.from_residual.result c.from_residual.ensures.1 in
    rw p.1 (λ k. absurd (no_read (limits_of c.args.settings) p.0 (inr p.2) k))

pub returns-in-Err-clause-answered : goal.returns-in-Err-clause-answered
returns-in-Err-clause-answered g c =
    let inv = c.pieces.invariant in
    let going = not-true c.pieces.so_far.ended c.pieces-test.true in
    let start = streams (g.W.Sink.written c.args.answers.now) (g.Q.Sink.written c.args.proof.now) in
    let here = streams (g.W.Sink.written c.pieces.answers) (g.Q.Sink.written c.pieces.proof) in
    λ _. read_told (limits_of c.args.settings) (g.S.Source.left c.args.script.now) (g.S.Source.left c.pieces.script) (g.S.Source.left c.read_piece.new.script) inv.text (room c.pieces.meter) c.pieces.so_far start here inv.chunks c.pieces.framer c.in-Err.status
    going inv.consumed c.in-Err.ensures.read inv.begins (inv.ends going) inv.advances

pub returns-in_err-so_far-clause-answered : goal.returns-in_err-so_far-clause-answered
returns-in_err-so_far-clause-answered g c =
    let p = err_from_is_err_and c.from_residual-in_err-so_far.result c.from_residual-in_err-so_far.ensures.1 in
    rw (p.1, p.2) (λ k. absurd (no_read (limits_of c.args.settings) _ c.in_err-so_far.ensures.stopped k))

pub returns-then-size-eq0-clause-answered : goal.returns-then-size-eq0-clause-answered
returns-then-size-eq0-clause-answered g c = rest_read (limits_of c.args.settings) c.answer_rest.result _ c.answer_rest.ensures.stopped
