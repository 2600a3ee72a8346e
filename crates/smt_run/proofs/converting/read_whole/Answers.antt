use Rattle.std.proofs.Common.{◌<◌, length, take, arith}
use Rattle.std.proofs.KnownBytes.{Consumes-nil, Consumes-trans}
use Rattle.smt_desk.proofs.Metering.{room_counted}
use Rattle.smt_run.proofs.Written.{Progress-none, Progress-counted, Progress-resize, within_more}
use Rattle.smt_run.proofs.Converted.{unread}
use Rattle.smt_run.proofs.converting.read_whole.Goals as goal

pub pieces-init : goal.pieces-init
pieces-init g c = record {
  read = rw c.new-meter.ensures (Progress-none _ _ c.requires);
  consumed = rw c.new-text.ensures (Consumes-nil _);
  later = omega arith;
}

pub returns-in-Err-clause-read : goal.returns-in-Err-clause-read
returns-in-Err-clause-read g c = unread _ _ _ _ _ _ c.pieces.invariant.read c.in-Err.ensures.read

pub returns-then-size-eq0-clause-read : goal.returns-then-size-eq0-clause-read
returns-then-size-eq0-clause-read g c = within_more _ _ _ _ _ _ c.pieces.invariant.read c.in-Ok.ensures.read.0 c.in-Ok.ensures.read.1

pub returns-in-Err-push_slice-clause-read : goal.returns-in-Err-push_slice-clause-read
returns-in-Err-push_slice-clause-read g c = within_more _ _ _ _ _ _ c.pieces.invariant.read c.in-Ok.ensures.read.0 c.in-Ok.ensures.read.1

pub pieces-preserved : goal.pieces-preserved
pieces-preserved g c =
    let nonempty : 0 < length c.read_piece.new.buffer = omega (arith, c.pieces.invariant.read.room) in
    record {
      read = Progress-resize _ _ _ _ _ nonempty (Progress-counted _ _ _ _ _ _ _ c.pieces.invariant.read c.in-Ok.ensures.read.0 (room_counted _ _ _ c.in-Ok.ensures.counted) c.in-Ok.ensures.read.1);
      consumed =
          rw c.in-Ok-push_slice.ensures.ok
          (Consumes-trans (g.P.Source.left c.args.proof.now) (g.P.Source.left c.pieces.proof) (g.P.Source.left c.read_piece.new.script) c.pieces.text (take c.in-Ok.size c.read_piece.new.buffer) c.pieces.invariant.consumed c.in-Ok.ensures.bytes);
      later = let a = c.pieces.invariant.later in let b = c.read_piece.ensures.later in omega (arith, a, b);
    }
