use Rattle.std.proofs.Common.{◌<◌, length, take, refl, arith}
use Rattle.std.proofs.lemmas.List.{length-take-le}
use Rattle.smt_desk.proofs.Metering.{room_counted}
use Rattle.dimacs_run.specs.Reads.{HaltsAt, halt_of}
use Rattle.dimacs_run.proofs.Ways.{way_none, way_more, way_read, way_stopped, way_fails, stop_halts, stop_reads}
use Rattle.dimacs_run.proofs.reading.check_refutation.Goals as goal

pub pieces-init : goal.pieces-init
pieces-init g c = record {
  nonempty = c.requires;
  way = rw (c.new-meter.ensures, c.in-Ok.ensures) (way_none _ _ _ (λ more. refl));
  later = omega arith;
}

pub returns-in-Err-read_piece-clause-read : goal.returns-in-Err-read_piece-clause-read
returns-in-Err-read_piece-clause-read g c = way_stopped _ _ _ _ _ c.pieces.invariant.way _ _ c.in-Err-read_piece.ensures.read

pub returns-in-Ok-end-clause-read : goal.returns-in-Ok-end-clause-read
returns-in-Ok-end-clause-read g c = way_read _ _ _ _ _ c.pieces.invariant.way _ _ c.in-Ok-read_piece.ensures.read.0 c.in-Ok-read_piece.ensures.read.1

pub returns-in-Err-end-clause-read : goal.returns-in-Err-end-clause-read
returns-in-Err-end-clause-read g c = rw c.halted.ensures (stop_reads _ _ _ (way_read _ _ _ _ _ c.pieces.invariant.way _ _ c.in-Ok-read_piece.ensures.read.0 c.in-Ok-read_piece.ensures.read.1))

pub returns-in-Err-feed-clause-judged : goal.returns-in-Err-feed-clause-judged
returns-in-Err-feed-clause-judged g c =
    rw c.halted-halt.ensures
    (way_fails _ _ _ _ _ c.pieces.invariant.way _ (take c.in-Ok-read_piece.size c.read_piece.new.buffer) (λ r. HaltsAt r (halt_of c.in-Err-feed.stop)) c.in-Ok-read_piece.ensures.bytes
    (λ more. stop_halts _ _ (c.in-Err-feed.ensures more)))

pub returns-in-Err-feed-clause-read : goal.returns-in-Err-feed-clause-read
returns-in-Err-feed-clause-read g c = rw c.halted-halt.ensures (stop_reads _ _ _ (way_read _ _ _ _ _ c.pieces.invariant.way _ _ c.in-Ok-read_piece.ensures.read.0 c.in-Ok-read_piece.ensures.read.1))

pub pieces-preserved : goal.pieces-preserved
pieces-preserved g c =
    let nonempty : 0 < length c.read_piece.new.buffer = omega (arith, c.pieces.invariant.nonempty) in
    let size = c.in-Ok-read_piece.ensures in
    record {
      nonempty = nonempty;
      way = way_more _ _ _ _ _ c.pieces.invariant.way _ _ c.in-Ok-read_piece.size _ (take c.in-Ok-read_piece.size c.read_piece.new.buffer) size.read.0 (room_counted _ _ _ size.counted) size.bytes (length-take-le c.in-Ok-read_piece.size c.read_piece.new.buffer size.within) (λ more. c.in-Ok-feed.ensures more);
      later = omega (arith, c.pieces.invariant.later, c.read_piece.ensures.later);
    }
