use Rattle.std.proofs.Common.{◌≤◌, length}
use Rattle.std.specs.Io.KnownBytes.{Consumes}
use Rattle.smt_desk.specs.Meters.{room}
use Rattle.smt_run.proofs.Written.{Progress}
use Rattle.smt_run.proofs.converting.read_whole.Given as goal

abbrev pub invariant-pieces : goal.invariant-pieces
invariant-pieces g l =
    record {
      read : Progress (length l.buffer) (room l.meter) (g.P.Source.left l.fn.proof) (g.P.Source.left l.proof);
      consumed : Consumes (g.P.Source.left l.fn.proof) (g.P.Source.left l.proof) l.text;
      later : g.P.Source.faults l.fn.proof ≤ g.P.Source.faults l.proof;
    }

abbrev pub decreases-pieces : goal.decreases-pieces
decreases-pieces g l = room l.meter
