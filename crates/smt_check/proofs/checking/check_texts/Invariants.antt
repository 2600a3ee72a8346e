use Rattle.std.proofs.Common.{◌<◌, length}
use Rattle.proof_checker.specs.Checkings.{verdicts_by}
use Rattle.smt_desk.specs.Meters.{room}
use Rattle.smt_check.specs.Runs.{IsLater, counts}
use Rattle.smt_check.proofs.Checks.{UnderWay, ahead}
use Rattle.smt_check.proofs.Reported.{IsTelling}
use Rattle.smt_check.proofs.checking.check_texts.Given as goal

abbrev pub invariant-texts : goal.invariant-texts
invariant-texts g l =
    record {
      nonempty : 0 < length l.buffer;
      way : UnderWay l.checking (g.S.Source.left l.fn.script) (g.S.Source.left l.script) (g.P.Source.left l.fn.proof) (g.P.Source.left l.proof) (room l.script_meter) (room l.proof_meter);
      telling : IsTelling (g.S.Source.left l.fn.script) (g.P.Source.left l.fn.proof) (g.W.Sink.written l.fn.answers) (g.W.Sink.written l.answers) (verdicts_by l.checking.checker);
      later : IsLater (counts (g.S.Source.faults l.fn.script) (g.W.Sink.faults l.fn.answers) (g.P.Source.faults l.fn.proof)) (counts (g.S.Source.faults l.script) (g.W.Sink.faults l.answers) (g.P.Source.faults l.proof));
    }

abbrev pub decreases-texts : goal.decreases-texts
decreases-texts g l = ahead l.checking (room l.script_meter) (room l.proof_meter)
