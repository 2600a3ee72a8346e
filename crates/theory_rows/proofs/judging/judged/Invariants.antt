use Rattle.proof_checker.specs.Checkings.{held_by}
use Rattle.theory_rows.proofs.Ways.{IsUnderWay}
use Rattle.theory_rows.proofs.judging.judged.Given as goal

abbrev pub invariant-records : goal.invariant-records
invariant-records l = record { way : IsUnderWay l.fn.script l.fn.proof l.checking }

abbrev pub decreases-records : goal.decreases-records
decreases-records l = held_by l.checking.inputs
