use Rattle.std.proofs.Common.{◌<◌, ◌≤◌, ℕ, List, length}
use Rattle.dimacs_front.specs.Cnf.{cnf_of, goes_on}
use Rattle.smt_desk.specs.Meters.{room}
use Rattle.dimacs_run.proofs.Ways.{UnderWay}
use Rattle.dimacs_run.proofs.reading.read_clauses.Given as goal

abbrev pub invariant-pieces : goal.invariant-pieces
invariant-pieces g l =
    record {
      nonempty : 0 < length l.buffer;
      way : UnderWay (λ (text : List ℕ). cnf_of text) (λ (more : List ℕ). goes_on l.reader more) (g.S.Source.left l.fn.source) (g.S.Source.left l.source) (room l.meter);
      later : g.S.Source.faults l.fn.source ≤ g.S.Source.faults l.source;
    }

abbrev pub decreases-pieces : goal.decreases-pieces
decreases-pieces g l = room l.meter
