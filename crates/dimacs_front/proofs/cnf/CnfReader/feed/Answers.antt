use Rattle.std.proofs.Common.{◌++◌, []}
use Rattle.dimacs_front.specs.Words.{lines_from}
use Rattle.dimacs_front.specs.Cnf.{reading}
use Rattle.dimacs_front.proofs.Reading.{stops_same, line_fed}
use Rattle.dimacs_front.proofs.cnf.CnfReader.feed.Goals as goal

pub returns-in-Err : goal.returns-in-Err
returns-in-Err c = λ more.
    let i = c.self.inside in
    stops_same _ _ c.in-Err.stop
    (line_fed (record { lines = i.lines; reading = reading i.header i.rows; begun = i.begun; is_over = i.is_over }) (c.lines.rest.now ++ more) c.take_line.new.begun (lines_from [] (c.in-Some.behind.now ++ more)) _
    c.lines-test.true (rw c.in-Some.is at (c.in_ok-behind.ensures.lines more)) (rw (← c.self.view_is) at (c.lines.invariant more)))
    (c.in-Err.ensures.lines (lines_from [] (c.in-Some.behind.now ++ more)))
