use Rattle.std.proofs.Common.{◌++◌, []}
use Rattle.dimacs_front.specs.Words.{lines_from}
use Rattle.dimacs_front.proofs.Reading.{stops_same}
use Rattle.dimacs_front.proofs.Hints.{lrat_fed}
use Rattle.dimacs_front.proofs.lrat.LratChecker.feed.Goals as goal

pub returns-in-Err : goal.returns-in-Err
returns-in-Err c = λ more.
    let i = c.self.inside in
    stops_same _ _ c.in-Err.stop
    (lrat_fed (record { variables = i.variables; lines = i.lines; judging = i.judge; begun = i.begun }) (c.lines.rest.now ++ more) c.take_line.new.begun (lines_from [] (c.in-Some.behind.now ++ more)) _
    (rw c.in-Some.is at (c.in_ok-behind.ensures.lines more)) (rw (← c.self.view_is) at (c.lines.invariant more)))
    (c.in-Err.ensures.lines (lines_from [] (c.in-Some.behind.now ++ more)))
