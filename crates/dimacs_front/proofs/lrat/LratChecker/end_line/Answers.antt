use Rattle.dimacs_front.proofs.Hints.{lrat_line_fails, lrat_line_read}
use Rattle.dimacs_front.proofs.lrat.LratChecker.end_line.Goals as goal

pub returns-in-Err-Fault-clause-lines : goal.returns-in-Err-Fault-clause-lines
returns-in-Err-Fault-clause-lines c = λ rest.
    let i = c.self.inside in
    rw (← c.self.view_is) (lrat_line_fails i.variables i.lines i.judge i.begun rest c.in-Err-Fault.kind (rw (c.in-Err-Fault.field-0-is, c.as_slice.ensures) at c.in-Err-Fault.ensures))

pub returns-clause-lines : goal.returns-clause-lines
returns-clause-lines c = λ rest.
    let i = c.self.inside in
    rw (← c.self.view_is) (lrat_line_read i.variables i.lines i.judge c.take_line.new.self i.begun rest (rw c.as_slice.ensures at c.in-Ok.ensures))
