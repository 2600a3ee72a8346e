use Rattle.std.proofs.Common.{sym, ◌∙◌}
use Rattle.dimacs_front.specs.Cnf.{reading}
use Rattle.dimacs_front.proofs.Reading.{text_over, line_fails, line_read}
use Rattle.dimacs_front.proofs.cnf.CnfReader.end_line.Goals as goal

pub returns-then-begins_with-clause-lines : goal.returns-then-begins_with-clause-lines
returns-then-begins_with-clause-lines c = λ rest.
    let i = c.self.inside in
    rw (← c.self.view_is) (text_over i.lines (reading i.header i.rows) i.begun rest (sym (rw c.as_slice.ensures at c.begins_with.ensures) ∙ c.if-begins_with.true))

pub returns-in-Err-Fault-clause-lines : goal.returns-in-Err-Fault-clause-lines
returns-in-Err-Fault-clause-lines c = λ rest.
    let i = c.self.inside in
    rw (← c.self.view_is) (line_fails i.lines (reading i.header i.rows) i.begun rest c.in-Err-Fault.kind
    (sym (rw c.as_slice.ensures at c.begins_with.ensures) ∙ c.if-begins_with.false)
    (rw (c.in-Err-Fault.field-0-is, c.as_slice-2.ensures) at c.in-Err-Fault.ensures))

pub returns-clause-lines : goal.returns-clause-lines
returns-clause-lines c = λ rest.
    let i = c.self.inside in
    rw (← c.self.view_is) (line_read i.lines (reading i.header i.rows) (reading c.take_content.new.header c.take_content.new.rows) i.begun rest i.is_over
    (sym (rw c.as_slice.ensures at c.begins_with.ensures) ∙ c.if-begins_with.false)
    (rw c.as_slice-2.ensures at c.in-Ok.ensures)
    (rw (← c.self.view_is) at c.requires))
