use Rattle.dimacs_front.specs.Cnf.{reading}
use Rattle.dimacs_front.proofs.Reading.{end_ok, end_fails}
use Rattle.dimacs_front.proofs.cnf.CnfReader.end.Goals as goal

pub returns-in-Ok : goal.returns-in-Ok
returns-in-Ok c = end_ok c.args.self c.in-Ok.cnf (rw (← c.reader.view_is) c.in-Ok.ensures)

pub returns : goal.returns
returns c =
    let i = c.reader.inside in
    rw (c.last_line-line.ensures, ← c.reader.view_is)
    (end_fails (record { lines = i.lines; reading = reading i.header i.rows; begun = i.begun; is_over = i.is_over }) c.in-Err.kind c.in-Err.ensures)
