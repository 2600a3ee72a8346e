use Rattle.script_state.proofs.Marking.{plain_cut}
use Rattle.script_state.proofs.plain.cut.Goals as goal

pub returns-clause-marks : goal.returns-clause-marks
returns-clause-marks c = rw (c.cut.ensures, c.truncate.ensures.items) (plain_cut _ _ _ c.requires.marks c.requires.len)
