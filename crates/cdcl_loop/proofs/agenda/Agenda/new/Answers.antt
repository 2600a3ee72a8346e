use Rattle.std.proofs.Common.{refl}
use Rattle.cdcl_loop.proofs.Agendas.{scanned_none}
use Rattle.cdcl_loop.proofs.agenda.Agenda.new.Goals as goal

pub returns-clause-scanned : goal.returns-clause-scanned
returns-clause-scanned c = λ rows. scanned_none _ rows refl c.new-marks.ensures.items
