use Rattle.std.proofs.Common.{refl}
use Rattle.cdcl_loop.proofs.Agendas.{scanned_marked}
use Rattle.cdcl_loop.proofs.agenda.Agenda.mark.Goals as goal

pub returns-clause-scanned : goal.returns-clause-scanned
returns-clause-scanned c = λ rows level h. scanned_marked c.args.self.now rows level h (record c.args.self.now { marks = c.push.new.self }) refl refl c.in_ok-push.ensures.items
