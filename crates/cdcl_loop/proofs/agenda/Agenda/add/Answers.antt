use Rattle.std.proofs.Common.{ℕ, List, sym, subst}
use Rattle.cdcl_loop.specs.Agendas.{IsScanned}
use Rattle.cdcl_loop.proofs.Agendas.{scanned_listed}
use Rattle.cdcl_loop.proofs.agenda.Agenda.add.Goals as goal

pub returns-in_err-add-clause-scanned : goal.returns-in_err-add-clause-scanned
returns-in_err-add-clause-scanned c = λ rows level h. subst (λ (xs : List ℕ). IsScanned (record c.args.self.now { list = xs }) rows level) (sym c.in_err-add.ensures.err) h

pub returns-clause-scanned : goal.returns-clause-scanned
returns-clause-scanned c = λ rows level. scanned_listed c.args.self.now rows level c.args.variable c.add.new.self c.in_ok-add.ensures.listed
