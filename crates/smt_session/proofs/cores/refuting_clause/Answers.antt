use Rattle.std.proofs.Common.{[], Some, ap, ◌∙◌}
use Rattle.std.specs.Option.{option_copied}
use Rattle.smt_session.proofs.Coring.{clause_told}
use Rattle.smt_session.proofs.cores.refuting_clause.Goals as goal

pub returns-in-Unsat : goal.returns-in-Unsat
returns-in-Unsat c = λ nodes h.
    clause_told nodes c.args.log.now h [] c.args.shown.now c.in-Unsat.pos (option_copied c.clause.result) (c.in-Some.is ∙ ap Some c.in-Unsat.is) c.clause.ensures.clause
