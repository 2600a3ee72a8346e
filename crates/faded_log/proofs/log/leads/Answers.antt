use Rattle.proof_log.specs.Logs.{clause_at}
use Rattle.faded_log.proofs.log.leads.Goals as goal

pub returns-in-Err : goal.returns-in-Err
returns-in-Err c = λ chain. c.chains_have_no_fault.ensures (clause_at c.args.rows.now.clauses) c.args.clause.now c.args.hints.now c.in-Err.field-0 chain c.in-Err.ensures.exactly
