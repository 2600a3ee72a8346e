use Rattle.std.proofs.Common.{sym}
use Rattle.proof_log.specs.Logs.{clause_at}
use Rattle.diary_checker.proofs.Using.{unit_at}
use Rattle.diary_checker.proofs.uses.open_at.Goals as goal

pub returns-in-Some : goal.returns-in-Some
returns-in-Some c = λ known set.
    let found = rw c.literals.ensures at c.sole_open.ensures in
    unit_at (clause_at c.args.log.now.clauses) c.args.id c.in-Some.clause.now known c.sole_open.result (sym c.in-Some.ensures) (found known set)
