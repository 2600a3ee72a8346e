use Rattle.std.proofs.Common.{sym}
use Rattle.proof_log.specs.Logs.{clause_at}
use Rattle.diary_checker.proofs.Using.{given_hint, on_ok}
use Rattle.diary_checker.proofs.uses.mark_hint.Goals as goal

pub returns-in-Some : goal.returns-in-Some
returns-in-Some c =
    let marked = rw c.literals.ensures at c.mark.ensures in
    on_ok c.mark.result _ _ (λ h l. given_hint (clause_at c.args.log.now.clauses) c.args.id c.in-Some.clause.now c.args.number c.args.table.now c.mark.new.table l (sym c.in-Some.ensures) (h l)) marked
