use Rattle.proof_log.specs.Logs.{clause_at}
use Rattle.diary_checker.specs.Tables.{bit_in}
use Rattle.diary_checker.proofs.Holding.{filed_more}
use Rattle.diary_checker.proofs.Using.{on_ok}
use Rattle.diary_checker.proofs.filing.hold.Goals as goal

pub returns-clause-filed : goal.returns-clause-filed
returns-clause-filed c =
    on_ok c.set.result _ _ (λ w h.
    filed_more (clause_at c.args.log.now.clauses) (bit_in c.args.held.now) (bit_in c.set.new.self) c.args.watches.now c.file.new.watches c.args.at w c.file.ensures.kept c.in_ok-file.ensures.filed h)
    c.set.ensures.ok
