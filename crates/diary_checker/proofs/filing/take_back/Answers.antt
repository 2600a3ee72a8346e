use Rattle.proof_log.specs.Logs.{clause_at}
use Rattle.diary_checker.specs.Tables.{bit_in}
use Rattle.diary_checker.proofs.Holding.{filed_less}
use Rattle.diary_checker.proofs.Using.{on_ok}
use Rattle.diary_checker.proofs.filing.take_back.Goals as goal

pub returns-clause-filed : goal.returns-clause-filed
returns-clause-filed c =
    on_ok c.set.result _ _ (λ w h.
    filed_less (clause_at c.args.log.now.clauses) (bit_in c.args.held.now) (bit_in c.set.new.self) c.args.watches.now c.unfile_all.new.watches c.args.at w c.unfile_all.ensures h)
    c.set.ensures.ok
