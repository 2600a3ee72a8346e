use Rattle.std.proofs.Common.{sym, ◌∙◌}
use Rattle.std.specs.Prelude.{◌||◌}
use Rattle.proof_log.specs.Logs.{entry_at}
use Rattle.proof_log.specs.Diaries.{is_chain}
use Rattle.diary_checker.specs.Tables.{bit_in}
use Rattle.diary_checker.proofs.Holding.{chain_more, plain_more}
use Rattle.diary_checker.proofs.Using.{on_ok}
use Rattle.diary_checker.proofs.filing.hold_plain.Goals as goal

pub returns-then-is_left_out-clause-held : goal.returns-then-is_left_out-clause-held
returns-then-is_left_out-clause-held c = λ h p.
    chain_more (λ q. bit_in c.args.deleted.now q || is_chain (entry_at c.args.log.now.entries q)) (bit_in c.args.held.now) c.args.at (sym c.is_left_out.ensures ∙ c.if-is_left_out.true) h p

pub returns-clause-held : goal.returns-clause-held
returns-clause-held c =
    on_ok c.hold.result _ _ (λ w h p.
    plain_more (λ q. bit_in c.args.deleted.now q || is_chain (entry_at c.args.log.now.entries q)) (bit_in c.args.held.now) (bit_in c.hold.new.held) c.args.at (sym c.is_left_out.ensures ∙ c.if-is_left_out.false) w h p)
    c.hold.ensures.held
