use Rattle.std.proofs.Common.{◌<◌, suc, length, subst}
use Rattle.std.specs.Option.{option_copied}
use Rattle.proof_log.specs.Boards.{LogBoardValue, IsClauseOf}
use Rattle.proof_log.proofs.Growth.{board_clause}
use Rattle.proof_log.proofs.board.LogBoardBoard.clause.Goals as goal

pub returns : goal.returns
returns c =
    subst (λ (v : LogBoardValue). IsClauseOf v.terms.nodes v.log.entries (λ p. p < suc (length v.log.entries)) c.args.id (option_copied c.clause.result)) c.self.view_is
    (board_clause c.self.inside.terms.now.nodes c.self.inside.log c.args.id (option_copied c.clause.result) c.self.invariant c.clause.ensures.clause)
