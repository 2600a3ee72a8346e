use Rattle.std.proofs.Common.{◌<◌, suc, length, subst}
use Rattle.proof_log.specs.Boards.{LogBoardValue, IsLater}
use Rattle.proof_log.proofs.Growth.{board_same}
use Rattle.proof_log.proofs.board.LogBoardBoard.sync.Goals as goal

pub returns-clause-later : goal.returns-clause-later
returns-clause-later c =
    subst
    (λ (v : LogBoardValue). IsLater v.terms.nodes c.self.inside.terms.now.nodes v.log.entries c.self.inside.log.entries (λ p. p < suc (length v.log.entries)) (λ p. p < suc (length c.self.inside.log.entries)))
    c.self.view_is
    (board_same c.self.inside.terms.now.nodes c.self.inside.log c.self.invariant)
