use Rattle.std.proofs.Common.{◌<◌, suc, length, subst}
use Rattle.proof_log.specs.Boards.{LogBoardValue, IsLater}
use Rattle.proof_log.proofs.Growth.{board_later}
use Rattle.proof_log.proofs.board.LogBoardBoard.put.Goals as goal

pub returns-clause-later : goal.returns-clause-later
returns-clause-later c =
    subst
    (λ (v : LogBoardValue). IsLater v.terms.nodes c.self.inside.terms.now.nodes v.log.entries c.push.new.self.entries (λ p. p < suc (length v.log.entries)) (λ p. p < suc (length c.push.new.self.entries)))
    c.self.view_is
    (board_later c.self.inside.terms.now.nodes c.self.inside.log c.push.new.self c.args.entry c.push.result c.self.invariant c.requires.kind c.push.ensures.pushed c.push.ensures.err)
