use Rattle.std.proofs.Common.{◌<◌, suc, length, sym, subst}
use Rattle.proof_log.specs.Boards.{LogBoardValue}
use Rattle.proof_log.specs.LemmaBoards.{AreEqualsIn}
use Rattle.proof_log.proofs.Adding.{equals_shown}
use Rattle.proof_log.proofs.lemma_board.LogBoardLemmaBoard.equals.Goals as goal

pub returns : goal.returns
returns c =
    subst (λ (v : LogBoardValue). AreEqualsIn v.terms.nodes v.log.entries (λ p. p < suc (length v.log.entries)) c.equals.result.now) c.self.view_is
    (subst (AreEqualsIn c.self.inside.terms.now.nodes c.self.inside.log.entries (λ p. p < suc (length c.self.inside.log.entries))) (sym c.equals.ensures)
    (equals_shown c.self.inside.terms.now.nodes c.self.inside.log c.self.invariant))
