use Rattle.std.proofs.Common.{ap, ◌∙◌, subst}
use Rattle.smt_terms.specs.Bits.{bits_in, image_in}
use Rattle.proof_log.specs.Logs.{IsLog}
use Rattle.proof_log.specs.Boards.{LogBoardValue, AreBitsIn, AreImagesIn}
use Rattle.proof_log.proofs.Growth.{board_stands}
use Rattle.proof_log.proofs.Standing.{stands_over}
use Rattle.proof_log.proofs.board.LogBoardBoard.bits.Goals as goal

pub returns-clause-bits : goal.returns-clause-bits
returns-clause-bits c =
    subst (λ (v : LogBoardValue). AreBitsIn v.terms.nodes v.log.entries c.bits.result.now) c.self.view_is
    (λ t. ap (λ b. bits_in b t) c.bits.ensures ∙ (stands_over c.self.inside.terms.now.nodes c.self.inside.log c.self.invariant).bits t)

pub returns-clause-images : goal.returns-clause-images
returns-clause-images c =
    subst (λ (v : LogBoardValue). AreImagesIn v.terms.nodes v.log.entries c.bits.result.now) c.self.view_is
    (λ t. ap (λ b. image_in b t) c.bits.ensures ∙ (stands_over c.self.inside.terms.now.nodes c.self.inside.log c.self.invariant).images t)

pub returns-clause-stands : goal.returns-clause-stands
returns-clause-stands c =
    subst (λ (v : LogBoardValue). IsLog v.terms.nodes v.log.entries) c.self.view_is (board_stands c.self.inside.terms.now.nodes c.self.inside.log c.self.invariant)
