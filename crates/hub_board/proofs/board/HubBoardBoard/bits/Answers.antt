use Rattle.std.proofs.Common.{ap, ◌∙◌, subst}
use Rattle.proof_log.specs.Logs.{IsLog}
use Rattle.proof_log.specs.Boards.{AreBitsIn, AreImagesIn}
use Rattle.hub_board.specs.Boards.{BoardValue, view_in}
use Rattle.hub_board.proofs.Seen.{shown_bits, shown_images, board_log}
use Rattle.hub_board.proofs.board.HubBoardBoard.bits.Goals as goal

pub returns-clause-bits : goal.returns-clause-bits
returns-clause-bits g c =
    let b : BoardValue = record { hist = c.self.inside.hist.now; pass = c.self.inside.pass; table = c.self.inside.table; news = c.self.inside.news } in
    subst (λ (v : BoardValue). AreBitsIn v.hist.law.nodes (view_in v).log c.bits.result.now) c.self.view_is
    (shown_bits b c.bits.result.now c.self.invariant (c.bits.ensures ∙ ap (λ l. l.bits) c.log.ensures.log ∙ ap (λ l. l.log.bits) c.law.ensures))

pub returns-clause-images : goal.returns-clause-images
returns-clause-images g c =
    let b : BoardValue = record { hist = c.self.inside.hist.now; pass = c.self.inside.pass; table = c.self.inside.table; news = c.self.inside.news } in
    subst (λ (v : BoardValue). AreImagesIn v.hist.law.nodes (view_in v).log c.bits.result.now) c.self.view_is
    (shown_images b c.bits.result.now c.self.invariant (c.bits.ensures ∙ ap (λ l. l.bits) c.log.ensures.log ∙ ap (λ l. l.log.bits) c.law.ensures))

pub returns-clause-stands : goal.returns-clause-stands
returns-clause-stands g c =
    let b : BoardValue = record { hist = c.self.inside.hist.now; pass = c.self.inside.pass; table = c.self.inside.table; news = c.self.inside.news } in
    subst (λ (v : BoardValue). IsLog v.hist.law.nodes (view_in v).log) c.self.view_is (board_log b c.self.invariant)
