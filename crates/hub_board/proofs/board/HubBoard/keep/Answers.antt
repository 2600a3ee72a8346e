use Rattle.std.proofs.Common.{◌-◌, suc, length, inl, inr, ⊎_elim, ap, ◌∙◌, subst}
use Rattle.hub_board.specs.Filing.{IsThere}
use Rattle.hub_board.specs.Boards.{BoardValue, base_of}
use Rattle.hub_board.proofs.board.HubBoard.keep.Goals as goal

pub returns-clause-only : goal.returns-clause-only
returns-clause-only g c = λ i k.
    let base = c.len-base.ensures ∙ ap (λ l. suc (length l.entries)) (c.log.ensures.log ∙ ap (λ l. l.log) c.law.ensures) ∙ ap base_of c.self.view_is in
    ⊎_elim
    (λ was. inl (subst (λ (v : BoardValue). IsThere v.table.rows.items i) c.self.view_is was))
    (λ here. inr (here ∙ ap (λ n. c.args.at - n) base))
    (c.set.ensures.only i k)
