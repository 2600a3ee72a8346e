use Rattle.std.proofs.Common.{drop, sym, ap, ◌∙◌, subst}
use Rattle.hub_board.specs.Chains.{AddChains}
use Rattle.hub_board.specs.Boards.{BoardValue}
use Rattle.hub_board.proofs.Filing.{chains_left}
use Rattle.hub_board.proofs.board.HubBoard.file.Goals as goal

pub file-requires : goal.file-requires
file-requires g c =
    subst AddChains (sym (c.requires ∙ ap (λ (b : BoardValue). drop b.table.filed b.pass.seen) (sym c.self.view_is)))
    (chains_left c.self.inside.table.filed c.self.inside.pass.seen c.self.invariant.chains)
