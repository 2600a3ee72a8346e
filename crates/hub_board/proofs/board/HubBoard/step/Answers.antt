use Rattle.std.proofs.Common.{subst}
use Rattle.hub_board.specs.Boards.{IsBoard}
use Rattle.hub_board.proofs.Seen.{board_stepped}
use Rattle.hub_board.proofs.board.HubBoard.step.Goals as goal

pub invariant_of-self : goal.invariant_of-self
invariant_of-self g c =
    board_stepped (record { hist = c.self.inside.hist.now; pass = c.self.inside.pass; table = c.self.inside.table; news = c.self.inside.news }) c.step-reply.new.pass c.args.call
    c.step-reply.result c.self.invariant c.step-reply.ensures.own.0 c.facts.ensures.mine c.step-reply.ensures.step c.step-reply.ensures.stands

pub returns-clause-board : goal.returns-clause-board
returns-clause-board g c = (
  subst IsBoard c.self.view_is c.self.invariant,
  board_stepped (record { hist = c.self.inside.hist.now; pass = c.self.inside.pass; table = c.self.inside.table; news = c.self.inside.news }) c.step-reply.new.pass c.args.call
      c.step-reply.result c.self.invariant c.step-reply.ensures.own.0 c.facts.ensures.mine c.step-reply.ensures.step c.step-reply.ensures.stands,
)
