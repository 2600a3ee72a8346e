use Rattle.std.proofs.Common.{subst}
use Rattle.hub_board.specs.Boards.{IsBoard}
use Rattle.hub_board.proofs.Seen.{board_read}
use Rattle.hub_board.proofs.board.HubBoard.pull.Goals as goal

pub invariant_of-self : goal.invariant_of-self
invariant_of-self g c =
    board_read (record { hist = c.self.inside.hist.now; pass = c.self.inside.pass; table = c.self.inside.table; news = c.self.inside.news }) c.read-read.new.pass
    c.read-read.result c.self.invariant c.read-read.ensures.own.0 c.facts.ensures.mine c.read-read.ensures.read c.read-read.ensures.stands

pub returns-clause-board : goal.returns-clause-board
returns-clause-board g c = (
  subst IsBoard c.self.view_is c.self.invariant,
  board_read (record { hist = c.self.inside.hist.now; pass = c.self.inside.pass; table = c.self.inside.table; news = c.self.inside.news }) c.read-read.new.pass
      c.read-read.result c.self.invariant c.read-read.ensures.own.0 c.facts.ensures.mine c.read-read.ensures.read c.read-read.ensures.stands,
)
