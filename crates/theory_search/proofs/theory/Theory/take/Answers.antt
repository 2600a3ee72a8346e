use Rattle.std.proofs.Common.{sym}
use Rattle.cube_search.proofs.Steps.{still_search}
use Rattle.theory_search.proofs.Grown.{adds_chains}
use Rattle.theory_search.proofs.Taken.{board_apart, board_separate, still_writing}
use Rattle.theory_search.proofs.theory.Theory.take.Goals as goal

pub take_steps-requires-clause-search : goal.take_steps-requires-clause-search
take_steps-requires-clause-search g c = still_search c.args.search.now (g.B.Board.nodes c.args.board.now) (g.B.Board.nodes c.sync.new.self) (g.B.Board.log c.args.board.now) (g.B.Board.log c.sync.new.self) (g.B.Board.knows c.args.board.now) (g.B.Board.knows c.sync.new.self) c.sync.ensures.later c.requires.search

pub returns-clause-apart : goal.returns-clause-apart
returns-clause-apart g c = λ log adds is h a.
    board_apart (g.B.Board.nodes c.args.board.now) (g.B.Board.nodes c.sync.new.self) (g.B.Board.log c.args.board.now) (g.B.Board.log c.sync.new.self) (g.B.Board.knows c.args.board.now) (g.B.Board.knows c.sync.new.self) c.sync.ensures.later c.args.self.now.variables c.args.self.now.next _ c.args.search.now c.take_steps.new.self
    c.in_ok-told.ensures.upto c.in_ok-take_steps.ensures.from c.in_ok-take_steps.ensures.longer c.in_ok-take_steps.ensures.only c.in_ok-take_steps.ensures.came c.in_ok-take_steps.ensures.all
    log adds _ is c.in_ok-ask_known_from.ensures h a

pub returns-clause-writing : goal.returns-clause-writing
returns-clause-writing g c = λ log adds is h a w.
    c.in_ok-take_steps.ensures.writing
    (still_writing c.args.search.now (g.B.Board.nodes c.args.board.now) (g.B.Board.nodes c.sync.new.self) (g.B.Board.log c.args.board.now) (g.B.Board.log c.sync.new.self) (sym c.sync.ensures.later.nodes) (adds_chains (g.B.Board.log c.args.board.now) (g.B.Board.log c.sync.new.self) c.sync.ensures.later.grows) c.sync.ensures.later.stands c.requires.search w)
    (board_separate (g.B.Board.nodes c.args.board.now) (g.B.Board.nodes c.sync.new.self) (g.B.Board.log c.args.board.now) (g.B.Board.log c.sync.new.self) (g.B.Board.knows c.args.board.now) (g.B.Board.knows c.sync.new.self) c.sync.ensures.later c.args.self.now.variables c.args.self.now.next _ c.args.search.now c.take_steps.new.self
    c.in_ok-told.ensures.upto c.in_ok-take_steps.ensures.from c.in_ok-take_steps.ensures.longer c.in_ok-take_steps.ensures.only c.in_ok-take_steps.ensures.came c.in_ok-take_steps.ensures.all
    log adds _ is c.in_ok-ask_known_from.ensures h a)
