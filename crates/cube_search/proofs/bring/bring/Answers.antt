use Rattle.proof_log.specs.Logs.{state_of}
use Rattle.cube_search.proofs.Filling.{brought_same}
use Rattle.cube_search.proofs.bring.bring.Goals as goal

pub returns-clause-brought : goal.returns-clause-brought
returns-clause-brought g c = λ sound.
    brought_same c.args.engine.now.watches c.hold_position.new.engine.watches c.propagate-conflict.new.self.watches (state_of (g.B.Board.nodes c.args.board.now) (g.B.Board.log c.args.board.now)).clauses
    c.args.engine.now.agenda.list c.hold_position.new.engine.agenda.list c.propagate-conflict.new.self.agenda.list c.args.pos
    c.propagate-conflict.ensures.store c.propagate-conflict.ensures.task.listed (c.in_ok-hold_position.ensures.brought sound)
