use Rattle.std.proofs.Common.{List, ◌∙◌, sym, subst}
use Rattle.cnf_base.specs.declared.clause.ClauseId.{ClauseId}
use Rattle.proof_log.specs.declared.entry.Entry.TheVariants as step
use Rattle.proof_log.specs.Logs.{state_of, IsStep}
use Rattle.cube_search.specs.Running.{variables_in, given_in}
use Rattle.cube_search.proofs.Later.{closing_step}
use Rattle.cube_search.proofs.Steps.{running_board, put_closes}
use Rattle.cube_search.proofs.search.Search.close.Goals as goal

pub returns-in_err-clause-clause-later : goal.returns-in_err-clause-clause-later
returns-in_err-clause-clause-later g c = running_board c.args.self.now (g.B.Board.nodes c.args.board.now) (g.B.Board.log c.args.board.now) (g.B.Board.knows c.args.board.now) c.requires.running

pub returns-in_err-chain-clause-later : goal.returns-in_err-chain-clause-later
returns-in_err-chain-clause-later g c = running_board c.args.self.now (g.B.Board.nodes c.args.board.now) (g.B.Board.log c.args.board.now) (g.B.Board.knows c.args.board.now) c.requires.running

pub put-requires-clause-valid : goal.put-requires-clause-valid
put-requires-clause-valid g c =
    let s = c.args.self.now in
    let nodes = g.B.Board.nodes c.args.board.now in
    let log = g.B.Board.log c.args.board.now in
    subst (λ (h : List ClauseId). IsStep nodes (state_of nodes log) (step.Chain c.in_ok-clause.clause h)) (sym (c.in_ok-chain.ensures ∙ c.as_slice.ensures.value))
    (closing_step s.engine.watches (variables_in s) s.opening.items s.taken.items s.from s.seen nodes log c.requires.running.1 (given_in s) c.in_ok-clause.clause c.in_ok-clause.hints.items
    c.requires.running.3 (c.in_ok-clause.ensures.against s.engine.given.items c.requires.given) c.in_ok-clause.ensures.chain)

pub returns-clause-closing : goal.returns-clause-closing
returns-clause-closing g c =
    let s = c.args.self.now in
    put_closes (g.B.Board.nodes c.args.board.now) (g.B.Board.nodes c.put.new.self) (g.B.Board.log c.args.board.now) (g.B.Board.log c.put.new.self) (g.B.Board.knows c.args.board.now) (g.B.Board.knows c.put.new.self)
    (given_in s) c.in_ok-clause.clause c.in_ok-chain.chain c.put.result
    (c.in_ok-clause.ensures.against s.engine.given.items c.requires.given) c.put.ensures.put
