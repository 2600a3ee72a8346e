use Rattle.std.proofs.Common.{List, ◌∙◌, sym, subst}
use Rattle.cnf_base.specs.Literals.{Literal}
use Rattle.cnf_base.specs.declared.clause.ClauseId.{ClauseId}
use Rattle.proof_log.specs.declared.entry.Entry.TheVariants as step
use Rattle.proof_log.specs.Logs.{state_of, IsStep}
use Rattle.proof_log.specs.Boards.{IsPutAt}
use Rattle.cube_search.specs.Running.{variables_in}
use Rattle.cube_search.proofs.Later.{learnt_step}
use Rattle.cube_search.proofs.search.Search.learn.Goals as goal

pub put-requires-clause-valid : goal.put-requires-clause-valid
put-requires-clause-valid g c =
    let s = c.args.self.now in
    let nodes = g.B.Board.nodes c.args.board.now in
    let log = g.B.Board.log c.args.board.now in
    subst (λ (d : List Literal). IsStep nodes (state_of nodes log) (step.Chain d c.in_ok-chain.chain)) (sym c.in_ok-own.ensures)
    (subst (λ (h : List ClauseId). IsStep nodes (state_of nodes log) (step.Chain c.in_ok-clause.clause h)) (sym (c.in_ok-chain.ensures ∙ c.as_slice.ensures.value))
    (learnt_step s.engine.watches (variables_in s) s.opening.items s.taken.items s.from s.seen nodes log c.requires.running.1 c.in_ok-clause.clause c.in_ok-clause.hints.items
    c.in_ok-clause.ensures.good.stands c.in_ok-clause.ensures.chain))

pub returns-clause-learnt : goal.returns-clause-learnt
returns-clause-learnt g c =
    let old = g.B.Board.log c.args.board.now in
    let new = g.B.Board.log c.put.new.self in
    record {
      hints = c.in_ok-clause.hints.items;
      put = subst (λ (d : List Literal). IsPutAt old (step.Chain d c.in_ok-clause.hints.items) c.in_ok-at.at new) c.in_ok-own.ensures
          (subst (λ (h : List ClauseId). IsPutAt old (step.Chain c.in_ok-own.own h) c.in_ok-at.at new) (c.in_ok-chain.ensures ∙ c.as_slice.ensures.value) c.in_ok-at.ensures.put);
      good = c.in_ok-clause.ensures.good;
      among = c.in_ok-clause.ensures.among;
      lower = c.in_ok-clause.ensures.lower;
      unit = c.in_ok-clause.ensures.unit;
    }
