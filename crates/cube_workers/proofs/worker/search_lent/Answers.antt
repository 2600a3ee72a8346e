use Rattle.std.proofs.Common.{sym, subst}
use Rattle.std.specs.Prelude.{IfOk}
use Rattle.std.proofs.lemmas.Result.{IfOk-weaker}
use Rattle.cnf_base.specs.Assignments.{AreBelow}
use Rattle.proof_log.specs.Logs.{state_of}
use Rattle.cube_search.specs.Holding.{NeedNoOther}
use Rattle.cube_search.specs.Running.{valuation_of}
use Rattle.cube_search.specs.Ends.{IsEnd}
use Rattle.hub_board.specs.Boards.{BoardValue, view_in, Knows, IsMoved}
use Rattle.cube_workers.specs.Workers.{problem_in, IsCubeEnd}
use Rattle.cube_workers.proofs.OnHub.{given_is_below, cube_ended}
use Rattle.cube_workers.proofs.worker.search_lent.Goals as goal

pub run-end-requires-clause-below : goal.run-end-requires-clause-below
run-end-requires-clause-below g c =
    subst (λ (v : BoardValue). AreBelow (state_of v.hist.law.nodes (view_in v).log).next c.args.given.now) (sym c.new-lent.ensures)
    (given_is_below c.args.board c.args.check.now c.args.cube c.args.given.now c.facts.ensures c.requires.open c.requires.given)

pub returns-clause-end : goal.returns-clause-end
returns-clause-end g c =
    let r = c.run-end.result in
    let s = c.args.search.now in
    let x = c.run-end.new.self in
    let k = c.args.check.now in
    let b' = c.run-end.new.board in
    let q = subst (λ (v : BoardValue). IfOk r (IsEnd (NeedNoOther (state_of v.hist.law.nodes (view_in v).log).clauses (view_in v).log s.opening.items s.from) (record { nodes = b'.hist.law.nodes; log = (view_in b').log; given = c.args.given.now; from = s.from }) (Knows b') (view_in b').found b'.news s.opening.items (valuation_of x) c.args.cube k.settings.budget)) c.new-lent.ensures c.run-end.ensures.end in
    let q' = subst (λ (v : BoardValue). IfOk r (IsEnd (NeedNoOther (state_of c.args.board.hist.law.nodes (view_in c.args.board).log).clauses (view_in c.args.board).log s.opening.items s.from) (record { nodes = v.hist.law.nodes; log = (view_in v).log; given = c.args.given.now; from = s.from }) (Knows v) (view_in v).found v.news s.opening.items (valuation_of x) c.args.cube k.settings.budget)) (sym c.into_board-board.ensures.same) q in
    IfOk-weaker r _ (IsCubeEnd (problem_in c.args.board.hist.law k) c.into_board-board.result (valuation_of x) c.args.cube)
    (λ e end. cube_ended c.args.board c.into_board-board.result k s.opening.items s.from c.args.cube c.args.given.now c.into_board-board.result.news (valuation_of x) e c.facts.ensures c.facts-2.ensures
    (subst (λ f. IsMoved f c.into_board-board.result) (sym c.requires.from) c.into_board-board.ensures.moved) c.requires.open c.requires.about.positions c.requires.about.from c.requires.given c.requires.cube end)
    q'
