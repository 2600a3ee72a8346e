use Rattle.std.proofs.Common.{◌≡◌, ◌++◌, sym, ap, ◌∙◌, subst}
use Rattle.std.proofs.lemmas.Result.{IfOk-weaker, on_ok_weaker}
use Rattle.cnf_base.specs.Assignments.{AreBelow}
use Rattle.proof_log.specs.Logs.{state_of}
use Rattle.cube_tree.specs.Cubes.{cube_of}
use Rattle.cube_search.specs.Running.{valuation_of}
use Rattle.cube_workers.specs.Searched.{IsEndOf, problem_of}
use Rattle.cube_workers.proofs.Cubes.{given_below_next, no_other}
use Rattle.cube_workers.proofs.CubeEnds.{still_searching, later_problem, ended}
use Rattle.cube_workers.proofs.alone.search_cube.Goals as goal

pub run-requires-clause-below : goal.run-requires-clause-below
run-requires-clause-below c =
    let literals : c.as_slice.result.now ≡ cube_of c.args.tree.now c.args.cube ++ c.args.assumed.now =
    c.as_slice.ensures.value ∙ c.in_ok-extend_from_slice.ensures.items ∙ ap (λ xs. xs ++ c.args.assumed.now) (c.in_ok-given.ensures.items ∙ c.cube.ensures) in
    subst (AreBelow (state_of c.args.board.now.terms.nodes c.args.board.now.log.entries).next) (sym literals)
    (given_below_next (problem_of c.args.search.now c.args.board.now c.args.tree.now c.args.assumed.now c.args.budget) c.args.board.now.log.entries c.args.cube c.requires.searching.problem)

pub returns-clause-searching : goal.returns-clause-searching
returns-clause-searching c =
    on_ok_weaker c.run.result
    (still_searching c.args.search.now c.run.new.self c.args.board.now c.run.new.board _ _ c.args.tree.now c.args.assumed.now c.args.budget c.run.ensures.later c.run.ensures.opening c.run.ensures.from c.requires.searching)
    c.run.ensures.search

pub returns-clause-end : goal.returns-clause-end
returns-clause-end c =
    let literals : c.as_slice.result.now ≡ cube_of c.args.tree.now c.args.cube ++ c.args.assumed.now =
    c.as_slice.ensures.value ∙ c.in_ok-extend_from_slice.ensures.items ∙ ap (λ xs. xs ++ c.args.assumed.now) (c.in_ok-given.ensures.items ∙ c.cube.ensures) in
    let problem = later_problem c.args.search.now c.run.new.self c.args.board.now c.run.new.board _ _ c.args.tree.now c.args.assumed.now c.args.budget c.run.ensures.later c.run.ensures.opening c.run.ensures.from c.requires.searching.problem in
    IfOk-weaker c.run.result _ (IsEndOf (problem_of c.run.new.self c.run.new.board c.args.tree.now c.args.assumed.now c.args.budget) c.run.new.board.log.entries (valuation_of c.run.new.self) c.args.cube)
    (λ e. ended c.args.search.now c.run.new.self c.args.board.now c.run.new.board _ _ c.args.tree.now c.args.assumed.now c.args.budget c.run.ensures.later c.run.ensures.opening c.run.ensures.from
    _ _ _ (valuation_of c.run.new.self) c.args.cube c.as_slice.result.now e literals problem (no_other _ _ c.requires.searching.problem) c.requires.cube)
    c.run.ensures.end
