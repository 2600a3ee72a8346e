use Rattle.std.proofs.Common.{◌≡◌, ◌++◌, sym, ap, ◌∙◌, subst}
use Rattle.cnf_base.specs.Assignments.{AreBelow}
use Rattle.proof_log.specs.Logs.{state_of}
use Rattle.cube_tree.specs.Cubes.{cube_of}
use Rattle.cube_search.specs.Running.{valuation_of}
use Rattle.theory_cubes.specs.Searched.{problem}
use Rattle.theory_cubes.proofs.Cubes.{given_below}
use Rattle.theory_cubes.proofs.CubeEnds.{still_searching, ended}
use Rattle.theory_cubes.proofs.solving.search_cube.Goals as goal

pub run-requires-clause-below : goal.run-requires-clause-below
run-requires-clause-below c =
    let literals : c.as_slice.result.now ≡ cube_of c.args.check.now.tree.now c.args.cube ++ c.args.check.now.assumed.now =
    c.as_slice.ensures.value ∙ c.in_ok-extend_from_slice.ensures.items ∙ ap (λ xs. xs ++ c.args.check.now.assumed.now) (c.in_ok-given.ensures.items ∙ c.cube.ensures) in
    subst (AreBelow (state_of c.args.board.now.terms.nodes c.args.board.now.log.entries).next) (sym literals)
    (given_below (problem c.args.board.now.terms.nodes c.args.from c.args.check.now) (state_of c.args.board.now.terms.nodes c.args.board.now.log.entries).next c.args.cube c.requires.searching.variables c.requires.searching.assumed)

pub returns-clause-searching : goal.returns-clause-searching
returns-clause-searching c =
    still_searching c.args.board.now.terms.nodes c.run.new.board.terms.nodes c.args.from c.args.check.now c.args.search.now c.run.new.search c.args.theory.now c.run.new.self c.args.board.now c.run.new.board _ _
    c.run.ensures.later c.run.ensures.live c.requires.searching c.in_ok-end.ensures.kept

pub returns-clause-end : goal.returns-clause-end
returns-clause-end c =
    let literals : c.as_slice.result.now ≡ cube_of c.args.check.now.tree.now c.args.cube ++ c.args.check.now.assumed.now =
    c.as_slice.ensures.value ∙ c.in_ok-extend_from_slice.ensures.items ∙ ap (λ xs. xs ++ c.args.check.now.assumed.now) (c.in_ok-given.ensures.items ∙ c.cube.ensures) in
    let now = still_searching c.args.board.now.terms.nodes c.run.new.board.terms.nodes c.args.from c.args.check.now c.args.search.now c.run.new.search c.args.theory.now c.run.new.self c.args.board.now c.run.new.board _ _
    c.run.ensures.later c.run.ensures.live c.requires.searching c.in_ok-end.ensures.kept in
    ended (problem c.run.new.board.terms.nodes c.args.from c.args.check.now) c.run.new.board.log.entries _ _ _ c.run.new.search.opening.items c.args.theory.now.live.items (valuation_of c.run.new.search) c.args.cube c.args.search.now.from c.as_slice.result.now c.in_ok-end.end c.started_at.result
    c.requires.searching.apart now.longer now.within c.requires.cube literals c.requires.searching.from c.requires.searching.live c.started_at.ensures c.in_ok-end.ensures.end
