use Rattle.std.proofs.Common.{◌≡◌, ◌+◌, ◌^◌, length, refl, ◌∙◌, subst, arith}
use Rattle.std.specs.Prelude.{MatchBool}
use Rattle.proof_log.proofs.Growth.{grows_same, grows_then}
use Rattle.cube_search.specs.Running.{valuation_of}
use Rattle.cube_workers.specs.Searched.{IsModelOf, AreTried, problem_of}
use Rattle.cube_workers.proofs.Cubes.{tried_later}
use Rattle.cube_workers.proofs.alone.search_cubes.Goals as goal

pub cubes-init : goal.cubes-init
cubes-init c = record {
  same = refl;
  grows = grows_same c.args.board.now.log.entries;
  searching = c.requires.searching;
  tried = c.requires.tried (problem_of c.args.search.now c.args.board.now c.args.tree.now c.args.assumed.now c.args.budget) c.args.board.now.log.entries;
}

pub returns-in_err-end-clause-grows : goal.returns-in_err-end-clause-grows
returns-in_err-end-clause-grows c = grows_then c.args.board.now.log.entries c.cubes.board.log.entries c.search_cube.new.board.log.entries c.cubes.invariant.grows c.in_err-end.ensures.grows

pub returns-in_err-found-clause-grows : goal.returns-in_err-found-clause-grows
returns-in_err-found-clause-grows c = grows_then c.args.board.now.log.entries c.cubes.board.log.entries c.search_cube.new.board.log.entries c.cubes.invariant.grows c.in_ok-end.ensures.grows

pub returns-then-found-clause-grows : goal.returns-then-found-clause-grows
returns-then-found-clause-grows c = grows_then c.args.board.now.log.entries c.cubes.board.log.entries c.search_cube.new.board.log.entries c.cubes.invariant.grows c.in_ok-end.ensures.grows

pub returns-then-found-clause-tried : goal.returns-then-found-clause-tried
returns-then-found-clause-tried c =
    let p = problem_of c.search_cube.new.search c.search_cube.new.board c.args.tree.now c.args.assumed.now c.args.budget in
    let log = c.search_cube.new.board.log.entries in
    let tried = tried_later (problem_of c.cubes.search c.cubes.board c.args.tree.now c.args.assumed.now c.args.budget) p c.cubes.board.log.entries log c.cubes.cube c.cubes.tried.closed.items c.cubes.tried.spent c.in_ok-end.ensures.same c.in_ok-end.ensures.grows c.cubes.invariant.tried in
    subst (λ b. MatchBool b (IsModelOf p log (valuation_of c.search_cube.new.search)) (AreTried p log (c.cubes.cube + 1) c.add.new.self.closed.items c.add.new.self.spent)) c.if-found.true
    (c.in_ok-found.ensures p log (valuation_of c.search_cube.new.search) c.cubes.cube tried c.in_ok-end.ensures.end)

pub cubes-preserved : goal.cubes-preserved
cubes-preserved c =
    let p = problem_of c.search_cube.new.search c.search_cube.new.board c.args.tree.now c.args.assumed.now c.args.budget in
    let log = c.search_cube.new.board.log.entries in
    let tried = tried_later (problem_of c.cubes.search c.cubes.board c.args.tree.now c.args.assumed.now c.args.budget) p c.cubes.board.log.entries log c.cubes.cube c.cubes.tried.closed.items c.cubes.tried.spent c.in_ok-end.ensures.same c.in_ok-end.ensures.grows c.cubes.invariant.tried in
    record {
      same = c.in_ok-end.ensures.same ∙ c.cubes.invariant.same;
      grows = grows_then c.args.board.now.log.entries c.cubes.board.log.entries c.search_cube.new.board.log.entries c.cubes.invariant.grows c.in_ok-end.ensures.grows;
      searching = c.in_ok-end.ensures.searching;
      tried =
          subst (λ b. MatchBool b (IsModelOf p log (valuation_of c.search_cube.new.search)) (AreTried p log (c.cubes.cube + 1) c.add.new.self.closed.items c.add.new.self.spent)) c.if-found.false
          (c.in_ok-found.ensures p log (valuation_of c.search_cube.new.search) c.cubes.cube tried c.in_ok-end.ensures.end);
    }

pub returns-clause-tried : goal.returns-clause-tried
returns-clause-tried c =
    let count = c.leaves-cube-end.ensures.count in
    let last = c.cubes-test.false in
    let within = c.cubes.auto.cube-end in
    let all : c.cubes.cube ≡ 2 ^ length c.args.tree.now = omega (arith, count, last, within) in
    subst (λ n. AreTried (problem_of c.cubes.search c.cubes.board c.args.tree.now c.args.assumed.now c.args.budget) c.cubes.board.log.entries n c.cubes.tried.closed.items c.cubes.tried.spent) all c.cubes.invariant.tried
