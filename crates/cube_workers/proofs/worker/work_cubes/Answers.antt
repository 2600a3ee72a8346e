use Rattle.std.proofs.Common.{subst}
use Rattle.std.specs.Prelude.{MatchOption}
use Rattle.hub_board.specs.Boards.{told}
use Rattle.hub_board.specs.Cubes.{IsIdle}
use Rattle.cube_workers.specs.Workers.{problem_in, IsAbout, IsQuiet, IsSpentBy, IsReached, RestsAfter}
use Rattle.cube_workers.proofs.Telling.{on_then, rest_again}
use Rattle.cube_workers.proofs.worker.work_cubes.Goals as goal

pub returns-in-Some-clause-on : goal.returns-in-Some-clause-on
returns-in-Some-clause-on g c = on_then c.args.board c.cubes.board c.one_cube-back.result.0 c.cubes.invariant.0 c.one_cube-back.ensures.on

pub cubes-preserved : goal.cubes-preserved
cubes-preserved g c =
    let b = c.cubes.board in
    let b' = c.one_cube-back.result.0 in
    let low = c.one_cube-back.result.1 in
    let s = c.one_cube-back.new.search in
    let p = problem_in b.hist.law c.args.check.now in (
      on_then c.args.board b b' c.cubes.invariant.0 c.one_cube-back.ensures.on,
      rest_again c.args.check.now b b' s low c.one_cube-back.ensures.on
          (subst (λ o. MatchOption o (IsAbout s b' p × (IsIdle b' × IsQuiet (told b'.pass.mine) × IsSpentBy p b' low)) (λ r. IsReached p b' low s r × RestsAfter b' s r)) c.in_default.is c.one_cube-back.ensures.reached),
    )
