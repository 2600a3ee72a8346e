use Rattle.std.proofs.Common.{◌≡◌}
use Rattle.proof_log.specs.Boards.{Grows}
use Rattle.cube_workers.specs.Searched.{IsSearching, AreTried, problem_of}
use Rattle.cube_workers.proofs.alone.search_cubes.Given as goal

abbrev pub invariant-cubes : goal.invariant-cubes
invariant-cubes l = record {
  same : problem_of l.search l.board l.tree l.assumed l.budget ≡ problem_of l.fn.search l.fn.board l.tree l.assumed l.budget;
  grows : Grows l.fn.board.log.entries l.board.log.entries;
  searching : IsSearching l.search l.board l.tree l.assumed l.budget;
  tried : AreTried (problem_of l.search l.board l.tree l.assumed l.budget) l.board.log.entries l.cube l.tried.closed.items l.tried.spent;
}
