use Rattle.std.proofs.Common.{◌≡◌}
use Rattle.proof_log.specs.LemmaBoards.{Adds}
use Rattle.theory_cubes.specs.Searched.{IsSearching, AreTried, problem}
use Rattle.theory_cubes.proofs.solving.search_cubes.Given as goal

abbrev pub invariant-cubes : goal.invariant-cubes
invariant-cubes l = record {
  nodes : l.board.terms.nodes ≡ l.fn.board.terms.nodes;
  adds : Adds l.fn.board.log.entries l.board.log.entries;
  searching : IsSearching (problem l.board.terms.nodes l.from l.check) l.search l.theory l.board;
  tried : AreTried (problem l.board.terms.nodes l.from l.check) l.board.log.entries l.cube l.tried.closed.items l.tried.spent;
}
