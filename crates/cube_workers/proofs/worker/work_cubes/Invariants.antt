use Rattle.hub_board.specs.Cubes.{IsOn}
use Rattle.cube_workers.proofs.Telling.{AreResting}
use Rattle.cube_workers.proofs.worker.work_cubes.Given as goal

abbrev pub invariant-cubes : goal.invariant-cubes
invariant-cubes g l = IsOn l.fn.board l.board × AreResting l.check l.board l.search l.spent
