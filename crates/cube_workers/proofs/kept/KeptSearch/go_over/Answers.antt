use Rattle.std.proofs.Common.{arith}
use Rattle.cube_workers.proofs.Resting.{stored_below}
use Rattle.cube_workers.proofs.kept.KeptSearch.go_over.Goals as goal

pub retarget-requires-clause-stored : goal.retarget-requires-clause-stored
retarget-requires-clause-stored g c =
    stored_below _ _ c.make_room.new.self.search c.args.from c.requires.from (c.in_ok-make_room.ensures _ _ c.requires.resting)

pub retarget-requires-clause-from : goal.retarget-requires-clause-from
retarget-requires-clause-from g c = omega (arith, c.requires.from)
