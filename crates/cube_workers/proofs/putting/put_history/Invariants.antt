use Rattle.std.specs.Prelude.{take}
use Rattle.proof_log.specs.Stored.{Stands}
use Rattle.cube_workers.specs.Histories.{IsMadeBy}
use Rattle.cube_workers.proofs.putting.put_history.Given as goal

abbrev pub invariant-events : goal.invariant-events
invariant-events l = Stands l.terms.nodes l.log × IsMadeBy (take l.at l.events) l.fn.log.entries l.log.entries
