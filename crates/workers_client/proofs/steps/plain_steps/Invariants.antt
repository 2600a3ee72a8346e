use Rattle.workers_client.specs.Asking.{ArePlainBelow}
use Rattle.workers_client.proofs.steps.plain_steps.Given as goal

abbrev pub invariant-steps : goal.invariant-steps
invariant-steps l = ArePlainBelow l.log.entries l.positions.items l.at
