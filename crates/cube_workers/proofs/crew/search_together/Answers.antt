use Rattle.cube_workers.proofs.Starting.{all_ended}
use Rattle.cube_workers.proofs.crew.search_together.Goals as goal

pub gather-requires-clause-workers : goal.gather-requires-clause-workers
gather-requires-clause-workers g c = all_ended c.args.hist.now c.args.check.now c.in-Ok.workers.items c.in-Ok-in_threads.workers.items c.in-Ok-in_threads.ensures.count c.in-Ok.ensures.workers c.in-Ok-in_threads.ensures.each
