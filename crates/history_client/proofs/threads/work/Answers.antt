use Rattle.std.proofs.Common.{rules}
use Rattle.history_client.proofs.Working.{worked_each}
use Rattle.history_client.proofs.threads.work.Goals as goal

pub returns-in-Ok : goal.returns-in-Ok
returns-in-Ok g c = (
  search rules,
  worked_each c.args.hist.now c.args.tasks.now c.args.workers.items c.in-Ok.worked.items (search rules) c.requires.1 (λ k d w near.
      let job = (c.in-Ok.ensures.each k w near).1 in
      let call = job.call in
      (job.job, job.job_is d, search (rules, call))),
)
