use Rattle.std.proofs.Common.{rules, subst}
use Rattle.history_client.specs.Work.{Each, HasWorked}
use Rattle.history_client.proofs.Working.{each_fewer, gathered}
use Rattle.history_client.proofs.threads.gather.Goals as goal

pub loop-worker-preserved : goal.loop-worker-preserved
loop-worker-preserved c =
    let P = HasWorked c.args.hist.now in let i = c.loop-worker.invariant in let w = c.in-Some.worker in let left = c.pop.new.self.items in (
      search rules,
      search rules,
      search rules,
      search rules,
      search rules,
      each_fewer P c.args.tasks.now left w (subst (Each P c.args.tasks.now) c.in-Some.ensures.items i.5),
      gathered c.args.hist.now c.args.tasks.now c.loop-worker.workers.items left w _ _ c.loop-worker.done c.loop-worker.first.ended c.merge.new.pass.ended c.in-Some.ensures.items (search rules) (search rules) i.5 c.merge.ensures.ended i.6,
    )
