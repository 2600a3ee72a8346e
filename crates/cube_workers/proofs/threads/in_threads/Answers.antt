use Rattle.std.proofs.Common.{rules, sym, subst}
use Rattle.std.specs.Prelude.{slice_index_or}
use Rattle.cube_workers.proofs.threads.in_threads.Goals as goal

pub returns-in-Ok-clause-each : goal.returns-in-Ok-clause-each
returns-in-Ok-clause-each g c = λ k d near.
    let job = (c.in-Ok.ensures.each k d near).1 in
    let call = job.call in
    subst (λ w. g.W.Work.has_worked w (slice_index_or c.in-Ok.worked.items k d)) (sym (job.job_is d)) (search (rules, call))
