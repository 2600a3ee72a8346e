use Rattle.std.proofs.Common.{rules, ◌≡◌, ◌+◌, ◌<◌, length, subst}
use Rattle.std.specs.List.{AllByRecursion}
use Rattle.shared_history.specs.Events.{of_pass}
use Rattle.history_client.specs.Pools.{by_of}
use Rattle.history_client.proofs.Working.{of_one}
use Rattle.history_client.proofs.threads.run.Goals as goal

pub returns-then-done-clause-own : goal.returns-then-done-clause-own
returns-then-done-clause-own g c = λ k d near. of_one (λ p. of_pass by_of p.0 c.close-all.result ≡ p.1) _ _ (c.gather-done.ensures.ended c.if-done.true k d near) c.close-all.ensures.ended

pub returns-then-done-clause-below : goal.returns-then-done-clause-below
returns-then-done-clause-below g c =
    let made : c.gather-done.new.first.made ≡ length c.args.tasks.now + 1 = search rules in
    subst (λ n. AllByRecursion (λ e. by_of e < n) c.close-all.result) made (c.close-all.ensures.below (search rules))
