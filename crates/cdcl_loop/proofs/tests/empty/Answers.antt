use Rattle.std.proofs.Common.{◌≡◌, [], arith}
use Rattle.cdcl_core.specs.declared.trail.Trail.{Trail}
use Rattle.cdcl_core.specs.declared.watches.Watches.{Watches}
use Rattle.cdcl_core.specs.Search.{literals_of}
use Rattle.cdcl_core.specs.State.{IsSettled}
use Rattle.cdcl_loop.specs.Engines.{IsTrailOf}
use Rattle.cdcl_loop.proofs.tests.empty.Goals as goal

empty_trail : (w : Watches) (t : Trail) → IsSettled w t → literals_of t ≡ [] → IsTrailOf w t
empty_trail w t s e = record {
  settled = s;
  decided = rw e (λ i k lt low none. absurd (omega (arith, lt)));
  raised = rw e (λ i lt none. absurd (omega (arith, lt)));
}

pub returns-clause-engine : goal.returns-clause-engine
returns-clause-engine c =
    rw (c.new-2.ensures.watches, c.new-2.ensures.trail)
    (empty_trail c.in_ok-watches.watches c.new-trail.result (c.in_ok-watches.ensures.settled c.new-trail.result c.new-trail.ensures.new) c.new-trail.ensures.literals)
