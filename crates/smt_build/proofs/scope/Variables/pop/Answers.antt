use Rattle.std.proofs.Common.{None}
use Rattle.smt_build.proofs.Places.{places_pop, present}
use Rattle.smt_build.proofs.scope.Variables.pop.Goals as goal

pub invariant_of-self-in-Ok : goal.invariant_of-self-in-Ok
invariant_of-self-in-Ok c = places_pop _ _ c.in-Some.variable _ _ _ c.self.invariant c.in-Some.ensures.items c.in-Some-hidden.is c.in-Ok.ensures.updates.0

pub invariant_of-self-in-Err : goal.invariant_of-self-in-Err
invariant_of-self-in-Err c = absurd (present _ _ c.in-Some.variable _ c.self.invariant c.in-Some.ensures.items c.in-Err.ensures.absent)

pub invariant_of-self-in-None : goal.invariant_of-self-in-None
invariant_of-self-in-None c = places_pop _ _ c.in-Some.variable _ _ None c.self.invariant c.in-Some.ensures.items c.in-None.is c.swap_remove.ensures.updates.0
