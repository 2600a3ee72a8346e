use Rattle.std.proofs.Common.{take}
use Rattle.hub_core.specs.Standing.{IsHub}
use Rattle.hub_core.proofs.law.HubLaw.replay.Given as goal

abbrev pub invariant-loop-event : goal.invariant-loop-event
invariant-loop-event l = IsHub l.self l.state (take l.event-index l.events)
