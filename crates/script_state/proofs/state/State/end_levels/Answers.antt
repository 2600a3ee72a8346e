use Rattle.script_state.proofs.Leveling.{ended_state}
use Rattle.script_state.proofs.state.State.end_levels.Goals as goal

pub invariant_of-self-2 : goal.invariant_of-self-2
invariant_of-self-2 c = (rw c.pop-2.ensures (ended_state _ _ _ c.self.invariant.0 _ _ c.in-Ok.ensures.ok), c.self.invariant.1)
