use Rattle.script_state.proofs.Asserting.{standing_state}
use Rattle.script_state.proofs.state.State.conclude.Goals as goal

pub invariant_of-self : goal.invariant_of-self
invariant_of-self c = (standing_state _ _ c.self.invariant.0, c.self.invariant.1)
