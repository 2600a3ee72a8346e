use Rattle.script_state.proofs.Asserting.{declared_state}
use Rattle.script_state.proofs.state.State.declare.Goals as goal

pub invariant_of-self : goal.invariant_of-self
invariant_of-self c = (declared_state _ _ _ _ _ (c.in-Ok.ensures c.requires.0 c.requires.1) c.self.invariant.0, c.self.invariant.1)
