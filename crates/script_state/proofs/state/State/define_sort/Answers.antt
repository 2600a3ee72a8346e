use Rattle.script_state.proofs.Asserting.{named_state}
use Rattle.script_state.proofs.state.State.define_sort.Goals as goal

pub invariant_of-self : goal.invariant_of-self
invariant_of-self c = (named_state _ _ _ _ (c.in-Ok.ensures.defines c.requires.0 c.requires.1) c.self.invariant.0, c.self.invariant.1)
