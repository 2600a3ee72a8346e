use Rattle.script_state.proofs.Leveling.{first_state}
use Rattle.script_state.proofs.Marking.{plain_none}
use Rattle.script_state.proofs.state.State.new.Goals as goal

pub invariant_of-result : goal.invariant_of-result
invariant_of-result c = rw (c.new.ensures, c.new-2.ensures, c.new-3.ensures, c.first.ensures, c.new-4.ensures.items) (first_state, plain_none _)
