use Rattle.smt_build.proofs.Longer.{term_is_held}
use Rattle.script_state.proofs.asked.ask_one.Goals as goal

pub object-requires : goal.object-requires
object-requires c = term_is_held _ _ _ _ _ c.requires.bodies (c.in-Ok.ensures.term c.requires.stands.0 c.requires.stands.1)
