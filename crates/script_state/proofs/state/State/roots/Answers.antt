use Rattle.script_state.proofs.Roots.{roots_held}
use Rattle.script_state.proofs.state.State.roots.Goals as goal

pub returns-clause-held : goal.returns-clause-held
returns-clause-held c = roots_held c.args.self.now c.assumptions.ensures.state _ (rw (c.live.ensures.live, c.assumptions.ensures.assumptions) at c.in_ok-found.ensures)
