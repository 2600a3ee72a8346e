use Rattle.script_state.proofs.Applying.{applies_stray, applies_unfinished}
use Rattle.script_state.proofs.state.State.apply.Goals as goal

pub returns-in-Stray : goal.returns-in-Stray
returns-in-Stray c = applies_stray c.args.chunk.now c.args.self.now c.in-Stray.is

pub returns-in-Unfinished : goal.returns-in-Unfinished
returns-in-Unfinished c = applies_unfinished c.args.chunk.now c.args.self.now c.in-Unfinished.is
