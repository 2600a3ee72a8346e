use Rattle.script_state.proofs.Roots.{all_scripted}
use Rattle.script_state.proofs.laws.roots_have_no_witness.Goals as goal

pub returns : goal.returns
returns c = all_scripted
