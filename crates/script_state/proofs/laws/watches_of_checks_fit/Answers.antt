use Rattle.script_state.proofs.Deciding.{checks_fit}
use Rattle.script_state.proofs.laws.watches_of_checks_fit.Goals as goal

pub returns : goal.returns
returns c = checks_fit
