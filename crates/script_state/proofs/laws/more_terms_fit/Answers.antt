use Rattle.script_state.proofs.Keeping.{fit_more}
use Rattle.script_state.proofs.laws.more_terms_fit.Goals as goal

pub returns : goal.returns
returns c = fit_more
