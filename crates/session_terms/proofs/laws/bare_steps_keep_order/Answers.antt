use Rattle.session_terms.proofs.Bare.{bare_in_order}
use Rattle.session_terms.proofs.laws.bare_steps_keep_order.Goals as goal

pub returns : goal.returns
returns c = bare_in_order
