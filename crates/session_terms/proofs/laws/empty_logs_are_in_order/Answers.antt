use Rattle.session_terms.proofs.Bare.{empty_in_order}
use Rattle.session_terms.proofs.laws.empty_logs_are_in_order.Goals as goal

pub returns : goal.returns
returns c = empty_in_order
