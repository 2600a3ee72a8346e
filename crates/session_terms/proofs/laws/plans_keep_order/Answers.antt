use Rattle.session_terms.proofs.Planned.{plan_in_order}
use Rattle.session_terms.proofs.laws.plans_keep_order.Goals as goal

pub returns : goal.returns
returns c = plan_in_order
