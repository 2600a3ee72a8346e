use Rattle.session_terms.proofs.Placing.{is_complete, never_leads_back}
use Rattle.session_terms.proofs.Planned.{bare_free}
use Rattle.session_terms.proofs.laws.order_is_complete.Goals as goal

pub returns : goal.returns
returns c = λ nodes log list stands h. (is_complete nodes log.bits h, never_leads_back nodes log.bits h list (bare_free nodes log list stands))
