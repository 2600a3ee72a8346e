use Rattle.session_terms.proofs.Back as back
use Rattle.session_terms.proofs.laws.selects_lead_back_no_more.Goals as goal

pub returns : goal.returns
returns c = λ nodes log list different stands h. back.selects_lead_back_no_more nodes list different log stands h
