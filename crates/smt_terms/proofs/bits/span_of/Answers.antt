use Rattle.std.proofs.Common.{◌∙◌}
use Rattle.smt_terms.proofs.Spans.{span_found, span_none}
use Rattle.smt_terms.proofs.bits.span_of.Goals as goal

pub returns-in-Some : goal.returns-in-Some
returns-in-Some c = c.span_at.ensures ∙ span_found _ _ _ _ c.requires c.in-Some.ensures

pub returns-in-None : goal.returns-in-None
returns-in-None c = span_none _ _ _ c.requires c.in-None.ensures
