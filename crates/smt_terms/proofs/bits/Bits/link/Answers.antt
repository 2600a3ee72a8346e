use Rattle.std.proofs.Common.{sym, ◌∙◌}
use Rattle.smt_terms.proofs.Spans.{no_span, some_span, shown_link, within_link}
use Rattle.smt_terms.proofs.bits.Bits.link.Goals as goal

pub unwrap-held-requires : goal.unwrap-held-requires
unwrap-held-requires c = rw (c.span_of.ensures, c.deref.ensures.value) (some_span _ _ _ _ c.self.view_is c.requires.held)

pub enter-requires-clause-new : goal.enter-requires-clause-new
enter-requires-clause-new c = no_span _ _ _ _ c.self.view_is c.requires.new

pub invariant_of-self-2 : goal.invariant_of-self-2
invariant_of-self-2 c = (c.enter.ensures.table, within_link _ _ _ c.args.term c.args.image c.unwrap-held.result c.self.invariant.1 (rw c.deref.ensures.value at (sym c.unwrap-held.ensures ∙ c.span_of.ensures)) c.in_ok-enter.ensures.ok)

pub returns-clause-ok : goal.returns-clause-ok
returns-clause-ok c = shown_link _ _ _ c.args.term c.args.image c.unwrap-held.result _ c.self.view_is (rw c.deref.ensures.value at (sym c.unwrap-held.ensures ∙ c.span_of.ensures)) c.in_ok-enter.ensures.ok
