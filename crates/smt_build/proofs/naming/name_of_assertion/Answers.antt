use Rattle.std.proofs.Common.{sym, subst}
use Rattle.smt_syntax.specs.Sexps.{signs_in}
use Rattle.smt_syntax.specs.Spans.{AllStand}
use Rattle.smt_build.specs.Naming.{parts_of}
use Rattle.smt_build.proofs.Spellings.{at_span}
use Rattle.smt_build.proofs.naming.name_of_assertion.Goals as goal

pub returns : goal.returns
returns c = λ e h.
    c.annotated_name.ensures (parts_of e) (subst (λ ss. AllStand (signs_in c.tokens_at-items.result.now) ss (parts_of e)) (sym c.as_slice-2.ensures.value) (c.in_ok-spans.ensures e (at_span _ _ _ _ e c.as_slice.ensures c.tokens_at-items.ensures h)))
