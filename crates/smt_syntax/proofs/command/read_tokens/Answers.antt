use Rattle.std.proofs.Common.{◌∙◌, sym}
use Rattle.smt_syntax.proofs.CommandReadings.{too_deep, unknown, malformed, shown, built}
use Rattle.smt_syntax.proofs.command.read_tokens.Goals as goal

pub returns-then-is_too_deep : goal.returns-then-is_too_deep
returns-then-is_too_deep c = λ e s. too_deep _ e s _ c.is_too_deep.ensures c.if-is_too_deep.true

pub returns-in-None : goal.returns-in-None
returns-in-None c = λ e s. unknown _ e s _ c.is_too_deep.ensures c.if-is_too_deep.false (sym c.first_name.ensures ∙ c.in-None.is)

pub returns-then-not-branch : goal.returns-then-not-branch
returns-then-not-branch c = λ e s. malformed _ _ _ _ _ _ c.is_too_deep.ensures c.if-is_too_deep.false (sym c.first_name.ensures ∙ c.in-Some.is) c.in_ok-spans.ensures c.as_slice.ensures.value c.in_ok-is_formed.ensures e s c.if-not-branch.true

pub returns-in-Some-build : goal.returns-in-Some-build
returns-in-Some-build c = λ e s. shown _ _ _ _ _ _ c.is_too_deep.ensures c.if-is_too_deep.false (sym c.first_name.ensures ∙ c.in-Some.is) c.in_ok-spans.ensures c.as_slice.ensures.value c.in_ok-is_formed.ensures e s c.if-not-branch.false _ (rw c.as_slice-2.ensures.value at c.in-Some-build.ensures.shown)

pub returns : goal.returns
returns c = λ e s. absurd (built _ _ _ _ _ _ c.is_too_deep.ensures c.if-is_too_deep.false (sym c.first_name.ensures ∙ c.in-Some.is) c.in_ok-spans.ensures c.as_slice.ensures.value c.in_ok-is_formed.ensures e s c.if-not-branch.false (rw c.as_slice-2.ensures.value at c.in-None-build.ensures.none))
