use Rattle.std.proofs.Common.{inl, inr, arith}
use Rattle.cdcl_core.proofs.Counting.{neg_cases}
use Rattle.cdcl_core.proofs.trail.neg.Goals as goal

pub returns-then-code-eq0 : goal.returns-then-code-eq0
returns-then-code-eq0 c = elim (neg_cases c.args.code) [ inl p ↦ omega (arith, p.1) | inr p ↦ absurd (omega (arith, p.0)) ]

pub returns-else-code-eq0 : goal.returns-else-code-eq0
returns-else-code-eq0 c = elim (neg_cases c.args.code) [ inl p ↦ absurd (omega (arith, p.0)) | inr p ↦ omega (arith, p.1) ]
