use Rattle.std.proofs.Common.{sym}
use Rattle.smt_terms.proofs.Spans.{bits_some, bits_none, found_within}
use Rattle.smt_terms.proofs.bits.Bits.of.Goals as goal

pub literals_at-requires : goal.literals_at-requires
literals_at-requires c = rw c.deref-in-Some.ensures.value (found_within _ _ _ c.in-Some.span c.self.invariant.1 (sym (rw c.deref.ensures.value at c.in-Some.ensures)))

pub returns-in-Some : goal.returns-in-Some
returns-in-Some c =
    rw (c.literals_at.ensures, c.deref-in-Some.ensures.value) (bits_some _ _ _ c.in-Some.span _ c.self.view_is (rw c.deref.ensures.value at c.in-Some.ensures))

pub returns-in-None : goal.returns-in-None
returns-in-None c = bits_none _ _ _ _ c.self.view_is (rw c.deref.ensures.value at c.in-None.ensures)
