use Rattle.smt_terms.proofs.Spans.{image_some, image_none}
use Rattle.smt_terms.proofs.bits.Bits.image.Goals as goal

pub returns-in-Some : goal.returns-in-Some
returns-in-Some c = image_some _ _ _ c.in-Some.span _ c.self.view_is (rw c.deref.ensures.value at c.in-Some.ensures)

pub returns-in-None : goal.returns-in-None
returns-in-None c = image_none _ _ _ _ c.self.view_is (rw c.deref.ensures.value at c.in-None.ensures)
