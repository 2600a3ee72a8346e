use Rattle.smt_text.proofs.Framings.{fed}
use Rattle.smt_text.proofs.framer.Framer.feed.Goals as goal

pub invariant_of-self : goal.invariant_of-self
invariant_of-self c = fed c.feed.result _ _ _ _ _ c.feed.ensures.ok c.feed.ensures.err c.self.invariant.0 c.self.invariant.1
