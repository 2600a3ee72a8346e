use Rattle.reached_images.specs.Settled.{IsSupported}
use Rattle.reached_images.proofs.Owning.{each_end, each_next}
use Rattle.reached_images.proofs.planning.are_supported.Goals as goal

pub terms-preserved : goal.terms-preserved
terms-preserved c = each_next (IsSupported c.args.terms.now.nodes c.args.bits.now c.args.plan.now) c.args.some.now c.terms.term-index _ c.terms-test.true c.terms.invariant c.if-not-is_supported.ensures

pub returns : goal.returns
returns c = each_end (IsSupported c.args.terms.now.nodes c.args.bits.now c.args.plan.now) c.args.some.now c.terms.term-index c.terms-test.false c.terms.invariant
