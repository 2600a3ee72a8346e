use Rattle.std.proofs.Common.{[], refl, sym, subst}
use Rattle.proof_file.specs.Noting.{AreMarked}
use Rattle.proof_file.proofs.Calls.{marked_none, marked_more, marked_all}
use Rattle.proof_file.proofs.noting.mark.Goals as goal

pub live-init : goal.live-init
live-init c = subst (λ m. AreMarked m []) (sym c.clear.ensures) marked_none

pub live-preserved : goal.live-preserved
live-preserved c = marked_more c.args.live.now c.live.assertion-index _ c.assertion-item.result c.live.marks c.add.new.self c.live-test.true c.assertion-item.is refl c.in_ok-add.ensures.listed c.live.invariant

pub returns : goal.returns
returns c = marked_all c.args.live.now c.live.assertion-index c.live.marks c.live-test.false c.live.invariant
