use Rattle.proof_file.proofs.Calls.{forgotten_none, forgotten_more, forgotten_all}
use Rattle.proof_file.proofs.noting.forget.Goals as goal

pub assertions-init : goal.assertions-init
assertions-init c = forgotten_none c.args.noted.now.items

pub assertions-preserved : goal.assertions-preserved
assertions-preserved c = forgotten_more c.args.assertions.now c.assertions.assertion-index c.args.noted.now.items c.assertions.noted.items c.empty.new.noted.items c.assertions-test.true c.empty.ensures c.assertions.invariant

pub returns : goal.returns
returns c = forgotten_all c.args.assertions.now c.assertions.assertion-index c.args.noted.now.items c.assertions.noted.items c.assertions-test.false c.assertions.invariant
