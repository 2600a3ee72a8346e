use Rattle.proof_file.specs.Noting.{IsWanted}
use Rattle.proof_file.proofs.Calls.{picked_more, picked_all}
use Rattle.proof_file.proofs.noting.picked.Goals as goal

pub assertions-preserved : goal.assertions-preserved
assertions-preserved c = picked_more (IsWanted c.args.marks.now c.args.wanted) c.args.assertions.now c.assertions.found.items c.put_where.new.found.items c.assertions.assertion-index c.is_wanted-here.result c.assertions-test.true c.is_wanted-here.ensures c.in_ok-put_where.ensures c.assertions.invariant

pub returns : goal.returns
returns c = picked_all (IsWanted c.args.marks.now c.args.wanted) c.args.assertions.now c.assertions.found.items c.assertions.assertion-index c.assertions-test.false c.assertions.invariant
