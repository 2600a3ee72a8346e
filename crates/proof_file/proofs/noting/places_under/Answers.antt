use Rattle.std.proofs.Common.{[], rules}
use Rattle.proof_file.proofs.Calls.{under_none, under_more, under_all}
use Rattle.proof_file.proofs.noting.places_under.Goals as goal

pub assertions-init : goal.assertions-init
assertions-init c = under_none c.args.places.now c.args.noted.now c.new-found.result.items (search rules)

pub assertions-preserved : goal.assertions-preserved
assertions-preserved c = under_more c.args.places.now c.args.noted.now c.args.assertions.now [] c.assertions.found.items c.add_places.new.found.items _ c.assertions.assertion-index c.assertions-test.true c.row.ensures c.in_ok-add_places.ensures c.assertions.invariant

pub returns : goal.returns
returns c = under_all c.args.places.now c.args.noted.now c.args.assertions.now [] c.assertions.found.items c.assertions.assertion-index c.assertions-test.false c.assertions.invariant
