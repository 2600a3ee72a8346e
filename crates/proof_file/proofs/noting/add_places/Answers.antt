use Rattle.proof_file.proofs.Calls.{places_none, places_more, places_all}
use Rattle.proof_file.proofs.noting.add_places.Goals as goal

pub positions-init : goal.positions-init
positions-init c = places_none c.args.places.now c.args.found.now.items

pub positions-preserved : goal.positions-preserved
positions-preserved c = places_more c.args.places.now c.args.positions.now c.args.found.now.items c.positions.found.items c.add_place.new.found.items c.positions.position-index c.positions-test.true c.in_ok-add_place.ensures c.positions.invariant

pub returns : goal.returns
returns c = places_all c.args.places.now c.args.positions.now c.args.found.now.items c.positions.found.items c.positions.position-index c.positions-test.false c.positions.invariant
