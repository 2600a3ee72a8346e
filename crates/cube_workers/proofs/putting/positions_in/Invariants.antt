use Rattle.std.specs.Prelude.{◌≡◌, length, take}
use Rattle.hub_core.specs.Hubs.{HubValue}
use Rattle.cube_workers.specs.Histories.{ArePlaces}
use Rattle.cube_workers.proofs.putting.positions_in.Given as goal

abbrev pub invariant-cubes : goal.invariant-cubes
invariant-cubes l = length l.places.items ≡ l.counter

abbrev pub invariant-events : goal.invariant-events
invariant-events l = (length l.places.items ≡ l.cubes) × ((law : HubValue) → ArePlaces law (take l.at l.events) l.places.items)
