use Rattle.std.proofs.Common.{◌<◌, ◌≤◌, length, refl, rules}
use Rattle.std.specs.Prelude.{slice_set}
use Rattle.cube_workers.proofs.PutBack.{places_set, places_past, places_other}
use Rattle.cube_workers.proofs.putting.keep_place.Goals as goal

pub returns-then-place-len-clause-places : goal.returns-then-place-len-clause-places
returns-then-place-len-clause-places c = λ law seen n h.
    let lt : c.in-Close.cube < length c.args.places.now.items = search rules in
    places_set law seen n c.in-Close.cube c.in-Close.at c.args.call.now c.args.places.now.items (slice_set c.args.places.now.items c.in-Close.cube c.in-Close.at) c.in-Close.is lt refl h

pub returns-else-place-len-clause-places : goal.returns-else-place-len-clause-places
returns-else-place-len-clause-places c = λ law seen n h.
    let le : length c.args.places.now.items ≤ c.in-Close.cube = search rules in
    places_past law seen n c.in-Close.cube c.in-Close.at c.args.call.now c.args.places.now.items c.in-Close.is le h

pub returns-in_default : goal.returns-in_default
returns-in_default c = record { len = refl; places = λ law seen n h. places_other law seen n c.args.call.now c.args.places.now.items c.in_default.not-Close h }
