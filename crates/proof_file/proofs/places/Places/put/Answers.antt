use Rattle.std.proofs.Common.{◌≡◌, suc, length, sym, ap, ◌∙◌}
use Rattle.proof_file.specs.Held.{PlacesValue}
use Rattle.proof_file.proofs.Placing.{held_kept, held_put}
use Rattle.proof_file.proofs.places.Places.put.Goals as goal

pub invariant_of-self-2 : goal.invariant_of-self-2
invariant_of-self-2 c =
    let next : c.next-place.result ≡ suc (length c.self.inside.positions.items) = c.next-place.ensures ∙ ap (λ (v : PlacesValue). suc v.count) (sym c.self.view_is) in
    rw c.in_ok-push.ensures.items (held_put c.make_room.new.places.items c.self.inside.positions.items c.args.at c.next-place.result next c.in_ok-make_room.ensures.room
    (held_kept c.self.inside.places.items c.make_room.new.places.items c.self.inside.positions.items c.in_ok-make_room.ensures.kept c.self.invariant))
