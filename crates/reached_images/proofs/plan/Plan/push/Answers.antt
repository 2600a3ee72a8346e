use Rattle.std.proofs.Common.{◌≡◌, ◌∷◌, ◌++◌, [], None, length, rules}
use Rattle.std.specs.Prelude.{slice_set}
use Rattle.reached_images.specs.Plans.{planned_in}
use Rattle.reached_images.specs.Tables.{IsTable}
use Rattle.reached_images.proofs.Tables.{table_kept, table_push}
use Rattle.reached_images.proofs.plan.Plan.push.Goals as goal

pub invariant_of-self : goal.invariant_of-self
invariant_of-self c = table_kept c.self.inside.places.items c.make_room.new.places.items c.self.inside.steps.items c.make_room.ensures.kept c.self.invariant

pub invariant_of-self-in_err-push : goal.invariant_of-self-in_err-push
invariant_of-self-in_err-push c =
    rw c.in_err-push.ensures.items (table_kept c.self.inside.places.items c.make_room.new.places.items c.self.inside.steps.items c.in_ok-make_room.ensures.kept c.self.invariant)

pub invariant_of-self-2 : goal.invariant_of-self-2
invariant_of-self-2 c =
    let kept = table_kept c.self.inside.places.items c.make_room.new.places.items c.self.inside.steps.items c.in_ok-make_room.ensures.kept c.self.invariant in
    let count : length c.self.inside.steps.items ≡ c.len-place.result = search rules in
    let new : planned_in c.self.inside.steps.items c.args.step.term ≡ None = rw c.self.view_is c.requires.new in
    let pushed : IsTable (slice_set c.make_room.new.places.items c.args.step.term (length c.self.inside.steps.items)) (c.self.inside.steps.items ++ c.args.step ∷ []) =
    table_push c.make_room.new.places.items c.self.inside.steps.items c.args.step kept c.in_ok-make_room.ensures.room new in
    rw c.in_ok-push.ensures.items (rw count at pushed)
