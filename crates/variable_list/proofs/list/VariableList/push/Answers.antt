use Rattle.std.proofs.Common.{◌≡◌, ◌∷◌, ◌++◌, [], length, rules}
use Rattle.std.specs.Prelude.{slice_set}
use Rattle.variable_list.specs.Variables.{IsTable}
use Rattle.variable_list.proofs.Tables.{table_kept, table_push}
use Rattle.variable_list.proofs.list.VariableList.push.Goals as goal

pub invariant_of-self : goal.invariant_of-self
invariant_of-self c = table_kept c.self.inside.places.items c.make_room.new.places.items c.self.inside.variables.items c.make_room.ensures.kept c.self.invariant

pub invariant_of-self-in_err-push : goal.invariant_of-self-in_err-push
invariant_of-self-in_err-push c =
    rw c.in_err-push.ensures.items (table_kept c.self.inside.places.items c.make_room.new.places.items c.self.inside.variables.items c.in_ok-make_room.ensures.kept c.self.invariant)

pub invariant_of-self-2 : goal.invariant_of-self-2
invariant_of-self-2 c =
    let kept = table_kept c.self.inside.places.items c.make_room.new.places.items c.self.inside.variables.items c.in_ok-make_room.ensures.kept c.self.invariant in
    let count : length c.self.inside.variables.items ≡ c.len-place.result = search rules in
    let pushed : IsTable (slice_set c.make_room.new.places.items c.args.variable (length c.self.inside.variables.items)) (c.self.inside.variables.items ++ c.args.variable ∷ []) =
    table_push c.make_room.new.places.items c.self.inside.variables.items c.args.variable kept c.in_ok-make_room.ensures.room c.requires.variable (rw c.self.view_is c.requires.new) in
    rw c.in_ok-push.ensures.items (rw count at pushed)
