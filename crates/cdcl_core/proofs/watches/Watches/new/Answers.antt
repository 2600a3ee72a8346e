use Rattle.std.proofs.Common.{rules, ◌≡◌, length, [], ◌∷◌, refl, ap, ◌∙◌}
use Rattle.std.specs.Prelude.{slice_get, option_and_then}
use Rattle.cdcl_core.specs.Lists.{Lists}
use Rattle.cdcl_core.specs.Tables.{shown}
use Rattle.cdcl_core.specs.Slots.{slot_in}
use Rattle.cdcl_core.proofs.Places.{first_lists}
use Rattle.cdcl_core.proofs.Public.{none_in, new_settled}
use Rattle.cdcl_core.proofs.watches.Watches.new.Goals as goal

pub returns-clause-settled : goal.returns-clause-settled
returns-clause-settled c =
    let V : Lists = shown c.lists-2.inside.places.items c.lists-2.inside.heads.items in
    let made : (V.lists ≡ [] ∷ [] ∷ []) × (length V.literals ≡ 2) = first_lists c.in_ok-lists.lists c.grow_lists.new.self c.grow_places.new.self V c.in_ok-lists.ensures.lists c.in_ok-lists.ensures.literals c.in_ok-grow_lists.ensures.ok c.in_ok-grow_places.ensures.ok c.lists-2.view_is in
    let kinds : length c.in_ok-vec.field-0.items ≡ 1 = search rules in
    let ids : length c.in_ok-vec-2.field-0.items ≡ 1 = search rules in
    let clauses : c.push.new.self.items ≡ [] ∷ [] = c.in_ok-push.ensures.items ∙ (rw (c.new-clauses.ensures.items, c.empty.ensures) refl) in
    λ t n. new_settled _ t n made.0 made.1 kinds clauses ids c.new-2.ensures refl

pub returns-clause-kept : goal.returns-clause-kept
returns-clause-kept c = λ id. ap (option_and_then (λ s. slice_get c.push.new.self.items s)) (ap (λ v. slot_in v id) c.new-2.ensures ∙ none_in id)
