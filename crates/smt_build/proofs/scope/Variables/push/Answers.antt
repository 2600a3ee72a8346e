use Rattle.std.proofs.Common.{◌≡◌, ◌∙◌, length, rules}
use Rattle.std.specs.Prelude.{vec_len}
use Rattle.smt_build.proofs.Places.{places_push}
use Rattle.smt_build.proofs.scope.Variables.push.Goals as goal

pub invariant_of-self-in-Ok : goal.invariant_of-self-in-Ok
invariant_of-self-in-Ok c =
    let size : vec_len c.self.inside.list ≡ length c.self.inside.list.items = search rules in
    places_push _ _ _ _ _ c.len-place.result c.self.invariant c.in_ok-push.ensures.items (c.len-place.ensures ∙ size) (c.copied-hidden.ensures ∙ c.get.ensures.value) c.in-Ok.ensures.updates.0
