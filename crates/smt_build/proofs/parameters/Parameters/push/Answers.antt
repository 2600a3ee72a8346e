use Rattle.std.proofs.Common.{◌≡◌, ◌∙◌, length, rules}
use Rattle.std.specs.Prelude.{vec_len}
use Rattle.smt_build.proofs.ParameterLists.{pushed, sorts_push}
use Rattle.smt_build.proofs.parameters.Parameters.push.Goals as goal

pub invariant_of-self-in-Ok : goal.invariant_of-self-in-Ok
invariant_of-self-in-Ok c =
    let size : vec_len c.self.inside.sorts ≡ length c.self.inside.sorts.items = search rules in
    sorts_push c.args.sort c.args.name.now c.self.inside.entries.entries _ c.args.self.now c.self.inside.sorts.items _ c.self.view_is c.self.invariant
    (pushed c.in_ok-key.key c.args.sort c.args.name.now _ c.self.inside.entries.entries _ c.args.self.now c.self.inside.sorts.items c.self.view_is c.self.invariant (c.len-count.ensures ∙ size) c.in_ok-key.ensures.items c.requires c.in-Ok.ensures.entries)
    c.in_ok-push.ensures.items

pub returns-in-Ok : goal.returns-in-Ok
returns-in-Ok c =
    let size : vec_len c.self.inside.sorts ≡ length c.self.inside.sorts.items = search rules in
    pushed c.in_ok-key.key c.args.sort c.args.name.now _ c.self.inside.entries.entries _ c.args.self.now c.self.inside.sorts.items c.self.view_is c.self.invariant (c.len-count.ensures ∙ size) c.in_ok-key.ensures.items c.requires c.in-Ok.ensures.entries
