use Rattle.std.proofs.Common.{◌≡◌, ◌∙◌, ap, length, rules}
use Rattle.std.specs.Prelude.{vec_len, ◌==◌}
use Rattle.smt_build.proofs.ParameterLists.{none_there}
use Rattle.smt_build.proofs.parameters.Parameters.is_empty.Goals as goal

pub returns : goal.returns
returns c =
    let size : vec_len c.self.inside.sorts ≡ length c.self.inside.sorts.items = search rules in
    none_there c.self.inside.entries.entries c.args.self.now c.self.inside.sorts.items c.self.view_is c.self.invariant _ (c.is_empty.ensures ∙ ap (λ n. n == 0) size)
