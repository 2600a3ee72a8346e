use Rattle.std.proofs.Common.{ℕ, ◌∷◌, ◌++◌, [], get_or, refl, ap, ◌∙◌}
use Rattle.cnf_base.specs.Literals.{Literal}
use Rattle.check_cubes.proofs.Cubed.{cube_next}
use Rattle.check_cubes.proofs.cubes.cube_literals.Goals as goal

pub variables-preserved : goal.variables-preserved
variables-preserved c =
    let old = c.variables.literals.items in
    let next : ℕ = get_or c.args.variables.now c.variables.variable-index 0 in
    cube_next c.args.variables.now c.args.cube c.variables.variable-index c.variables.rest old c.push.new.self.items next 0 c.variables-test.true refl c.variables.invariant
    (c.in_ok-push.ensures.items ∙ ap (λ (x : Literal). old ++ x ∷ []) c.new.ensures)
