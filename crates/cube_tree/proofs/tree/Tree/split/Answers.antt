use Rattle.std.proofs.Common.{◌≡◌, ◌≤◌, rules, length, sym, subst}
use Rattle.cube_tree.specs.Cubes.{AreVariables}
use Rattle.cube_tree.proofs.Splits.{first_none, first_more, first_all, take_variables}
use Rattle.cube_tree.proofs.tree.Tree.split.Goals as goal

pub loop-number-init : goal.loop-number-init
loop-number-init c = first_none c.in_ok-variables.variables.items c.new-cubes.result.items c.new-cubes.ensures.items

pub loop-number-preserved : goal.loop-number-preserved
loop-number-preserved c =
    rw c.in_ok-push.ensures.items (first_more c.in_ok-variables.variables.items c.loop-number.cubes.items c.loop-number.number c.in_ok-cube_literals.field-0 c.loop-number.invariant (rw c.as_slice.ensures.value at c.in_ok-cube_literals.ensures))

pub invariant_of-result : goal.invariant_of-result
invariant_of-result c =
    let depth : c.min-depth.result ≤ 10 = search rules in
    let count : length c.in_ok-variables.variables.items ≡ c.min-depth.result = search rules in
    let each = subst AreVariables (sym c.in_ok-variables.ensures.items) (take_variables c.min-depth.result c.args.variables.now c.requires.variables) in
    first_all c.in_ok-variables.variables.items c.loop-number.cubes.items c.loop-number.number c.min-depth.result each count depth c.loop-number-test.false c.loop-number.auto.number-end c.loop-number.invariant
