use Rattle.std.proofs.Common.{sym, subst}
use Rattle.smt_values.specs.Arrays.{IsOfWidth}
use Rattle.smt_values.proofs.Reading.{kept_array}
use Rattle.smt_values.proofs.array.ArrayValue.set.Goals as goal

pub invariant_of-self : goal.invariant_of-self
invariant_of-self c =
    let index : IsOfWidth c.self.inside.index c.args.index = subst (λ a. IsOfWidth a.index c.args.index) (sym c.self.view_is) c.requires.index in
    let element : IsOfWidth c.self.inside.default.width c.args.element = subst (λ a. IsOfWidth a.default.width c.args.element) (sym c.self.view_is) c.requires.element in
    kept_array _ _ _ _ _ _ c.enter.result c.self.invariant index element c.enter.ensures.ok c.enter.ensures.err
