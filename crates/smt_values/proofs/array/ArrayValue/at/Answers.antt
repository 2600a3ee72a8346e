use Rattle.std.proofs.Common.{◌∙◌, ap, subst}
use Rattle.smt_values.specs.Arrays.{IsArray}
use Rattle.smt_values.proofs.Reading.{element_is, default_is}
use Rattle.smt_values.proofs.array.ArrayValue.at.Goals as goal

pub returns-in-Some : goal.returns-in-Some
returns-in-Some c =
    let array : IsArray c.args.self.now = subst IsArray c.self.view_is c.self.invariant in
    let items = c.as_slice.ensures.value ∙ ap (λ a. a.entries) c.self.view_is in
    element_is c.args.self.now array c.args.index.value _ (rw (items, c.value.ensures) at c.in-Some.ensures)

pub returns-in-None : goal.returns-in-None
returns-in-None c =
    let items = c.as_slice.ensures.value ∙ ap (λ a. a.entries) c.self.view_is in
    let default = ap (λ a. a.default) c.self.view_is in
    default ∙ default_is c.args.self.now c.args.index.value (rw (items, c.value.ensures) at c.in-None.ensures)
