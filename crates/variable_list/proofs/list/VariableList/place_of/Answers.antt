use Rattle.std.proofs.Common.{◌≡◌, Some, ap, ◌∙◌}
use Rattle.std.specs.Prelude.{slice_get}
use Rattle.variable_list.proofs.Tables.{read_at, absent_past, absent_wide, absent_other}
use Rattle.variable_list.proofs.list.VariableList.place_of.Goals as goal

pub returns-in_default : goal.returns-in_default
returns-in_default c =
    rw (← c.self.view_is) (absent_past c.self.inside.places.items c.self.inside.variables.items c.deref.result.now c.args.variable c.self.invariant c.deref.ensures.value c.in_default.ensures.lookup.3)

pub returns-in_default-get : goal.returns-in_default-get
returns-in_default-get c =
    let h = c.in-Some.ensures.lookup in
    let found = read_at c.self.inside.places.items c.deref.result.now c.args.variable c.in-Some.place.now c.deref.ensures.value h.3.0 h.1 in
    rw (← c.self.view_is) (absent_wide c.self.inside.places.items c.self.inside.variables.items c.deref-2.result.now c.args.variable c.in-Some.place.now c.self.invariant found c.deref-2.ensures.value c.in_default-get.ensures.lookup.3)

pub returns-then-found-variable : goal.returns-then-found-variable
returns-then-found-variable c =
    let h = c.in-Some-get.ensures.lookup in
    let name = read_at c.self.inside.variables.items c.deref-2.result.now c.in-Some.place.now c.in-Some-get.found.now c.deref-2.ensures.value h.3.0 h.1 in
    let own : slice_get c.self.inside.variables.items c.in-Some.place.now ≡ Some c.args.variable = name ∙ ap Some c.if-found-variable.true in
    rw (← c.self.view_is) own

pub returns-else-found-variable : goal.returns-else-found-variable
returns-else-found-variable c =
    let h = c.in-Some.ensures.lookup in
    let k = c.in-Some-get.ensures.lookup in
    let found = read_at c.self.inside.places.items c.deref.result.now c.args.variable c.in-Some.place.now c.deref.ensures.value h.3.0 h.1 in
    let name = read_at c.self.inside.variables.items c.deref-2.result.now c.in-Some.place.now c.in-Some-get.found.now c.deref-2.ensures.value k.3.0 k.1 in
    rw (← c.self.view_is) (absent_other c.self.inside.places.items c.self.inside.variables.items c.args.variable c.in-Some.place.now c.in-Some-get.found.now c.self.invariant found name c.if-found-variable.false)
