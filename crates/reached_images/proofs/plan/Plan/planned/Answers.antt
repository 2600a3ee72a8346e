use Rattle.std.proofs.Common.{◌≤◌, length, sym, subst}
use Rattle.reached_images.proofs.Tables.{absent_other, absent_past, absent_wide, found_at, read_at, step_at, table_apart}
use Rattle.reached_images.proofs.plan.Plan.planned.Goals as goal

pub returns-in_default : goal.returns-in_default
returns-in_default c =
    let past = subst (λ l. length l ≤ c.args.term) c.deref.ensures.value c.in_default.ensures.lookup.3 in
    rw (← c.self.view_is) (sym (absent_past c.self.inside.places.items c.self.inside.steps.items c.args.term c.self.invariant past))

pub returns-in_default-get : goal.returns-in_default-get
returns-in_default-get c =
    let h = c.in-Some.ensures.lookup in
    let found = read_at c.self.inside.places.items c.deref.result.now c.args.term c.in-Some.place.now c.deref.ensures.value h.3.0 h.1 in
    let past = subst (λ l. length l ≤ c.in-Some.place.now) c.deref-2.ensures.value c.in_default-get.ensures.lookup.3 in
    rw (← c.self.view_is) (sym (absent_wide c.self.inside.places.items c.self.inside.steps.items c.args.term c.in-Some.place.now c.self.invariant found past))

pub returns-then-found-term : goal.returns-then-found-term
returns-then-found-term c =
    let h = c.in-Some-get.ensures.lookup in
    let at = step_at c.self.inside.steps.items c.deref-2.result.now c.in-Some.place.now c.in-Some-get.found.now c.deref-2.ensures.value h.3.0 h.1 in
    rw (← c.self.view_is) (sym (found_at c.self.inside.steps.items c.in-Some.place.now c.in-Some-get.found.now c.args.term (table_apart c.self.inside.places.items c.self.inside.steps.items c.self.invariant) at c.if-found-term.true))

pub returns-else-found-term : goal.returns-else-found-term
returns-else-found-term c =
    let h = c.in-Some.ensures.lookup in
    let k = c.in-Some-get.ensures.lookup in
    let found = read_at c.self.inside.places.items c.deref.result.now c.args.term c.in-Some.place.now c.deref.ensures.value h.3.0 h.1 in
    let at = step_at c.self.inside.steps.items c.deref-2.result.now c.in-Some.place.now c.in-Some-get.found.now c.deref-2.ensures.value k.3.0 k.1 in
    rw (← c.self.view_is) (sym (absent_other c.self.inside.places.items c.self.inside.steps.items c.args.term c.in-Some.place.now c.in-Some-get.found.now c.self.invariant found at c.if-found-term.false))
