use Rattle.std.proofs.Common.{◌≡◌, Some, ap, ◌∙◌}
use Rattle.std.specs.Prelude.{slice_get}
use Rattle.term_reach.proofs.Tables.{table_once, read_at, absent_past, absent_wide, absent_other}
use Rattle.term_reach.proofs.reached.Reached.place_of.Goals as goal

pub returns-in_default-clause-place : goal.returns-in_default-clause-place
returns-in_default-clause-place c =
    rw (← c.self.view_is) (absent_past c.self.inside.places.items c.self.inside.terms.items c.deref.result.now c.args.term c.self.invariant c.deref.ensures.value c.in_default.ensures.lookup.3)

pub returns-in_default-clause-once : goal.returns-in_default-clause-once
returns-in_default-clause-once c = rw (← c.self.view_is) (table_once c.self.inside.places.items c.self.inside.terms.items c.self.invariant)

pub returns-in_default-get-clause-place : goal.returns-in_default-get-clause-place
returns-in_default-get-clause-place c =
    let h = c.in-Some.ensures.lookup in
    let found = read_at c.self.inside.places.items c.deref.result.now c.args.term c.in-Some.place.now c.deref.ensures.value h.3.0 h.1 in
    rw (← c.self.view_is) (absent_wide c.self.inside.places.items c.self.inside.terms.items c.deref-2.result.now c.args.term c.in-Some.place.now c.self.invariant found c.deref-2.ensures.value c.in_default-get.ensures.lookup.3)

pub returns-in_default-get-clause-once : goal.returns-in_default-get-clause-once
returns-in_default-get-clause-once c = rw (← c.self.view_is) (table_once c.self.inside.places.items c.self.inside.terms.items c.self.invariant)

pub returns-then-found-term-clause-place : goal.returns-then-found-term-clause-place
returns-then-found-term-clause-place c =
    let h = c.in-Some-get.ensures.lookup in
    let name = read_at c.self.inside.terms.items c.deref-2.result.now c.in-Some.place.now c.in-Some-get.found.now c.deref-2.ensures.value h.3.0 h.1 in
    let own : slice_get c.self.inside.terms.items c.in-Some.place.now ≡ Some c.args.term = name ∙ ap Some c.if-found-term.true in
    rw (← c.self.view_is) own

pub returns-then-found-term-clause-once : goal.returns-then-found-term-clause-once
returns-then-found-term-clause-once c = rw (← c.self.view_is) (table_once c.self.inside.places.items c.self.inside.terms.items c.self.invariant)

pub returns-else-found-term-clause-place : goal.returns-else-found-term-clause-place
returns-else-found-term-clause-place c =
    let h = c.in-Some.ensures.lookup in
    let k = c.in-Some-get.ensures.lookup in
    let found = read_at c.self.inside.places.items c.deref.result.now c.args.term c.in-Some.place.now c.deref.ensures.value h.3.0 h.1 in
    let name = read_at c.self.inside.terms.items c.deref-2.result.now c.in-Some.place.now c.in-Some-get.found.now c.deref-2.ensures.value k.3.0 k.1 in
    rw (← c.self.view_is) (absent_other c.self.inside.places.items c.self.inside.terms.items c.args.term c.in-Some.place.now c.in-Some-get.found.now c.self.invariant found name c.if-found-term.false)

pub returns-else-found-term-clause-once : goal.returns-else-found-term-clause-once
returns-else-found-term-clause-once c = rw (← c.self.view_is) (table_once c.self.inside.places.items c.self.inside.terms.items c.self.invariant)
