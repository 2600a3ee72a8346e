use Rattle.std.proofs.Common.{◌≡◌, ◌∙◌, sym, Some, refl}
use Rattle.std.specs.Prelude.{slice_get}
use Rattle.std.proofs.lemmas.Option.{slice_get_read, slice_get_past}
use Rattle.smt_values.proofs.Entries.{found_is, other_is, none_is}
use Rattle.smt_values.proofs.array.entry_of.Goals as goal

pub returns-then-value-number : goal.returns-then-value-number
returns-then-value-number c =
    let g : slice_get c.args.entries.now c.place_of-place.result ≡ Some c.in-Some.entry.now = slice_get_read _ _ _ _ refl c.in-Some.ensures.lookup.3.0 c.in-Some.ensures.lookup.1 in
    let k : c.in-Some.entry.now.0.value ≡ c.args.number = sym c.value.ensures ∙ c.if-value-number.true in
    found_is _ _ _ _ c.requires c.place_of-place.ensures.splits g k

pub returns-else-value-number : goal.returns-else-value-number
returns-else-value-number c =
    let g : slice_get c.args.entries.now c.place_of-place.result ≡ Some c.in-Some.entry.now = slice_get_read _ _ _ _ refl c.in-Some.ensures.lookup.3.0 c.in-Some.ensures.lookup.1 in
    other_is _ _ _ _ c.requires c.place_of-place.ensures.splits g (λ e. c.if-value-number.false (c.value.ensures ∙ e))

pub returns-in-None : goal.returns-in-None
returns-in-None c = none_is _ _ _ c.requires c.place_of-place.ensures.splits (slice_get_past _ _ c.in-None.ensures.lookup.3)
