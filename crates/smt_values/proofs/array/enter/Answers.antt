use Rattle.std.proofs.Common.{◌≡◌, ◌∙◌, sym, true, false}
use Rattle.std.specs.Prelude.{slice_get, is_some}
use Rattle.smt_values.specs.Arrays.{matching, Splits}
use Rattle.smt_values.proofs.Entries.{entered_set, entered_insert}
use Rattle.smt_values.proofs.array.enter.Goals as goal

pub returns-then-held-clause-ok : goal.returns-then-held-clause-ok
returns-then-held-clause-ok c =
    let s : Splits c.args.entries.now.items c.args.index.value c.place_of-place.result = rw (c.as_slice.ensures.value, c.value-number.ensures) at c.place_of-place.ensures.splits in
    let h : is_some (matching c.args.index.value (slice_get c.args.entries.now.items c.place_of-place.result)) ≡ true = rw (c.as_slice-2.ensures.value, c.value-number.ensures) at (sym c.stands_at-held.ensures ∙ c.if-held.true) in
    entered_set (c.args.index, c.args.element) c.args.entries.now.items c.place_of-place.result s h

pub returns-clause-ok : goal.returns-clause-ok
returns-clause-ok c =
    let s : Splits c.args.entries.now.items c.args.index.value c.place_of-place.result = rw (c.as_slice.ensures.value, c.value-number.ensures) at c.place_of-place.ensures.splits in
    let h : is_some (matching c.args.index.value (slice_get c.args.entries.now.items c.place_of-place.result)) ≡ false = rw (c.as_slice-2.ensures.value, c.value-number.ensures) at (sym c.stands_at-held.ensures ∙ c.if-held.false) in
    c.in_ok-insert.ensures.items ∙ entered_insert (c.args.index, c.args.element) c.args.entries.now.items c.place_of-place.result s h
