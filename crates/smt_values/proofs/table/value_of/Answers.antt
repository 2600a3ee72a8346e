use Rattle.std.proofs.Common.{◌≡◌, ◌∙◌, sym, ap, refl, Some, true, false}
use Rattle.std.specs.Prelude.{slice_get}
use Rattle.std.specs.Ordering.{is_eq}
use Rattle.std.proofs.lemmas.Option.{slice_get_read, slice_get_past}
use Rattle.smt_values.specs.Tables.{args_cmp, value_in}
use Rattle.smt_values.proofs.Rows.{row_found, row_other, row_none}
use Rattle.smt_values.proofs.table.value_of.Goals as goal

pub returns-then-is_eq : goal.returns-then-is_eq
returns-then-is_eq c =
    let g : slice_get c.args.rows.now c.place_of-place.result ≡ Some c.in-Some.row.now = slice_get_read _ _ _ _ refl c.in-Some.ensures.lookup.3.0 c.in-Some.ensures.lookup.1 in
    let e : is_eq (args_cmp c.in-Some.row.now.args c.args.args.now) ≡ true = rw (c.compare.ensures, c.as_slice.ensures) at (sym c.is_eq.ensures ∙ c.if-is_eq.true) in
    sym (ap (value_in c.args.default) (row_found _ _ _ _ c.requires c.place_of-place.ensures.split g e))

pub returns-else-is_eq : goal.returns-else-is_eq
returns-else-is_eq c =
    let g : slice_get c.args.rows.now c.place_of-place.result ≡ Some c.in-Some.row.now = slice_get_read _ _ _ _ refl c.in-Some.ensures.lookup.3.0 c.in-Some.ensures.lookup.1 in
    let e : is_eq (args_cmp c.in-Some.row.now.args c.args.args.now) ≡ false = rw (c.compare.ensures, c.as_slice.ensures) at (sym c.is_eq.ensures ∙ c.if-is_eq.false) in
    sym (ap (value_in c.args.default) (row_other _ _ _ _ c.requires c.place_of-place.ensures.split g e))

pub returns-in-None : goal.returns-in-None
returns-in-None c = sym (ap (value_in c.args.default) (row_none _ _ _ c.requires c.place_of-place.ensures.split (slice_get_past _ _ c.in-None.ensures.lookup.3)))
