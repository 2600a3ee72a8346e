-- What one more entry and one more row change.
use Rattle.std.proofs.Common.{◌≡◌, ℕ, ◌<◌, ◌^◌, Bool, true, false, List, [], ◌∷◌, map, refl, ap, sym, ◌∙◌, subst, Option, Some}
use Rattle.std.specs.Prelude.{if◌then◌else◌}
use Rattle.std.specs.Ordering.{is_eq, is_lt, ordering_reverse}
use Rattle.std.specs.declared.cmp.Ordering.{Ordering}
use Rattle.std.specs.declared.cmp.Ordering.TheVariants.{Less, Equal, Greater}
use Rattle.smt_words.specs.Words.{WordValue}
use Rattle.smt_terms.specs.declared.sort.Sort.TheVariants as sort
use Rattle.smt_terms.specs.declared.scalar.Scalar.{Scalar}
use Rattle.smt_terms.specs.Scalars.{scalar_value}
use Rattle.smt_terms.specs.Values.{VArray, VWord, HasSort, store_of}
use Rattle.smt_values.specs.Arrays.{ArrayFields, IsArray, elements_of, array_value, with_element}
use Rattle.smt_values.specs.declared.table.Row.{Row}
use Rattle.smt_values.specs.Tables.{TableFields, args_cmp, row_at, value_in, entered_row, table_value, with_row}
use Rattle.smt_values.proofs.Entries.{element_by_entry, entered_pairs}
use Rattle.smt_values.proofs.Reading.{element_below}
use Rattle.smt_values.proofs.Rows.{order, row_met, row_after, row_before, row_passed, value_at}

pub array_sort : (a : ArrayFields) → IsArray a → HasSort (sort.Array a.index a.default.width) (array_value a)
array_sort a h = (
  elements_of a,
  refl,
  λ i. subst (λ (x : ℕ). x < 2 ^ a.default.width) (sym (element_by_entry a.default.value a.entries i)) (element_below a.default.width a.default.value h.default.fits a.index a.entries h.entries i),
)

pub element_stored : (a : ArrayFields) (i x : WordValue) → array_value (with_element a i x) ≡ store_of (array_value a) (VWord i.width i.value) (VWord x.width x.value)
element_stored a i x =
    let entries = entered_pairs a.entries (i, x) in
    (λ j. VArray a.index a.default.width (record { default = a.default.value; entries = entries j }))

-- ---- rows

module _ (f : Row) (t : List Scalar) where
  found : (b : Bool) (o p : Option Row) → (b ≡ false → o ≡ p) → (if b then Some f else o) ≡ (if b then Some f else p)
  found true o p h = refl
  found false o p h = h refl

  after : (r : Row) (b c : Bool) (o p : Option Row) → (c ≡ true → b ≡ false) → o ≡ (if b then Some f else p) → (if c then Some r else o) ≡ (if b then Some f else (if c then Some r else p))
  after r true true o p h e = let q : ⊥ = (let z = h refl in cc) in absurd q
  after r true false o p h e = e
  after r false true o p h e = refl
  after r false false o p h e = e

  apart : (r : Row) → args_cmp r.args f.args ≡ Less → is_eq (args_cmp r.args t) ≡ true → is_eq (args_cmp f.args t) ≡ false
  apart r less e = go (args_cmp f.args t) refl where
    both : (o : Ordering) → args_cmp r.args t ≡ o → is_eq o ≡ true → args_cmp r.args t ≡ Equal
    both Less p q = let z : ⊥ = cc in absurd z
    both Equal p q = p
    both Greater p q = let z : ⊥ = cc in absurd z

    go : (o : Ordering) → args_cmp f.args t ≡ o → is_eq (args_cmp f.args t) ≡ false
    go Less p = ap is_eq p
    go Equal p =
        let same : args_cmp r.args t ≡ Equal = both (args_cmp r.args t) refl e in
        let turned : args_cmp f.args r.args ≡ args_cmp t r.args = order.congr f.args t r.args p in
        let one : args_cmp r.args f.args ≡ args_cmp r.args t = order.antisymm r.args f.args ∙ ap ordering_reverse turned ∙ sym (order.antisymm r.args t) in
        let q : ⊥ = (let z = sym less ∙ one ∙ same in cc) in
        absurd q
    go Greater p = ap is_eq p

  pub entered_row_at : (rs : List Row) → row_at (entered_row rs f) t ≡ (if is_eq (args_cmp f.args t) then Some f else row_at rs t)
  entered_row_at [] = refl
  entered_row_at (r ∷ rs) = go (args_cmp r.args f.args) refl (entered_row_at rs) where
    go : (o : Ordering) → args_cmp r.args f.args ≡ o → row_at (entered_row rs f) t ≡ (if is_eq (args_cmp f.args t) then Some f else row_at rs t) → row_at (entered_row (r ∷ rs) f) t ≡ (if is_eq (args_cmp f.args t) then Some f else row_at (r ∷ rs) t)
    go Less e ih = ap (λ l. row_at l t) (row_after f r rs (ap is_lt e)) ∙ after r (is_eq (args_cmp f.args t)) (is_eq (args_cmp r.args t)) (row_at (entered_row rs f) t) (row_at rs t) (apart r e) ih
    go Equal e ih =
        ap (λ l. row_at l t) (row_met f r rs (ap is_eq e))
        ∙ found (is_eq (args_cmp f.args t)) (row_at rs t) (row_at (r ∷ rs) t) (λ no. sym (row_passed r rs t (ap is_eq (order.congr r.args f.args t e) ∙ no)))
    go Greater e ih = ap (λ l. row_at l t) (row_before f r rs (ap is_eq e) (ap is_lt e))

value_of_choice : (d : Scalar) (f : Row) (b : Bool) (o : Option Row) → scalar_value (value_in d (if b then Some f else o)) ≡ (if b then scalar_value f.value else scalar_value (value_in d o))
value_of_choice d f true o = refl
value_of_choice d f false o = refl

pub row_changes : (t : TableFields) (args other : List Scalar) (value : Scalar) → table_value (with_row t args value) (map scalar_value other) ≡ (if is_eq (args_cmp args other) then scalar_value value else table_value t (map scalar_value other))
row_changes t args other value =
    let f : Row = record { args = args; value = value } in
    value_at t.default (entered_row t.rows f) other
    ∙ ap (λ o. scalar_value (value_in t.default o)) (entered_row_at f other t.rows)
    ∙ value_of_choice t.default f (is_eq (args_cmp args other)) (row_at t.rows other)
    ∙ ap (λ v. if is_eq (args_cmp args other) then scalar_value value else v) (sym (value_at t.default t.rows other))
