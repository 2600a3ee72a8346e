-- Rising rows: where arguments stand, what value they have, and what one more row leaves.
use Rattle.std.proofs.Common.{◌≡◌, ℕ, zero, suc, ◌<◌, ◌≤◌, Bool, true, false, ◌&&◌, List, [], ◌∷◌, length, map, get_or, set, refl, ap, sym, ◌∙◌, subst, arith, ⊎_elim, Some, None, Result, Ok, Err}
use Rattle.std.specs.Prelude.{OnOk, OnErr, ◌==◌, nat_lt, if◌then◌else◌, slice_get, is_some}
use Rattle.std.specs.List.{AllByRecursion, insert}
use Rattle.std.specs.List.Sorted.{IsPartitionPoint}
use Rattle.std.specs.Ordering.{nat_cmp, ordering_then, ordering_reverse, is_eq, is_lt}
use Rattle.std.specs.Cmp.{IsTotalOrder, nat_cmp_total, on_total, then_total}
use Rattle.std.specs.Cmp.Lexicographic.{lists_total}
use Rattle.std.specs.declared.cmp.Ordering.{Ordering}
use Rattle.std.specs.declared.cmp.Ordering.TheVariants.{Less, Equal, Greater}
use Rattle.std.proofs.lemmas.Bool.{eq-eqb, ne_eqb, cond-true, cond-false, cases_eq, cases_order, lt-ltb, le-ltb}
use Rattle.smt_terms.specs.declared.scalar.Scalar.{Scalar}
use Rattle.smt_terms.specs.declared.scalar.Scalar.TheVariants as scalar
use Rattle.smt_terms.specs.Scalars.{scalar_value}
use Rattle.smt_terms.specs.Values.{same_value}
use Rattle.smt_values.specs.declared.table.Row.{Row}
use Rattle.smt_values.specs.Tables.{same_values, value_for, rank, number, scalar_cmp, args_cmp, AreRowsRising, row_at, value_in, row_matching, entered_row, RowsSplit}
use Rattle.cnf_base.proofs.Lists.{each_get_or}

-- ---- the order

pub order : IsTotalOrder args_cmp
order = lists_total (then_total (on_total rank nat_cmp_total) (on_total number nat_cmp_total))

less_is : (o : Ordering) → is_lt o ≡ true → o ≡ Less
less_is Less e = refl
less_is Equal e = let q : ⊥ = cc in absurd q
less_is Greater e = let q : ⊥ = cc in absurd q

equal_is : (o : Ordering) → is_eq o ≡ true → o ≡ Equal
equal_is Less e = let q : ⊥ = cc in absurd q
equal_is Equal e = refl
equal_is Greater e = let q : ⊥ = cc in absurd q

greater_is : (o : Ordering) → is_lt o ≡ false → is_eq o ≡ false → o ≡ Greater
greater_is Less e f = let q : ⊥ = cc in absurd q
greater_is Equal e f = let q : ⊥ = cc in absurd q
greater_is Greater e f = refl

turned : (s t : List Scalar) → args_cmp s t ≡ Greater → args_cmp t s ≡ Less
turned s t e = order.antisymm t s ∙ ap ordering_reverse e

-- ---- each row

row_all_from : (P : Row → Type 0) (rs : List Row) → ((k : ℕ) (d : Row) → k < length rs → P (get_or rs k d)) → AllByRecursion P rs
row_all_from P [] h = tt
row_all_from P (r ∷ rs) h = (h zero r (omega arith), row_all_from P rs (λ k d lt. h (suc k) d (omega arith)))

row_all_map : (P Q : Row → Type 0) → ((r : Row) → P r → Q r) → (rs : List Row) → AllByRecursion P rs → AllByRecursion Q rs
row_all_map P Q f [] h = tt
row_all_map P Q f (r ∷ rs) h = (f r h.0, row_all_map P Q f rs h.1)

-- ---- where arguments stand

pub rows_parted : (t : List Scalar) (rs : List Row) → AreRowsRising rs → (i j : ℕ) (d : Row) → i ≤ j → j < length rs → is_lt (args_cmp (get_or rs j d).args t) ≡ true → is_lt (args_cmp (get_or rs i d).args t) ≡ true
rows_parted t [] h i j d le lt e = absurd (omega arith)
rows_parted t (r ∷ rs) h zero zero d le lt e = e
rows_parted t (r ∷ rs) h zero (suc j) d le lt e =
    let q = get_or rs j d in
    let first : args_cmp r.args q.args ≡ Less = each_get_or (λ x. args_cmp r.args x.args ≡ Less) rs h.0 j d (omega arith) in
    ap is_lt (order.trans r.args q.args t first (less_is (args_cmp q.args t) e))
rows_parted t (r ∷ rs) h (suc i) zero d le lt e = absurd (omega arith)
rows_parted t (r ∷ rs) h (suc i) (suc j) d le lt e = rows_parted t rs h.1 i j d (omega arith) (omega arith) e

pub rows_split : (rs : List Row) (t : List Scalar) (p : ℕ) → p ≤ length rs → IsPartitionPoint (λ r. is_lt (args_cmp r.args t) ≡ true) (λ r. is_lt (args_cmp r.args t) ≡ false) rs p → RowsSplit rs t p
rows_split rs t zero le h = row_all_from (λ r. is_lt (args_cmp r.args t) ≡ false) rs (λ k d lt. h.1 k d (omega arith) lt)
rows_split [] t (suc p) le h = absurd (omega arith)
rows_split (r ∷ rs) t (suc p) le h = (h.0 zero r (omega arith) (omega arith), rows_split rs t p (omega arith) (λ k d a b. h.0 (suc k) d (omega arith) (omega arith), λ k d a b. h.1 (suc k) d (omega arith) (omega arith)))

pub row_passed : (r : Row) (rs : List Row) (t : List Scalar) → is_eq (args_cmp r.args t) ≡ false → row_at (r ∷ rs) t ≡ row_at rs t
row_passed r rs t e = cond-false (is_eq (args_cmp r.args t)) (Some r) (row_at rs t) e

row_absent : (rs : List Row) (t : List Scalar) → AllByRecursion (λ q. args_cmp t q.args ≡ Less) rs → row_at rs t ≡ None
row_absent [] t h = refl
row_absent (r ∷ rs) t h = row_passed r rs t (ap is_eq (order.antisymm r.args t ∙ ap ordering_reverse h.0)) ∙ row_absent rs t h.1

rows_after : (s t : List Scalar) → args_cmp t s ≡ Less → (rs : List Row) → AllByRecursion (λ q. args_cmp s q.args ≡ Less) rs → AllByRecursion (λ q. args_cmp t q.args ≡ Less) rs
rows_after s t lt rs h = row_all_map (λ q. args_cmp s q.args ≡ Less) (λ q. args_cmp t q.args ≡ Less) (λ q less. order.trans t s q.args lt less) rs h

pub row_at_place : (rs : List Row) (t : List Scalar) (p : ℕ) → AreRowsRising rs → RowsSplit rs t p → row_at rs t ≡ row_matching t (slice_get rs p)
row_at_place [] t p h s = refl
row_at_place (r ∷ rs) t zero h s = go (is_eq (args_cmp r.args t)) refl where
  go : (b : Bool) → is_eq (args_cmp r.args t) ≡ b → (if is_eq (args_cmp r.args t) then Some r else row_at rs t) ≡ (if is_eq (args_cmp r.args t) then Some r else None)
  go true e = cond-true (is_eq (args_cmp r.args t)) (Some r) (row_at rs t) e ∙ sym (cond-true (is_eq (args_cmp r.args t)) (Some r) None e)
  go false e = ap (λ z. if is_eq (args_cmp r.args t) then Some r else z) (row_absent rs t (rows_after r.args t (turned r.args t (greater_is (args_cmp r.args t) s.0 e)) rs h.0))
row_at_place (r ∷ rs) t (suc p) h s = row_passed r rs t (ap is_eq (less_is (args_cmp r.args t) s.0)) ∙ row_at_place rs t p h.1 s.1

pub row_found : (rs : List Row) (t : List Scalar) (p : ℕ) (r : Row) → AreRowsRising rs → RowsSplit rs t p → slice_get rs p ≡ Some r → is_eq (args_cmp r.args t) ≡ true → row_at rs t ≡ Some r
row_found rs t p r h s g e = row_at_place rs t p h s ∙ ap (row_matching t) g ∙ cond-true (is_eq (args_cmp r.args t)) (Some r) None e

pub row_other : (rs : List Row) (t : List Scalar) (p : ℕ) (r : Row) → AreRowsRising rs → RowsSplit rs t p → slice_get rs p ≡ Some r → is_eq (args_cmp r.args t) ≡ false → row_at rs t ≡ None
row_other rs t p r h s g e = row_at_place rs t p h s ∙ ap (row_matching t) g ∙ cond-false (is_eq (args_cmp r.args t)) (Some r) None e

pub row_none : (rs : List Row) (t : List Scalar) (p : ℕ) → AreRowsRising rs → RowsSplit rs t p → slice_get rs p ≡ None → row_at rs t ≡ None
row_none rs t p h s g = row_at_place rs t p h s ∙ ap (row_matching t) g

pub row_within : (rs : List Row) (t : List Scalar) (p : ℕ) → is_some (row_matching t (slice_get rs p)) ≡ true → p < length rs
row_within [] t p h = let q : ⊥ = cc in absurd q
row_within (r ∷ rs) t zero h = omega arith
row_within (r ∷ rs) t (suc p) h = let lt = row_within rs t p h in omega arith

-- ---- the function of the theory

nat_equal : (a b : ℕ) → is_eq (nat_cmp a b) ≡ (a == b)
nat_equal a b = ⊎_elim
    (λ same. ap is_eq (cond-false (nat_lt a b) Less (if a == b then Equal else Greater) (le-ltb a b (omega arith)) ∙ cond-true (a == b) Equal Greater (eq-eqb a b same)) ∙ sym (eq-eqb a b same))
    (λ other. ⊎_elim
    (λ less. let ne : a ≡ b → ⊥ = omega arith in ap is_eq (cond-true (nat_lt a b) Less (if a == b then Equal else Greater) (lt-ltb a b less)) ∙ sym (ne_eqb a b ne))
    (λ more. let ne : a ≡ b → ⊥ = omega arith in ap is_eq (cond-false (nat_lt a b) Less (if a == b then Equal else Greater) (le-ltb a b (omega arith)) ∙ cond-false (a == b) Equal Greater (ne_eqb a b ne)) ∙ sym (ne_eqb a b ne))
    other)
    (cases_order a b)

equal_then : (a b : Ordering) → is_eq (ordering_then a b) ≡ (is_eq a && is_eq b)
equal_then Less b = refl
equal_then Equal b = refl
equal_then Greater b = refl

pair_equal : (a b : Scalar) → is_eq (scalar_cmp a b) ≡ ((rank a == rank b) && (number a == number b))
pair_equal a b = equal_then (nat_cmp (rank a) (rank b)) (nat_cmp (number a) (number b)) ∙ (λ j. nat_equal (rank a) (rank b) j && nat_equal (number a) (number b) j)

suc_equal : (n m : ℕ) → (suc n == suc m) ≡ (n == m)
suc_equal n m = ⊎_elim
    (λ same. eq-eqb (suc n) (suc m) (ap suc same) ∙ sym (eq-eqb n m same))
    (λ ne. let other : suc n ≡ suc m → ⊥ = omega arith in ne_eqb (suc n) (suc m) other ∙ sym (ne_eqb n m ne))
    (cases_eq n m)

scalar_equal : (a b : Scalar) → same_value (scalar_value a) (scalar_value b) ≡ is_eq (scalar_cmp a b)
scalar_equal (scalar.Bool true) (scalar.Bool true) = sym (pair_equal (scalar.Bool true) (scalar.Bool true))
scalar_equal (scalar.Bool true) (scalar.Bool false) = sym (pair_equal (scalar.Bool true) (scalar.Bool false))
scalar_equal (scalar.Bool false) (scalar.Bool true) = sym (pair_equal (scalar.Bool false) (scalar.Bool true))
scalar_equal (scalar.Bool false) (scalar.Bool false) = sym (pair_equal (scalar.Bool false) (scalar.Bool false))
scalar_equal (scalar.Bool b) (scalar.Word w) =
    let ne : 0 ≡ suc w.width → ⊥ = omega arith in
    sym (pair_equal (scalar.Bool b) (scalar.Word w) ∙ ap (λ c. c && (number (scalar.Bool b) == w.value)) (ne_eqb 0 (suc w.width) ne))
scalar_equal (scalar.Word w) (scalar.Bool b) =
    let ne : suc w.width ≡ 0 → ⊥ = omega arith in
    sym (pair_equal (scalar.Word w) (scalar.Bool b) ∙ ap (λ c. c && (w.value == number (scalar.Bool b))) (ne_eqb (suc w.width) 0 ne))
scalar_equal (scalar.Word v) (scalar.Word w) = sym (pair_equal (scalar.Word v) (scalar.Word w) ∙ ap (λ c. c && (v.value == w.value)) (suc_equal v.width w.width))

args_equal : (xs ys : List Scalar) → same_values (map scalar_value xs) (map scalar_value ys) ≡ is_eq (args_cmp xs ys)
args_equal [] [] = refl
args_equal [] (y ∷ ys) = refl
args_equal (x ∷ xs) [] = refl
args_equal (x ∷ xs) (y ∷ ys) = (λ j. scalar_equal x y j && args_equal xs ys j) ∙ sym (equal_then (scalar_cmp x y) (args_cmp xs ys))

-- the value for truth values and words
pub value_at : (d : Scalar) (rs : List Row) (t : List Scalar) → value_for (scalar_value d) rs (map scalar_value t) ≡ scalar_value (value_in d (row_at rs t))
value_at d [] t = refl
value_at d (r ∷ rs) t =
    ap (λ b. if b then scalar_value r.value else value_for (scalar_value d) rs (map scalar_value t)) (args_equal r.args t)
    ∙ go (is_eq (args_cmp r.args t)) (value_at d rs t) where
      go : (b : Bool) → value_for (scalar_value d) rs (map scalar_value t) ≡ scalar_value (value_in d (row_at rs t)) → (if b then scalar_value r.value else value_for (scalar_value d) rs (map scalar_value t)) ≡ scalar_value (value_in d (if b then Some r else row_at rs t))
      go true h = refl
      go false h = h

-- ---- one more row

module _ (f : Row) where
  pub row_met : (r : Row) (rs : List Row) → is_eq (args_cmp r.args f.args) ≡ true → entered_row (r ∷ rs) f ≡ f ∷ rs
  row_met r rs e = cond-true (is_eq (args_cmp r.args f.args)) (f ∷ rs) (if is_lt (args_cmp r.args f.args) then r ∷ entered_row rs f else f ∷ r ∷ rs) e

  pub row_after : (r : Row) (rs : List Row) → is_lt (args_cmp r.args f.args) ≡ true → entered_row (r ∷ rs) f ≡ r ∷ entered_row rs f
  row_after r rs e =
      cond-false (is_eq (args_cmp r.args f.args)) (f ∷ rs) (if is_lt (args_cmp r.args f.args) then r ∷ entered_row rs f else f ∷ r ∷ rs) (ap is_eq (less_is (args_cmp r.args f.args) e))
      ∙ cond-true (is_lt (args_cmp r.args f.args)) (r ∷ entered_row rs f) (f ∷ r ∷ rs) e

  pub row_before : (r : Row) (rs : List Row) → is_eq (args_cmp r.args f.args) ≡ false → is_lt (args_cmp r.args f.args) ≡ false → entered_row (r ∷ rs) f ≡ f ∷ r ∷ rs
  row_before r rs e g =
      cond-false (is_eq (args_cmp r.args f.args)) (f ∷ rs) (if is_lt (args_cmp r.args f.args) then r ∷ entered_row rs f else f ∷ r ∷ rs) e
      ∙ cond-false (is_lt (args_cmp r.args f.args)) (r ∷ entered_row rs f) (f ∷ r ∷ rs) g

  pub row_set : (rs : List Row) (p : ℕ) → RowsSplit rs f.args p → is_some (row_matching f.args (slice_get rs p)) ≡ true → set rs p f ≡ entered_row rs f
  row_set [] p s h = let q : ⊥ = cc in absurd q
  row_set (r ∷ rs) zero s h = go (is_eq (args_cmp r.args f.args)) refl where
    go : (b : Bool) → is_eq (args_cmp r.args f.args) ≡ b → f ∷ rs ≡ entered_row (r ∷ rs) f
    go true e = sym (row_met r rs e)
    go false e = let m = ap is_some (cond-false (is_eq (args_cmp r.args f.args)) (Some r) None e) in let q : ⊥ = cc in absurd q
  row_set (r ∷ rs) (suc p) s h = ap (λ x. r ∷ x) (row_set rs p s.1 h) ∙ sym (row_after r rs s.0)

  pub row_insert : (rs : List Row) (p : ℕ) → RowsSplit rs f.args p → is_some (row_matching f.args (slice_get rs p)) ≡ false → insert rs p f ≡ entered_row rs f
  row_insert [] zero s h = refl
  row_insert [] (suc p) s h = absurd s
  row_insert (r ∷ rs) zero s h = go (is_eq (args_cmp r.args f.args)) refl where
    go : (b : Bool) → is_eq (args_cmp r.args f.args) ≡ b → f ∷ r ∷ rs ≡ entered_row (r ∷ rs) f
    go true e = let m = ap is_some (cond-true (is_eq (args_cmp r.args f.args)) (Some r) None e) in let q : ⊥ = cc in absurd q
    go false e = sym (row_before r rs e s.0)
  row_insert (r ∷ rs) (suc p) s h = ap (λ x. r ∷ x) (row_insert rs p s.1 h) ∙ sym (row_after r rs s.0)

  row_entered_all : (P : Row → Type 0) (rs : List Row) → P f → AllByRecursion P rs → AllByRecursion P (entered_row rs f)
  row_entered_all P [] pf h = (pf, tt)
  row_entered_all P (r ∷ rs) pf h = go (is_eq (args_cmp r.args f.args)) (is_lt (args_cmp r.args f.args)) (row_entered_all P rs pf h.1) where
    go : (a b : Bool) → AllByRecursion P (entered_row rs f) → AllByRecursion P (if a then f ∷ rs else if b then r ∷ entered_row rs f else f ∷ r ∷ rs)
    go true b rest = (pf, h.1)
    go false true rest = (h.0, rest)
    go false false rest = (pf, h)

  same_order : (r : Row) → args_cmp r.args f.args ≡ Equal → (rs : List Row) → AllByRecursion (λ q. args_cmp r.args q.args ≡ Less) rs → AllByRecursion (λ q. args_cmp f.args q.args ≡ Less) rs
  same_order r e rs h = row_all_map (λ q. args_cmp r.args q.args ≡ Less) (λ q. args_cmp f.args q.args ≡ Less) (λ q less. sym (order.congr r.args f.args q.args e) ∙ less) rs h

  pub row_entered_rising : (rs : List Row) → AreRowsRising rs → AreRowsRising (entered_row rs f)
  row_entered_rising [] h = (tt, tt)
  row_entered_rising (r ∷ rs) h = go (args_cmp r.args f.args) refl (row_entered_rising rs h.1) where
    go : (o : Ordering) → args_cmp r.args f.args ≡ o → AreRowsRising (entered_row rs f) → AreRowsRising (entered_row (r ∷ rs) f)
    go Less e rest = subst AreRowsRising (sym (row_after r rs (ap is_lt e))) (row_entered_all (λ q. args_cmp r.args q.args ≡ Less) rs e h.0, rest)
    go Equal e rest = subst AreRowsRising (sym (row_met r rs (ap is_eq e))) (same_order r e rs h.0, h.1)
    go Greater e rest =
        let less = turned r.args f.args e in
        subst AreRowsRising (sym (row_before r rs (ap is_eq e) (ap is_lt e))) ((less, rows_after r.args f.args less rs h.0), h)

pub rows_kept : {A E : Type 0} (r : Result A E) (f : Row) (old new : List Row) → AreRowsRising old → OnOk r (new ≡ entered_row old f) → OnErr r (new ≡ old) → AreRowsRising new
rows_kept (Ok u) f old new h ok err = subst AreRowsRising (sym ok) (row_entered_rising f old h)
rows_kept (Err e) f old new h ok err = subst AreRowsRising (sym err) h
