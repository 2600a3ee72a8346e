-- The rows of a table, read at a signature.
use Rattle.std.proofs.Common.{◌≡◌, ℕ, zero, suc, ◌+◌, ◌<◌, Bool, true, false, ◌&&◌, List, [], ◌∷◌, ◌++◌, length, map, get_or, take, refl, sym, ap, ◌∙◌, subst, arith, ⊎_elim, Some}
use Rattle.std.specs.Prelude.{if◌then◌else◌}
use Rattle.std.specs.List.{AllByRecursion}
use Rattle.std.specs.Ordering.{nat_cmp, ordering_then, ordering_reverse, is_eq, is_lt}
use Rattle.std.specs.declared.cmp.Ordering.{Ordering}
use Rattle.std.specs.declared.cmp.Ordering.TheVariants.{Less, Equal, Greater}
use Rattle.std.proofs.lemmas.Bool.{eq-eqb, cond-false}
use Rattle.std.proofs.lemmas.List.{take_more}
use Rattle.std.proofs.lemmas.Map.Lookups.{exact_unsigned}
use Rattle.cnf_base.proofs.Lists.{each_get_or}
use Rattle.smt_terms.specs.declared.sort.Sort.{Sort}
use Rattle.smt_terms.specs.declared.sort.Sort.TheVariants as sort
use Rattle.smt_terms.specs.declared.sort.Signature.{Signature}
use Rattle.smt_terms.specs.declared.scalar.Scalar.{Scalar}
use Rattle.smt_terms.specs.declared.scalar.Scalar.TheVariants as scalar
use Rattle.smt_terms.specs.Ranks.{is_plain}
use Rattle.smt_terms.specs.Same.{same_sort}
use Rattle.smt_terms.specs.Scalars.{scalar_value, scalar_sort}
use Rattle.smt_terms.specs.Terms.{IsSort}
use Rattle.smt_terms.specs.Values.{HasSort, read_at}
use Rattle.smt_terms.specs.Values as of
use Rattle.smt_values.specs.declared.table.Row.{Row}
use Rattle.smt_values.specs.Held.{value_of}
use Rattle.smt_values.specs.Tables.{TableFields, value_for, table_value, rank, number, scalar_cmp, args_cmp, AreRowsRising, row_at, value_in, entered_row, constant_table, with_row}
use Rattle.smt_values.proofs.Rows.{order, value_at, row_entered_rising}
use Rattle.smt_values.proofs.Changing.{row_changes}
use Rattle.written_models.specs.Alike.{HaveSorts}
use Rattle.written_models.specs.Fitting.{are_of, EntersRow, IsRowEntered}
use Rattle.accepted_proof.specs.Models.{IsOfKind, AreOfKinds, IsRowOf, IsTableOf}

-- ---- the sorts of arguments

bool_itself : (s : Sort) → s ≡ sort.Bool → same_sort s sort.Bool ≡ true
bool_itself s e = ap (λ r. same_sort r sort.Bool) e

word_itself : (s : Sort) (n : ℕ) → s ≡ sort.Word n → same_sort s (sort.Word n) ≡ true
word_itself s n e = ap (λ r. same_sort r (sort.Word n)) e ∙ eq-eqb n n refl

kind_is : (s : Sort) (x : Scalar) → IsOfKind s (value_of x) → same_sort s (scalar_sort x) ≡ true
kind_is s (scalar.Bool b) h = bool_itself s h
kind_is s (scalar.Word w) h = word_itself s w.width h.0

kinds_are : (ss : List Sort) (xs : List Scalar) → AreOfKinds ss xs → are_of ss xs ≡ true
kinds_are [] [] h = refl
kinds_are [] (x ∷ xs) h = absurd h
kinds_are (s ∷ ss) [] h = absurd h
kinds_are (s ∷ ss) (x ∷ xs) h = (λ i. kind_is s x h.0 i && kinds_are ss xs h.1 i)

equal_first : (a b : Ordering) → is_eq (ordering_then a b) ≡ true → (a ≡ Equal) × (is_eq b ≡ true)
equal_first Less b e = let q : ⊥ = cc in absurd q
equal_first Equal b e = (refl, e)
equal_first Greater b e = let q : ⊥ = cc in absurd q

one_sort : (x y : Scalar) → rank x ≡ rank y → scalar_sort x ≡ scalar_sort y
one_sort (scalar.Bool b) (scalar.Bool c) e = refl
one_sort (scalar.Bool b) (scalar.Word w) e = absurd (omega (arith, e))
one_sort (scalar.Word v) (scalar.Bool c) e = absurd (omega (arith, e))
one_sort (scalar.Word v) (scalar.Word w) e = let q : v.width ≡ w.width = omega (arith, e) in ap sort.Word q

compared_sorts : (x y : Scalar) → scalar_cmp x y ≡ Equal → scalar_sort x ≡ scalar_sort y
compared_sorts x y e = one_sort x y (exact_unsigned (rank x) (rank y) (equal_first (nat_cmp (rank x) (rank y)) (nat_cmp (number x) (number y)) (ap is_eq e)).0)

-- arguments that are equal are of the same sorts
equal_args : (ss : List Sort) (xs ys : List Scalar) → is_eq (args_cmp xs ys) ≡ true → are_of ss xs ≡ are_of ss ys
equal_args ss [] [] e = refl
equal_args ss [] (y ∷ ys) e = let q : ⊥ = cc in absurd q
equal_args ss (x ∷ xs) [] e = let q : ⊥ = cc in absurd q
equal_args [] (x ∷ xs) (y ∷ ys) e = refl
equal_args (s ∷ ss) (x ∷ xs) (y ∷ ys) e =
    let p = equal_first (scalar_cmp x y) (args_cmp xs ys) e in
    let first : scalar_sort x ≡ scalar_sort y = compared_sorts x y p.0 in
    let rest : are_of ss xs ≡ are_of ss ys = equal_args ss xs ys p.1 in
    (λ i. same_sort s (first i) && rest i)

-- values of such sorts are those of truth values and words
scalar_of : (s : Sort) (v : of.Value) → is_plain s ≡ true → IsSort s → HasSort s v → (x : Scalar) × (scalar_value x ≡ v) × IsOfKind s (value_of x)
scalar_of sort.Bool v p i h = (scalar.Bool h.0, sym h.1, refl)
scalar_of (sort.Word n) v p i h = (scalar.Word (record { width = n; value = h.0 }), sym h.1, (refl, (omega (arith, i.0), i.1, h.2)))
scalar_of (sort.Array n m) v p i h = let q : ⊥ = cc in absurd q

pub scalars_of : (ss : List Sort) (vs : List of.Value) → AllByRecursion (λ (s : Sort). (is_plain s ≡ true) × IsSort s) ss → HaveSorts ss vs → (xs : List Scalar) × (map scalar_value xs ≡ vs) × AreOfKinds ss xs
scalars_of [] [] p h = ([], refl, tt)
scalars_of [] (v ∷ vs) p h = absurd h
scalars_of (s ∷ ss) [] p h = absurd h
scalars_of (s ∷ ss) (v ∷ vs) p h =
    let x = scalar_of s v p.0.0 p.0.1 h.0 in
    let xs = scalars_of ss vs p.1 h.1 in
    (x.0 ∷ xs.0, (λ i. x.1 i ∷ xs.1 i), (x.2, xs.2))

-- ---- one row more at the end

row_pushed : (rs : List Row) (f : Row) (t : List Scalar) → AllByRecursion (λ (q : Row). args_cmp q.args f.args ≡ Less) rs → row_at (rs ++ f ∷ []) t ≡ (if is_eq (args_cmp f.args t) then Some f else row_at rs t)
row_pushed [] f t h = refl
row_pushed (r ∷ rs) f t h = go (args_cmp r.args t) refl (row_pushed rs f t h.1) where
  go : (o : Ordering) → args_cmp r.args t ≡ o → row_at (rs ++ f ∷ []) t ≡ (if is_eq (args_cmp f.args t) then Some f else row_at rs t)
      → (if is_eq (args_cmp r.args t) then Some r else row_at (rs ++ f ∷ []) t) ≡ (if is_eq (args_cmp f.args t) then Some f else (if is_eq (args_cmp r.args t) then Some r else row_at rs t))
  go Less e ih = (λ i. if is_eq (e i) then Some r else row_at (rs ++ f ∷ []) t) ∙ ih ∙ (λ i. if is_eq (args_cmp f.args t) then Some f else (if is_eq (sym e i) then Some r else row_at rs t))
  go Greater e ih = (λ i. if is_eq (e i) then Some r else row_at (rs ++ f ∷ []) t) ∙ ih ∙ (λ i. if is_eq (args_cmp f.args t) then Some f else (if is_eq (sym e i) then Some r else row_at rs t))
  go Equal e ih =
      let after : args_cmp t f.args ≡ Less = sym (order.congr r.args t f.args e) ∙ h.0 in
      let other : is_eq (args_cmp f.args t) ≡ false = ap is_eq (order.antisymm f.args t ∙ ap ordering_reverse after) in
      (λ i. if is_eq (e i) then Some r else row_at (rs ++ f ∷ []) t)
      ∙ (λ i. if is_eq (sym e i) then Some r else row_at rs t)
      ∙ sym (cond-false (is_eq (args_cmp f.args t)) (Some f) (if is_eq (args_cmp r.args t) then Some r else row_at rs t) other)

choice_value : (d : Scalar) (f : Row) (b : Bool) (rs : List Row) (t : List Scalar) → scalar_value (value_in d (if b then Some f else row_at rs t)) ≡ (if b then scalar_value f.value else value_for (scalar_value d) rs (map scalar_value t))
choice_value d f true rs t = refl
choice_value d f false rs t = sym (value_at d rs t)

value_pushed : (d : Scalar) (rs : List Row) (f : Row) (t : List Scalar) → AllByRecursion (λ (q : Row). args_cmp q.args f.args ≡ Less) rs
    → value_for (scalar_value d) (rs ++ f ∷ []) (map scalar_value t) ≡ (if is_eq (args_cmp f.args t) then scalar_value f.value else value_for (scalar_value d) rs (map scalar_value t))
value_pushed d rs f t h = value_at d (rs ++ f ∷ []) t ∙ ap (λ o. scalar_value (value_in d o)) (row_pushed rs f t h) ∙ choice_value d f (is_eq (args_cmp f.args t)) rs t

-- the rows before one have lower arguments
before : (rs : List Row) (k : ℕ) (d : Row) → AreRowsRising rs → k < length rs → AllByRecursion (λ (q : Row). args_cmp q.args (get_or rs k d).args ≡ Less) (take k rs)
before [] k d h lt = absurd (omega (arith, lt))
before (r ∷ rs) zero d h lt = tt
before (r ∷ rs) (suc k) d h lt = (each_get_or (λ (q : Row). args_cmp r.args q.args ≡ Less) rs h.0 k d (omega (arith, lt)), before rs k d h.1 (omega (arith, lt)))

entered_all : (f : Row) (P : Row → Type 0) (rs : List Row) → P f → AllByRecursion P rs → AllByRecursion P (entered_row rs f)
entered_all f P [] pf h = (pf, tt)
entered_all f P (r ∷ rs) pf h = go (is_eq (args_cmp r.args f.args)) (is_lt (args_cmp r.args f.args)) (entered_all f P rs pf h.1) where
  go : (a b : Bool) → AllByRecursion P (entered_row rs f) → AllByRecursion P (if a then f ∷ rs else if b then r ∷ entered_row rs f else f ∷ r ∷ rs)
  go true b rest = (pf, h.1)
  go false true rest = (h.0, rest)
  go false false rest = (pf, h)

-- ---- what is read

-- so many rows of a table are read, as far as the signature has their arguments
pub record AreReadTo (g : Signature) (from : TableFields) (k : ℕ) (t : TableFields) : Type 0 where
  pub table : IsTableOf g t
  pub values : (args : List Scalar) → AreOfKinds g.args args → read_at g.value (value_for (scalar_value from.default) (take k from.rows) (map scalar_value args)) ≡ table_value t (map scalar_value args)

-- a table without rows
constant_is : (g : Signature) (x : Scalar) → IsOfKind g.value (value_of x) → IsTableOf g (constant_table x)
constant_is g x h = record { default = h; rows = tt; rising = tt }

pub rows_first : (g : Signature) (from : TableFields) (x : Scalar) (t : TableFields) → IsOfKind g.value (value_of x) → scalar_value x ≡ read_at g.value (scalar_value from.default) → t ≡ constant_table x → AreReadTo g from 0 t
rows_first g from x t kind reads is = subst (AreReadTo g from 0) (sym is) (record { table = constant_is g x kind; values = λ args h. sym reads })

module _ (g : Signature) (from : TableFields) (k : ℕ) (t : TableFields) (r : Row) (rising : AreRowsRising from.rows) (lt : k < length from.rows) (at : r ≡ get_or from.rows k r) (h : AreReadTo g from k t) where
  abbrev left : ℕ → List Scalar → of.Value
  left j args = value_for (scalar_value from.default) (take j from.rows) (map scalar_value args)

  pushed : (args : List Scalar) → left (k + 1) args ≡ (if is_eq (args_cmp r.args args) then scalar_value r.value else left k args)
  pushed args =
      let lower : AllByRecursion (λ (q : Row). args_cmp q.args r.args ≡ Less) (take k from.rows) = subst (λ (x : Row). AllByRecursion (λ (q : Row). args_cmp q.args x.args ≡ Less) (take k from.rows)) (sym at) (before from.rows k r rising lt) in
      ap (λ rs. value_for (scalar_value from.default) rs (map scalar_value args)) (take_more from.rows k r lt ∙ ap (λ x. take k from.rows ++ x ∷ []) (sym at))
      ∙ value_pushed from.default (take k from.rows) r args lower

  chosen : (b : Bool) (x : Scalar) (args : List Scalar) → AreOfKinds g.args args → scalar_value x ≡ read_at g.value (scalar_value r.value)
      → read_at g.value (if b then scalar_value r.value else left k args) ≡ (if b then scalar_value x else table_value t (map scalar_value args))
  chosen true x args fit reads = sym reads
  chosen false x args fit reads = h.values args fit

  -- a row whose arguments are of the sorts is set
  pub rows_more : (own : List Scalar) (x : Scalar) (new : TableFields) → own ≡ r.args → AreOfKinds g.args r.args → IsOfKind g.value (value_of x) → scalar_value x ≡ read_at g.value (scalar_value r.value) → new ≡ with_row t own x → AreReadTo g from (k + 1) new
  rows_more own x new same fits kind reads is =
      let f : Row = record { args = r.args; value = x } in
      let entered : new ≡ with_row t r.args x = is ∙ ap (λ as'. with_row t as' x) same in
      subst (AreReadTo g from (k + 1)) (sym entered) (record {
        table = record { default = h.table.default; rows = entered_all f (IsRowOf g.args g.value) t.rows (fits, kind) h.table.rows; rising = row_entered_rising f t.rows h.table.rising };
        values = λ args fit. ap (read_at g.value) (pushed args) ∙ chosen (is_eq (args_cmp r.args args)) x args fit reads ∙ sym (row_changes t r.args args x);
      })

  other_args : (args : List Scalar) → AreOfKinds g.args args → are_of g.args r.args ≡ false → (b : Bool) → is_eq (args_cmp r.args args) ≡ b → b ≡ false
  other_args args fit unfit true e = let q : true ≡ false = sym (kinds_are g.args args fit) ∙ sym (equal_args g.args r.args args e) ∙ unfit in let f : ⊥ = cc in absurd f
  other_args args fit unfit false e = refl

  -- one whose arguments are not is no value of theirs
  pub rows_past : are_of g.args r.args ≡ false → AreReadTo g from (k + 1) t
  rows_past unfit = record {
    table = h.table;
    values = λ args fit.
        ap (read_at g.value) (pushed args)
        ∙ ap (λ b. read_at g.value (if b then scalar_value r.value else left k args)) (other_args args fit unfit (is_eq (args_cmp r.args args)) refl)
        ∙ h.values args fit;
  }

  pub rows_next : (new : TableFields) → IsRowEntered g r t new → AreReadTo g from (k + 1) new
  rows_next new = ⊎_elim
      (λ (e : EntersRow g r t new). rows_more r.args e.value new refl e.fits e.kind e.reads e.is)
      (λ (p : (are_of g.args r.args ≡ false) × (new ≡ t)). subst (AreReadTo g from (k + 1)) (sym p.1) (rows_past p.0))

-- all rows are read
pub rows_all : (g : Signature) (from : TableFields) (k : ℕ) (t : TableFields) → take k from.rows ≡ from.rows → AreReadTo g from k t
    → (args : List Scalar) → AreOfKinds g.args args → read_at g.value (table_value from (map scalar_value args)) ≡ table_value t (map scalar_value args)
rows_all g from k t whole h args fit = sym (ap (λ rs. read_at g.value (value_for (scalar_value from.default) rs (map scalar_value args))) whole) ∙ h.values args fit
