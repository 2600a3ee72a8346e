-- Tables of functions that are written.
use Rattle.std.proofs.Common.{◌≡◌, ◌≢◌, add-one, ℕ, zero, suc, ◌+◌, ◌<◌, Bool, true, false, List, [], ◌∷◌, ◌++◌, length, take, get_or, map, refl, sym, ap, ap₂, ◌∙◌, subst, arith, append_assoc, append-nil, length-append}
use Rattle.std.specs.Ordering.{is_lt}
use Rattle.std.specs.Prelude.{MatchBool}
use Rattle.std.specs.declared.cmp.Ordering.{Ordering}
use Rattle.std.specs.declared.cmp.Ordering.TheVariants.{Less, Equal, Greater}
use Rattle.std.specs.List.{flat_map, AllByRecursion}
use Rattle.std.proofs.lemmas.List.{map-append, length-map, take_more}
use Rattle.std.proofs.lemmas.List.Concat.{flat_map-append}
use Rattle.cnf_base.proofs.Lists.{each_append, each_behind, each_get_or}
use Rattle.smt_terms.specs.declared.sort.Sort.{Sort}
use Rattle.smt_terms.specs.declared.sort.Signature.{Signature}
use Rattle.smt_terms.specs.declared.scalar.Scalar.{Scalar}
use Rattle.smt_values.specs.declared.table.Row.{Row}
use Rattle.smt_values.specs.Tables.{TableFields, AreRowsRising, args_cmp, entered_row, with_row, constant_table}
use Rattle.smt_values.specs.Held.{value_of}
use Rattle.smt_values.proofs.Rows.{order, row_after, row_entered_rising}
use Rattle.proof_text.specs.declared.list.WrittenScalar.{WrittenScalar}
use Rattle.proof_text.specs.Records.{written_scalar, row_scalars}
use Rattle.accepted_proof.specs.Models.{IsOfKind, AreOfKinds, IsRowOf, IsTableOf}
use Rattle.accepted_proof.proofs.Once.{cons_back, row_cut, some_row}
use Rattle.proof_checker.specs.Written.{IsWrittenTable}

-- ---- one row

args_length : (sorts : List Sort) (vs : List Scalar) → AreOfKinds sorts vs → length vs ≡ length sorts
args_length [] [] h = refl
args_length [] (v ∷ vs) h = absurd h
args_length (s ∷ ss) [] h = absurd h
args_length (s ∷ ss) (v ∷ vs) h = ap suc (args_length ss vs h.1)

row_length : (sorts : List Sort) (s : Sort) (r : Row) → IsRowOf sorts s r → length (row_scalars r) ≡ suc (length sorts)
row_length sorts s r h =
    let n = length-append (map written_scalar r.args) (written_scalar r.value ∷ []) in
    let m = length-map r.args written_scalar in
    let k = args_length sorts r.args h.0 in
    omega (arith, n, m, k)

row_back : (sorts : List Sort) (s : Sort) (r q : Row) → IsRowOf sorts s r → IsRowOf sorts s q → row_scalars r ≡ row_scalars q → r ≡ q
row_back sorts s r q a b e =
    let cut = row_cut sorts s r.args q.args r.value q.value [] [] a.0 b.0 a.1 b.1 (ap (λ x. x ++ []) e) in
    (λ i. record { args = cut.args i; value = cut.value i })

-- ---- the next row

-- what stands behind the rows that are there
record NextRow (sorts : List Sort) (s : Sort) (rs qs : List Row) (left : List WrittenScalar) : Type 0 where
  row : Row
  rest : List Row
  all : qs ≡ rs ++ row ∷ rest
  says : left ≡ row_scalars row ++ flat_map row_scalars rest
  fits : IsRowOf sorts s row

next_row : (sorts : List Sort) (s : Sort) (rs qs : List Row) (w : WrittenScalar) (left : List WrittenScalar) → AllByRecursion (IsRowOf sorts s) rs → AllByRecursion (IsRowOf sorts s) qs
    → flat_map row_scalars qs ≡ flat_map row_scalars rs ++ w ∷ left → NextRow sorts s rs qs (w ∷ left)
next_row sorts s [] [] w left a b e = let f : ⊥ = cc in absurd f
next_row sorts s [] (q ∷ qs) w left a b e = record { row = q; rest = qs; all = refl; says = sym e; fits = b.0 }
next_row sorts s (r ∷ rs) [] w left a b e =
    absurd (some_row (map written_scalar r.args) (written_scalar r.value) (flat_map row_scalars rs ++ w ∷ left) (e ∙ append_assoc (row_scalars r) (flat_map row_scalars rs) (w ∷ left)))
next_row sorts s (r ∷ rs) (q ∷ qs) w left a b e =
    let cut = row_cut sorts s q.args r.args q.value r.value (flat_map row_scalars qs) (flat_map row_scalars rs ++ w ∷ left) b.0.0 a.0.0 b.0.1 a.0.1 (e ∙ append_assoc (row_scalars r) (flat_map row_scalars rs) (w ∷ left)) in
    let same : q ≡ r = (λ i. record { args = cut.args i; value = cut.value i }) in
    let next = next_row sorts s rs qs w left a.1 b.1 cut.more in
    record { row = next.row; rest = next.rest; all = ap₂ (λ z zs. z ∷ zs) same next.all; says = next.says; fits = next.fits }

rows_before : (rs : List Row) (q : Row) (rest : List Row) → AreRowsRising (rs ++ q ∷ rest) → AllByRecursion (λ (r : Row). args_cmp r.args q.args ≡ Less) rs
rows_before [] q rest h = tt
rows_before (r ∷ rs) q rest h = ((each_behind (λ (x : Row). args_cmp r.args x.args ≡ Less) rs (q ∷ rest) h.0).0, rows_before rs q rest h.1)

rows_below : (rs : List Row) (n : ℕ) (d x : Row) (t : List Scalar) → AreRowsRising rs → suc n ≡ length rs → x ≡ get_or rs n d → args_cmp x.args t ≡ Less → AllByRecursion (λ (r : Row). args_cmp r.args t ≡ Less) rs
rows_below [] n d x t h k e lt = absurd (omega (arith, k))
rows_below (y ∷ []) zero d x t h k e lt = (subst (λ (z : Row). args_cmp z.args t ≡ Less) e lt, tt)
rows_below (y ∷ []) (suc n) d x t h k e lt = absurd (omega (arith, k))
rows_below (y ∷ z ∷ rs) zero d x t h k e lt = absurd (omega (arith, k))
rows_below (y ∷ z ∷ rs) (suc n) d x t h k e lt =
    let rest = rows_below (z ∷ rs) n d x t h.1 (omega (arith, k)) e lt in
    (order.trans y.args z.args t h.0.0 rest.0, rest)

is_less : (o : Ordering) (b : Bool) → is_lt o ≡ b → MatchBool b (o ≡ Less) (o ≡ Less → ⊥)
is_less Less true e = refl
is_less Less false e = let f : ⊥ = cc in absurd f
is_less Equal true e = let f : ⊥ = cc in absurd f
is_less Equal false e = λ k. let f : ⊥ = cc in f
is_less Greater true e = let f : ⊥ = cc in absurd f
is_less Greater false e = λ k. let f : ⊥ = cc in f

-- arguments are above all rows where they are above the last
pub above_last_row : (rs : List Row) (n : ℕ) (d x : Row) (t : List Scalar) (b : Bool) → AreRowsRising rs → suc n ≡ length rs → x ≡ get_or rs n d → is_lt (args_cmp x.args t) ≡ b
    → MatchBool b (AllByRecursion (λ (r : Row). args_cmp r.args t ≡ Less) rs) (AllByRecursion (λ (r : Row). args_cmp r.args t ≡ Less) rs → ⊥)
above_last_row rs n d x t true h k e l = rows_below rs n d x t h k e (is_less (args_cmp x.args t) true l)
above_last_row rs n d x t false h k e l = λ all.
    let lt : n < length rs = omega (arith, k) in
    is_less (args_cmp x.args t) false l (subst (λ (z : Row). args_cmp z.args t ≡ Less) (sym e) (each_get_or (λ (z : Row). args_cmp z.args t ≡ Less) rs all n d lt))

take_front : {A : Type 0} (xs ys : List A) (n : ℕ) → length xs ≡ n → take n (xs ++ ys) ≡ xs
take_front [] ys zero e = refl
take_front [] ys (suc n) e = absurd (omega arith)
take_front (x ∷ xs) ys zero e = absurd (omega arith)
take_front (x ∷ xs) ys (suc n) e = ap (λ zs. x ∷ zs) (take_front xs ys n (omega arith))

-- where the table so far is that of the values before those that are left
pub record IsTableSoFar (g : Signature) (default : WrittenScalar) (values left : List WrittenScalar) (t : TableFields) : Type 0 where
  pub table : IsTableOf g t
  pub first : written_scalar t.default ≡ default
  pub more : flat_map row_scalars t.rows ++ left ≡ values

module _ (g : Signature) (default : WrittenScalar) (values : List WrittenScalar) (w : WrittenScalar) (left : List WrittenScalar) (t : TableFields) (before : IsTableSoFar g default values (w ∷ left) t) where
  next : (u : TableFields) → IsWrittenTable g default values u → NextRow g.args g.value t.rows u.rows (w ∷ left)
  next u h = next_row g.args g.value t.rows u.rows w left before.table.rows h.table.rows (h.more ∙ sym before.more)

  first_row : (u : TableFields) (h : IsWrittenTable g default values u) → take (suc (length g.args)) (w ∷ left) ≡ row_scalars (next u h).row
  first_row u h =
      let x = next u h in
      ap (take (suc (length g.args))) x.says ∙ take_front (row_scalars x.row) (flat_map row_scalars x.rest) (suc (length g.args)) (row_length g.args g.value x.row x.fits)

  -- too few values are left for a row
  pub too_few : length (w ∷ left) < suc (length g.args) → (u : TableFields) → IsWrittenTable g default values u → ⊥
  too_few lt u h =
      let x = next u h in
      let a = ap length x.says in
      let b = length-append (row_scalars x.row) (flat_map row_scalars x.rest) in
      let c = row_length g.args g.value x.row x.fits in
      omega (arith, lt, a, b, c)

  -- they are no row of the function
  pub no_row : ((r : Row) → IsRowOf g.args g.value r → row_scalars r ≡ take (suc (length g.args)) (w ∷ left) → ⊥) → (u : TableFields) → IsWrittenTable g default values u → ⊥
  no_row none u h = none (next u h).row (next u h).fits (sym (first_row u h))

  -- the row is not above the others
  pub not_above : (r : Row) → IsRowOf g.args g.value r → row_scalars r ≡ take (suc (length g.args)) (w ∷ left) → (AllByRecursion (λ (x : Row). args_cmp x.args r.args ≡ Less) t.rows → ⊥) → (u : TableFields) → IsWrittenTable g default values u → ⊥
  not_above r fits says none u h =
      let x = next u h in
      let same = row_back g.args g.value x.row r x.fits fits (sym (first_row u h) ∙ sym says) in
      none (subst (λ (q : Row). AllByRecursion (λ (y : Row). args_cmp y.args q.args ≡ Less) t.rows) same (rows_before t.rows x.row x.rest (subst AreRowsRising x.all h.table.rising)))

  entered_last : (rs : List Row) (f : Row) → AllByRecursion (λ (x : Row). args_cmp x.args f.args ≡ Less) rs → entered_row rs f ≡ rs ++ f ∷ []
  entered_last [] f h = refl
  entered_last (r ∷ rs) f h = row_after f r rs (ap is_lt h.0) ∙ ap (λ z. r ∷ z) (entered_last rs f h.1)

  -- the row is one more of the table
  pub row_taken : (r : Row) (rest : List WrittenScalar) (new : TableFields) → IsRowOf g.args g.value r → row_scalars r ++ rest ≡ w ∷ left → AllByRecursion (λ (x : Row). args_cmp x.args r.args ≡ Less) t.rows
      → new ≡ with_row t r.args r.value → IsTableSoFar g default values rest new
  row_taken r rest new fits says above e =
      let rows : entered_row t.rows r ≡ t.rows ++ r ∷ [] = entered_last t.rows r above in
      let text : flat_map row_scalars (t.rows ++ r ∷ []) ≡ flat_map row_scalars t.rows ++ row_scalars r =
      flat_map-append row_scalars t.rows (r ∷ []) ∙ ap (λ x. flat_map row_scalars t.rows ++ x) (append-nil (row_scalars r)) in
      subst (IsTableSoFar g default values rest) (sym e) (record {
        table = record {
          default = before.table.default;
          rows = subst (AllByRecursion (IsRowOf g.args g.value)) (sym rows) (each_append (IsRowOf g.args g.value) t.rows (r ∷ []) before.table.rows (fits, tt));
          rising = row_entered_rising r t.rows before.table.rising;
        };
        first = before.first;
        more =
            ap (λ x. flat_map row_scalars x ++ rest) rows ∙ ap (λ x. x ++ rest) text ∙ append_assoc (flat_map row_scalars t.rows) (row_scalars r) rest
            ∙ ap (λ x. flat_map row_scalars t.rows ++ x) says ∙ before.more;
      })

-- no row is there yet
pub no_rows : (g : Signature) (default : WrittenScalar) (values : List WrittenScalar) (s : Scalar) (new : TableFields) → IsOfKind g.value (value_of s) → written_scalar s ≡ default → new ≡ constant_table s → IsTableSoFar g default values values new
no_rows g default values s new fits says e = subst (IsTableSoFar g default values values) (sym e) (record { table = record { default = fits; rows = tt; rising = tt }; first = says; more = refl })

-- no value is left
pub all_rows : (g : Signature) (default : WrittenScalar) (values left : List WrittenScalar) (t : TableFields) → left ≡ [] → IsTableSoFar g default values left t → IsWrittenTable g default values t
all_rows g default values left t e h = record { table = h.table; first = h.first; more = sym (append-nil (flat_map row_scalars t.rows)) ∙ ap (λ x. flat_map row_scalars t.rows ++ x) (sym e) ∙ h.more }

pub no_first : (g : Signature) (default : WrittenScalar) (values : List WrittenScalar) → ((s : Scalar) → IsOfKind g.value (value_of s) → written_scalar s ≡ default → ⊥) → (u : TableFields) → IsWrittenTable g default values u → ⊥
no_first g default values none u h = none u.default h.table.default h.first

-- ---- the same of values that are left

pub few : (g : Signature) (default : WrittenScalar) (values left : List WrittenScalar) (t : TableFields) → length left ≢ 0 → IsTableSoFar g default values left t → length left < length g.args + 1 → (u : TableFields) → IsWrittenTable g default values u → ⊥
few g default values [] t some before lt u h = some refl
few g default values (w ∷ left) t some before lt u h = too_few g default values w left t before (omega (arith, lt)) u h

pub none_left : (g : Signature) (default : WrittenScalar) (values left front : List WrittenScalar) (t : TableFields) → length left ≢ 0 → IsTableSoFar g default values left t → front ≡ take (length g.args + 1) left
    → ((r : Row) → IsRowOf g.args g.value r → row_scalars r ≡ front → ⊥) → (u : TableFields) → IsWrittenTable g default values u → ⊥
none_left g default values [] front t some before cut none u h = some refl
none_left g default values (w ∷ left) front t some before cut none u h =
    no_row g default values w left t before (λ r fits says. none r fits (says ∙ sym (cut ∙ ap (λ n. take n (w ∷ left)) (add-one (length g.args))))) u h

pub not_rising : (g : Signature) (default : WrittenScalar) (values left front : List WrittenScalar) (t : TableFields) → length left ≢ 0 → IsTableSoFar g default values left t → front ≡ take (length g.args + 1) left
    → (r : Row) → IsRowOf g.args g.value r → row_scalars r ≡ front → (AllByRecursion (λ (x : Row). args_cmp x.args r.args ≡ Less) t.rows → ⊥) → (u : TableFields) → IsWrittenTable g default values u → ⊥
not_rising g default values [] front t some before cut r fits says none u h = some refl
not_rising g default values (w ∷ left) front t some before cut r fits says none u h =
    not_above g default values w left t before r fits (says ∙ cut ∙ ap (λ n. take n (w ∷ left)) (add-one (length g.args))) none u h

pub one_more : (g : Signature) (default : WrittenScalar) (values left front rest : List WrittenScalar) (t new : TableFields) → length left ≢ 0 → IsTableSoFar g default values left t → front ++ rest ≡ left
    → (r : Row) → IsRowOf g.args g.value r → row_scalars r ≡ front → AllByRecursion (λ (x : Row). args_cmp x.args r.args ≡ Less) t.rows → new ≡ with_row t r.args r.value → IsTableSoFar g default values rest new
one_more g default values [] front rest t new some before cut r fits says above e = absurd (some refl)
one_more g default values (w ∷ left) front rest t new some before cut r fits says above e =
    row_taken g default values w left t before r rest new fits (ap (λ x. x ++ rest) says ∙ cut) above e

-- ---- arguments

kinds_push : (sorts : List Sort) (vs : List Scalar) (s : Sort) (v : Scalar) → AreOfKinds sorts vs → IsOfKind s (value_of v) → AreOfKinds (sorts ++ s ∷ []) (vs ++ v ∷ [])
kinds_push [] [] s v h k = (k, tt)
kinds_push [] (x ∷ vs) s v h k = absurd h
kinds_push (r ∷ sorts) [] s v h k = absurd h
kinds_push (r ∷ sorts) (x ∷ vs) s v h k = (h.0, kinds_push sorts vs s v h.1 k)

pub kinds_more : (sorts : List Sort) (k : ℕ) (d : Sort) (vs new : List Scalar) (v : Scalar) → k < length sorts → AreOfKinds (take k sorts) vs → IsOfKind (get_or sorts k d) (value_of v) → new ≡ vs ++ v ∷ [] → AreOfKinds (take (k + 1) sorts) new
kinds_more sorts k d vs new v lt h fits e =
    subst (AreOfKinds (take (k + 1) sorts)) (sym e) (subst (λ ss. AreOfKinds ss (vs ++ v ∷ [])) (sym (take_more sorts k d lt)) (kinds_push (take k sorts) vs (get_or sorts k d) v h fits))

pub text_more : (ws : List WrittenScalar) (k : ℕ) (w : WrittenScalar) (vs new : List Scalar) (v : Scalar) → k < length ws → w ≡ get_or ws k w → map written_scalar vs ≡ take k ws → written_scalar v ≡ w → new ≡ vs ++ v ∷ [] → map written_scalar new ≡ take (k + 1) ws
text_more ws k w vs new v lt at h says e =
    ap (map written_scalar) e ∙ map-append written_scalar vs (v ∷ []) ∙ ap₂ (λ xs x. xs ++ x ∷ []) h (says ∙ at) ∙ sym (take_more ws k w lt)

pub no_argument : (sorts : List Sort) (vs : List Scalar) (ws : List WrittenScalar) (k : ℕ) (d : Sort) (w : WrittenScalar) → AreOfKinds sorts vs → map written_scalar vs ≡ ws → k < length sorts → w ≡ get_or ws k w
    → ((x : Scalar) → IsOfKind (get_or sorts k d) (value_of x) → written_scalar x ≡ w → ⊥) → ⊥
no_argument [] vs ws k d w h e lt at none = omega (arith, lt)
no_argument (s ∷ sorts) [] ws k d w h e lt at none = h
no_argument (s ∷ sorts) (v ∷ vs) [] k d w h e lt at none = let f : ⊥ = cc in f
no_argument (s ∷ sorts) (v ∷ vs) (x ∷ ws) zero d w h e lt at none = none v h.0 ((cons_back (written_scalar v) x (map written_scalar vs) ws e).0 ∙ sym at)
no_argument (s ∷ sorts) (v ∷ vs) (x ∷ ws) (suc k) d w h e lt at none =
    no_argument sorts vs ws k d w h.1 (cons_back (written_scalar v) x (map written_scalar vs) ws e).1 (omega (arith, lt)) at none
