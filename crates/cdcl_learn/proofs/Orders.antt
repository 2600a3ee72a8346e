-- For searches that carry `AreDecidedFirst` from call to call, and that add a learnt clause after they went back.
use Rattle.std.proofs.Common.{ℕ, ◌≡◌, ◌+◌, ◌-◌, ◌<◌, ◌≤◌, ◌++◌, zero, suc, Bool, true, false, List, [], ◌∷◌, Option, Some, None, length, filter, refl, sym, ap, ◌∙◌, inl, inr, arith}
use Rattle.std.specs.Prelude.{slice_get, nat_le, IsSome}
use Rattle.std.proofs.lemmas.Bool.{cases_lt, le-leb}
use Rattle.std.proofs.lemmas.List.{get_or_append_left, get_or-append_right, get_or_push, length_push, length-append}
use Rattle.cnf_base.specs.Literals.{Literal, negated}
use Rattle.cnf_base.specs.declared.clause.ClauseId.{ClauseId}
use Rattle.cdcl_core.specs.Levels.{Row, IsTrueBy, RestsBy, IsExtended, IsAdded}
use Rattle.cdcl_core.specs.State.{no_row}
use Rattle.cdcl_learn.specs.Rows.{row_at, level_at, reason_at, AreDecidedFirst}
use Rattle.cdcl_learn.proofs.Lists.{unset}
use Rattle.std.proofs.lemmas.Option.{same_Some}

pub first_none : (rows : List Row) → rows ≡ [] → AreDecidedFirst rows
first_none rows e i k h l n = absurd (omega (arith, h, ap length e))

-- a decided literal comes at a new level
pub first_decided : (rows new : List Row) (l : Literal) (level : ℕ) → AreDecidedFirst rows → ((k : ℕ) → k < length rows → level_at rows k ≤ level) → new ≡ rows ++ (l, level + 1, None) ∷ [] → AreDecidedFirst new
first_decided rows new l level first low is i k h less none =
    let size : length new ≡ length rows + 1 = rw is (length_push rows (l, level + 1, None)) in
    let old : (q : ℕ) → q < length rows → row_at new q ≡ row_at rows q = λ q a. rw is (get_or_append_left rows ((l, level + 1, None) ∷ []) no_row q a) in
    let under : k < length rows = omega (arith, h, less, size) in
    let at_k : level_at new k ≡ level_at rows k = ap (λ (r : Row). r.1) (old k under) in
    elim (cases_lt i (length rows)) [
      | inl a ↦
          let none2 : reason_at rows i ≡ None = ap (λ (r : Row). r.2) (sym (old i a)) ∙ none in
          omega (arith, at_k, ap (λ (r : Row). r.1) (old i a), first i k a less none2)
      | inr a ↦
          let e : i ≡ length rows = omega (arith, a, h, size) in
          let last : row_at new i ≡ (l, level + 1, None) = rw is (get_or_push rows (l, level + 1, None) no_row i (sym e)) in
          omega (arith, at_k, low k under, ap (λ (r : Row). r.1) last)
    ]

not_some : {A : Type 0} (o : Option ClauseId) → IsSome o → o ≡ None → A
not_some None s e = absurd cc
not_some (Some x) s e = absurd cc

-- forced literals come
pub first_forced : (rows more new : List Row) → AreDecidedFirst rows → ((j : ℕ) → j < length more → IsSome (reason_at more j)) → new ≡ rows ++ more → AreDecidedFirst new
first_forced rows more new first some is i k h less none =
    let size : length new ≡ length rows + length more = rw is (length-append rows more) in
    let old : (q : ℕ) → q < length rows → row_at new q ≡ row_at rows q = λ q a. rw is (get_or_append_left rows more no_row q a) in
    elim (cases_lt i (length rows)) [
      | inl a ↦
          let none2 : reason_at rows i ≡ None = ap (λ (r : Row). r.2) (sym (old i a)) ∙ none in
          omega (arith, ap (λ (r : Row). r.1) (old k (omega (arith, less, a))), ap (λ (r : Row). r.1) (old i a), first i k a less none2)
      | inr a ↦
          let at : row_at new i ≡ row_at more (i - length rows) = rw is (get_or-append_right rows more (length rows) i no_row refl a) in
          not_some (reason_at more (i - length rows)) (some (i - length rows) (omega (arith, h, size, a))) (ap (λ (r : Row). r.2) (sym at) ∙ none)
    ]

pub first_extended : (rows new : List Row) (level : ℕ) → AreDecidedFirst rows → IsExtended rows level new → AreDecidedFirst new
first_extended rows new level first x = first_forced rows x.0 new first (λ j h. (x.1.1 j no_row h).1) x.1.0

pub first_added : (rows new : List Row) (level : ℕ) (id : ClauseId) (c : List Literal) → AreDecidedFirst rows → IsAdded rows level id c new → AreDecidedFirst new
first_added rows new level id c first x = elim x [
  | inl a ↦ rw a.0 first
  | inr a ↦ first_forced rows ((a.0, level, Some id) ∷ []) new first (λ j h. let e : j ≡ 0 = omega (arith, h) in rw e refl) a.1.1.1.1
]

-- the later of two rows, where it is decided, is of a higher level
abbrev pub IsBelow : Row → Row → Type 0
IsBelow x y = y.2 ≡ None → x.1 < y.1

first_rest : (x : Row) (xs : List Row) → AreDecidedFirst (x ∷ xs) → AreDecidedFirst xs
first_rest x xs first i k h less none = first (suc i) (suc k) (omega (arith, h)) (omega (arith, less)) none

first_head : (x : Row) (xs : List Row) → AreDecidedFirst (x ∷ xs) → (j : ℕ) → j < length xs → IsBelow x (row_at xs j)
first_head x xs first j h none = first (suc j) 0 (omega (arith, h)) (omega arith) none

first_cons : (x : Row) (xs : List Row) → AreDecidedFirst xs → ((j : ℕ) → j < length xs → IsBelow x (row_at xs j)) → AreDecidedFirst (x ∷ xs)
first_cons x xs first head zero k h less none = absurd (omega (arith, less))
first_cons x xs first head (suc i) zero h less none = head i (omega (arith, h)) none
first_cons x xs first head (suc i) (suc k) h less none = first i k (omega (arith, h)) (omega (arith, less)) none

each_cons : (P : Row → Type 0) (x : Row) (ys : List Row) → P x → ((j : ℕ) → j < length ys → P (row_at ys j)) → (j : ℕ) → j < length (x ∷ ys) → P (row_at (x ∷ ys) j)
each_cons P x ys here rest zero h = here
each_cons P x ys here rest (suc j) h = rest j (omega (arith, h))

each_more : (P : Row → Type 0) (p : Row → Bool) (x : Row) (xs : List Row) → P x → ((j : ℕ) → j < length (filter p xs) → P (row_at (filter p xs) j)) → (b : Bool) → p x ≡ b → (j : ℕ) → j < length (filter p (x ∷ xs)) → P (row_at (filter p (x ∷ xs)) j)
each_more P p x xs here rest true e = rw e (each_cons P x (filter p xs) here rest)
each_more P p x xs here rest false e = rw e rest

each_kept : (P : Row → Type 0) (p : Row → Bool) (xs : List Row) → ((j : ℕ) → j < length xs → P (row_at xs j)) → (j : ℕ) → j < length (filter p xs) → P (row_at (filter p xs) j)
each_kept P p [] f = f
each_kept P p (x ∷ xs) f = each_more P p x xs (f 0 (omega arith)) (each_kept P p xs (λ j h. f (suc j) (omega (arith, h)))) (p x) refl

first_more : (p : Row → Bool) (x : Row) (xs : List Row) → AreDecidedFirst (x ∷ xs) → AreDecidedFirst (filter p xs) → (b : Bool) → p x ≡ b → AreDecidedFirst (filter p (x ∷ xs))
first_more p x xs first rest true e = rw e (first_cons x (filter p xs) rest (each_kept (IsBelow x) p xs (first_head x xs first)))
first_more p x xs first rest false e = rw e rest

-- literals are taken back
pub first_kept : (p : Row → Bool) (rows : List Row) → AreDecidedFirst rows → AreDecidedFirst (filter p rows)
first_kept p [] first = first
first_kept p (x ∷ xs) first = first_more p x xs first (first_kept p xs (first_rest x xs first)) (p x) refl

-- rows that a filter keeps
abbrev pub IsAmong : List Row → List Row → Type 0
IsAmong ys xs = (i : ℕ) (r : Row) → slice_get ys i ≡ Some r → (k : ℕ) × (slice_get xs k ≡ Some r)

among_cons : (x : Row) (ys xs : List Row) → IsAmong ys xs → IsAmong (x ∷ ys) (x ∷ xs)
among_cons x ys xs f zero r e = (0, e)
among_cons x ys xs f (suc i) r e = let q = f i r e in (suc q.0, q.1)

among_later : (x : Row) (ys xs : List Row) → IsAmong ys xs → IsAmong ys (x ∷ xs)
among_later x ys xs f i r e = let q = f i r e in (suc q.0, q.1)

among_more : (p : Row → Bool) (x : Row) (xs : List Row) → IsAmong (filter p xs) xs → (b : Bool) → p x ≡ b → IsAmong (filter p (x ∷ xs)) (x ∷ xs)
among_more p x xs f true e = rw e (among_cons x (filter p xs) xs f)
among_more p x xs f false e = rw e (among_later x (filter p xs) xs f)

found_kept : (p : Row → Bool) (xs : List Row) → IsAmong (filter p xs) xs
found_kept p [] = λ i r e. (i, e)
found_kept p (x ∷ xs) = among_more p x xs (found_kept p xs) (p x) refl

abbrev pub KeepsEach : (Row → Bool) → List Row → List Row → Type 0
KeepsEach p xs ys = (k : ℕ) (r : Row) → slice_get xs k ≡ Some r → p r ≡ true → (i : ℕ) × (slice_get ys i ≡ Some r)

keeps_cons : (p : Row → Bool) (x : Row) (xs ys : List Row) → KeepsEach p xs ys → KeepsEach p (x ∷ xs) (x ∷ ys)
keeps_cons p x xs ys f zero r e on = (0, e)
keeps_cons p x xs ys f (suc k) r e on = let q = f k r e on in (suc q.0, q.1)

keeps_past : (p : Row → Bool) (x : Row) (xs ys : List Row) → p x ≡ false → KeepsEach p xs ys → KeepsEach p (x ∷ xs) ys
keeps_past p x xs ys off f zero r e on = let same : x ≡ r = same_Some x r e in unset (p r) (rw same at off) on
keeps_past p x xs ys off f (suc k) r e on = f k r e on

keeps_more : (p : Row → Bool) (x : Row) (xs : List Row) → KeepsEach p xs (filter p xs) → (b : Bool) → p x ≡ b → KeepsEach p (x ∷ xs) (filter p (x ∷ xs))
keeps_more p x xs f true e = rw e (keeps_cons p x xs (filter p xs) f)
keeps_more p x xs f false e = rw e (keeps_past p x xs (filter p xs) e f)

kept_found : (p : Row → Bool) (xs : List Row) → KeepsEach p xs (filter p xs)
kept_found p [] = λ k r e on. (k, e)
kept_found p (x ∷ xs) = keeps_more p x xs (kept_found p xs) (p x) refl

abbrev pub below_level : ℕ → Row → Bool
below_level level r = nat_le r.1 level

true_before : (rows : List Row) (level j : ℕ) (l : Literal) → IsTrueBy (filter (below_level level) rows) j l → IsTrueBy rows j l
true_before rows level j l t =
    let q = found_kept (below_level level) rows t.0 (l, t.1.0, t.1.1.0) t.1.1.1.0 in
    (q.0, (t.1.0, (t.1.1.0, (q.1, t.1.1.1.1))))

true_after : (rows : List Row) (level j : ℕ) (l : Literal) → j ≤ level → IsTrueBy rows j l → IsTrueBy (filter (below_level level) rows) j l
true_after rows level j l low t =
    let on : nat_le t.1.0 level ≡ true = le-leb t.1.0 level (omega (arith, low, t.1.1.1.1)) in
    let q = kept_found (below_level level) rows t.0 (l, t.1.0, t.1.1.0) t.1.1.1.0 on in
    (q.0, (t.1.0, (t.1.1.0, (q.1, t.1.1.1.1))))

-- what rested at the end of a level does so after the search went back to a level that is not below
pub rests_after : (rows : List Row) (level j : ℕ) (c : List Literal) → j ≤ level → RestsBy rows j c → RestsBy (filter (below_level level) rows) j c
rests_after rows level j c low r = elim r [
  | inl a ↦ inl (a.0, (a.1.0, true_after rows level j a.0 low a.1.1))
  | inr a ↦ inr (
    a.0,
    (
      a.1.0,
      (
        a.1.1.0,
        (
          a.1.1.1.0,
          (
            a.1.1.1.1.0,
            (
              (λ f. a.1.1.1.1.1.0 (true_before rows level j (negated a.0) f)),
              (λ f. a.1.1.1.1.1.1 (true_before rows level j (negated a.1.0) f)),
            ),
          ),
        ),
      ),
    ),
  )
]
