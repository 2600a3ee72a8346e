-- The rows of a trail that grows and goes back, and the decisions of a search.
use Rattle.std.proofs.Common.{◌≡◌, ℕ, zero, suc, ◌+◌, ◌-◌, ◌<◌, ◌≤◌, Bool, true, false, List, [], ◌∷◌, ◌++◌, length, filter, Some, None, refl, sym, ap, ◌∙◌, subst, inl, inr, arith}
use Rattle.std.specs.Prelude.{◌⊎◌, Contains, IsSome, slice_get, nat_le}
use Rattle.std.proofs.lemmas.Bool.{cases_lt, le-leb}
use Rattle.std.proofs.lemmas.List.{get_or_append_left, get_or-append_right, length-append}
use Rattle.cnf_base.specs.Literals.{Literal}
use Rattle.cnf_base.specs.declared.clause.ClauseId.{ClauseId}
use Rattle.cnf_base.proofs.Lists.{slice_get-longer}
use Rattle.cdcl_core.specs.Levels.{Row, IsTrueBy, IsExtended, IsAdded}
use Rattle.cdcl_core.specs.State.{no_row}
use Rattle.cdcl_learn.specs.Rows.{row_at, level_at}
use Rattle.cdcl_learn.specs.Puts.{DecidesOnly}
use Rattle.cdcl_loop.specs.Courses.{AreRaised, IsCourse}

-- ---- each row

abbrev pub Each : (Row → Type 0) → List Row → Type 0
Each P rows = (i : ℕ) → i < length rows → P (row_at rows i)

pub each_append : (P : Row → Type 0) (rows more : List Row) → Each P rows → Each P more → Each P (rows ++ more)
each_append P rows more h k i lt = elim (cases_lt i (length rows)) [
  | inl a ↦ subst P (sym (get_or_append_left rows more no_row i a)) (h i a)
  | inr a ↦ subst P (sym (get_or-append_right rows more (length rows) i no_row refl a)) (k (i - length rows) (omega (arith, lt, a, length-append rows more)))
]

pub each_one : (P : Row → Type 0) (r : Row) → P r → Each P (r ∷ [])
each_one P r h zero lt = h
each_one P r h (suc i) lt = absurd (omega (arith, lt))

each_cons : (P : Row → Type 0) (r : Row) (rows : List Row) → P r → Each P rows → Each P (r ∷ rows)
each_cons P r rows here rest zero lt = here
each_cons P r rows here rest (suc i) lt = rest i (omega (arith, lt))

pub each_filter : (P Q : Row → Type 0) (p : Row → Bool) (rows : List Row) → ((r : Row) → P r → p r ≡ true → Q r) → Each P rows → Each Q (filter p rows)
each_filter P Q p [] f h = λ i lt. absurd (omega (arith, lt))
each_filter P Q p (r ∷ rows) f h = go (p r) refl (each_filter P Q p rows f (λ i lt. h (suc i) (omega (arith, lt))))
  where
    go : (b : Bool) → p r ≡ b → Each Q (filter p rows) → Each Q (filter p (r ∷ rows))
    go true e rest = rw e (each_cons Q r (filter p rows) (f r (h 0 (omega arith)) e) rest)
    go false e rest = rw e rest

-- the forced rows of an extension
pub each_forced : (P : Row → Type 0) (rows new : List Row) (level : ℕ) → ((r : Row) → IsSome r.2 → P r) → IsExtended rows level new → Each P rows → Each P new
each_forced P rows new level f x h = rw x.1.0 (each_append P rows x.0 h (λ j lt. f (row_at x.0 j) (x.1.1 j no_row lt).1))

pub each_added : (P : Row → Type 0) (rows new : List Row) (level : ℕ) (id : ClauseId) (c : List Literal) → ((r : Row) → IsSome r.2 → P r) → IsAdded rows level id c new → Each P rows → Each P new
each_added P rows new level id c f x h = elim x [
  | inl a ↦ rw a.0 h
  | inr a ↦ rw a.1.1.1.1 (each_append P rows ((a.0, level, Some id) ∷ []) h (each_one P (a.0, level, Some id) (f (a.0, level, Some id) refl)))
]

-- ---- truth

pub true_more : (rows more : List Row) (j : ℕ) (l : Literal) → IsTrueBy rows j l → IsTrueBy (rows ++ more) j l
true_more rows more j l t = (t.0, (t.1.0, (t.1.1.0, (slice_get-longer rows more t.0 (l, t.1.0, t.1.1.0) t.1.1.1.0, t.1.1.1.1))))

pub true_later : (rows : List Row) (j k : ℕ) (l : Literal) → j ≤ k → IsTrueBy rows j l → IsTrueBy rows k l
true_later rows j k l le t = (t.0, (t.1.0, (t.1.1.0, (t.1.1.1.0, omega (arith, le, t.1.1.1.1)))))

pub true_extended : (rows new : List Row) (level j : ℕ) (l : Literal) → IsExtended rows level new → IsTrueBy rows j l → IsTrueBy new j l
true_extended rows new level j l x t = rw x.1.0 (true_more rows x.0 j l t)

pub true_added : (rows new : List Row) (level j : ℕ) (id : ClauseId) (c : List Literal) (l : Literal) → IsAdded rows level id c new → IsTrueBy rows j l → IsTrueBy new j l
true_added rows new level j id c l x t = elim x [
  | inl a ↦ rw a.0 t
  | inr a ↦ rw a.1.1.1.1 (true_more rows ((a.0, level, Some id) ∷ []) j l t)
]

-- a row that is kept is found among those that are
found_kept : (p : Row → Bool) (rows : List Row) (i : ℕ) (r : Row) → slice_get rows i ≡ Some r → p r ≡ true → (k : ℕ) × (slice_get (filter p rows) k ≡ Some r)
found_kept p [] i r e on = let f : ⊥ = cc in absurd f
found_kept p (x ∷ rows) zero r e on = let q : x ≡ r = cc in rw (ap p q ∙ on) (0, e)
found_kept p (x ∷ rows) (suc i) r e on = go (p x) refl (found_kept p rows i r e on)
  where
    go : (b : Bool) → p x ≡ b → (k : ℕ) × (slice_get (filter p rows) k ≡ Some r) → (k : ℕ) × (slice_get (filter p (x ∷ rows)) k ≡ Some r)
    go true q rest = rw q (suc rest.0, rest.1)
    go false q rest = rw q rest

pub true_kept : (rows : List Row) (level j : ℕ) (l : Literal) → j ≤ level → IsTrueBy rows j l → IsTrueBy (filter (λ r. nat_le r.1 level) rows) j l
true_kept rows level j l le t =
    let k = found_kept (λ r. nat_le r.1 level) rows t.0 (l, t.1.0, t.1.1.0) t.1.1.1.0 (le-leb t.1.0 level (omega (arith, le, t.1.1.1.1))) in
    (k.0, (t.1.0, (t.1.1.0, (k.1, t.1.1.1.1))))

-- ---- decisions

forced_not_none : {A : Type 0} (r : Row) → IsSome r.2 → r.2 ≡ None → A
forced_not_none {A} (l, level, None) s e = absurd cc
forced_not_none {A} (l, level, Some id) s e = absurd cc

pub raised_extended : (rows new : List Row) (level : ℕ) → IsExtended rows level new → AreRaised rows → AreRaised new
raised_extended rows new level x h = each_forced (λ r. r.2 ≡ None → 0 < r.1) rows new level (λ r s. forced_not_none r s) x h

pub raised_added : (rows new : List Row) (level : ℕ) (id : ClauseId) (c : List Literal) → IsAdded rows level id c new → AreRaised rows → AreRaised new
raised_added rows new level id c x h = each_added (λ r. r.2 ≡ None → 0 < r.1) rows new level id c (λ r s. forced_not_none r s) x h

pub raised_kept : (rows : List Row) (p : Row → Bool) → AreRaised rows → AreRaised (filter p rows)
raised_kept rows p h = each_filter (λ r. r.2 ≡ None → 0 < r.1) (λ r. r.2 ≡ None → 0 < r.1) p rows (λ r k e. k) h

pub raised_decided : (rows new : List Row) (l : Literal) (level : ℕ) → new ≡ rows ++ (l, level + 1, None) ∷ [] → AreRaised rows → AreRaised new
raised_decided rows new l level e h = rw e (each_append (λ r. r.2 ≡ None → 0 < r.1) rows ((l, level + 1, None) ∷ []) h (each_one (λ r. r.2 ≡ None → 0 < r.1) (l, level + 1, None) (λ q. omega arith)))

abbrev IsAssumedBy : List Literal → ℕ → Row → Type 0
IsAssumedBy given base r = r.2 ≡ None → r.1 ≤ base → Contains given r.0

pub course_start : (rows : List Row) (given : List Literal) → AreRaised rows → IsCourse rows 0 0 given
course_start rows given h = record {
  lower = omega arith;
  assumed = λ i lt none low. absurd (omega (arith, low, h i lt none));
  all = λ lt. absurd (omega (arith, lt));
}

pub course_extended : (rows new : List Row) (level base : ℕ) (given : List Literal) → IsExtended rows level new → IsCourse rows level base given → IsCourse new level base given
course_extended rows new level base given x h = record {
  lower = h.lower;
  assumed = each_forced (IsAssumedBy given base) rows new level (λ r s e. forced_not_none r s e) x h.assumed;
  all = λ lt l c. true_extended rows new level base l x (h.all lt l c);
}

pub course_added : (rows new : List Row) (level base : ℕ) (id : ClauseId) (c : List Literal) (given : List Literal) → IsAdded rows level id c new → IsCourse rows level base given → IsCourse new level base given
course_added rows new level base id c given x h = record {
  lower = h.lower;
  assumed = each_added (IsAssumedBy given base) rows new level id c (λ r s e. forced_not_none r s e) x h.assumed;
  all = λ lt l k. true_added rows new level base id c l x (h.all lt l k);
}

-- a search that goes back
pub course_cut : (rows : List Row) (level base k : ℕ) (given : List Literal) → k ≤ level → k < base → IsCourse rows level base given → IsCourse (filter (λ r. nat_le r.1 k) rows) k k given
course_cut rows level base k given le low h = record {
  lower = omega arith;
  assumed = each_filter (IsAssumedBy given base) (IsAssumedBy given k) (λ r. nat_le r.1 k) rows (λ r f on e upto. f e (omega (arith, upto, low))) h.assumed;
  all = λ lt. absurd (omega (arith, lt));
}

pub course_kept : (rows : List Row) (level base k : ℕ) (given : List Literal) → k ≤ level → base ≤ k → IsCourse rows level base given → IsCourse (filter (λ r. nat_le r.1 k) rows) k base given
course_kept rows level base k given le low h = record {
  lower = low;
  assumed = each_filter (IsAssumedBy given base) (IsAssumedBy given base) (λ r. nat_le r.1 k) rows (λ r f on. f) h.assumed;
  all = λ lt l c. true_kept rows k base l low (h.all (omega (arith, lt, le)) l c);
}

-- a given literal is decided, where only given ones were
pub course_given : (rows new : List Row) (level base : ℕ) (l : Literal) (given : List Literal) → base ≡ level → ((i : ℕ) → i < length rows → level_at rows i ≤ level) → new ≡ rows ++ (l, level + 1, None) ∷ [] → Contains given l → IsCourse rows level base given → IsCourse new (level + 1) (base + 1) given
course_given rows new level base l given same top e has h = record {
  lower = omega (arith, same);
  assumed = rw e
      (each_append (IsAssumedBy given (base + 1)) rows ((l, level + 1, None) ∷ [])
      (λ i lt none low. h.assumed i lt none (omega (arith, top i lt, same)))
      (each_one (IsAssumedBy given (base + 1)) (l, level + 1, None) (λ q r. has)));
  all = λ lt. absurd (omega (arith, lt, same));
}

-- another literal is decided, where all given ones are true
pub course_free : (rows new : List Row) (level base : ℕ) (l : Literal) (given : List Literal) → ((m : Literal) → Contains given m → IsTrueBy rows level m) → new ≡ rows ++ (l, level + 1, None) ∷ [] → IsCourse rows level base given → IsCourse new (level + 1) base given
course_free rows new level base l given all e h = record {
  lower = omega (arith, h.lower);
  assumed = rw e
      (each_append (IsAssumedBy given base) rows ((l, level + 1, None) ∷ []) h.assumed
      (each_one (IsAssumedBy given base) (l, level + 1, None) (λ q low. absurd (omega (arith, low, h.lower)))));
  all = λ lt m c. rw e (true_more rows ((l, level + 1, None) ∷ []) base m (early m c (cases_lt base level)));
}
  where
    early : (m : Literal) → Contains given m → (base < level) ⊎ (level ≤ base) → IsTrueBy rows base m
    early m c (inl lt) = h.all lt m c
    early m c (inr ge) = true_later rows level base m ge (all m c)

pub decides_given : (rows : List Row) (level base : ℕ) (given : List Literal) → base ≡ level → ((i : ℕ) → i < length rows → level_at rows i ≤ level) → IsCourse rows level base given → DecidesOnly given rows
decides_given rows level base given same top h i lt none = h.assumed i lt none (omega (arith, top i lt, same))

-- ---- going back

pub went_below : (rows new : List Row) (level base k n : ℕ) (given : List Literal) → new ≡ filter (λ r. nat_le r.1 k) rows → n ≡ k → k ≤ level → k < base → IsCourse rows level base given → IsCourse new n k given
went_below rows new level base k n given e same le low h = rw (e, same) (course_cut rows level base k given le low h)

pub went_above : (rows new : List Row) (level base k n : ℕ) (given : List Literal) → new ≡ filter (λ r. nat_le r.1 k) rows → n ≡ k → k ≤ level → base ≤ k → IsCourse rows level base given → IsCourse new n base given
went_above rows new level base k n given e same le low h = rw (e, same) (course_kept rows level base k given le low h)

pub course_came : (rows new : List Row) (level n base : ℕ) (id : ClauseId) (c : List Literal) (given : List Literal) → IsAdded rows level id c new → n ≡ level → IsCourse rows level base given → IsCourse new n base given
course_came rows new level n base id c given x e h = rw e (course_added rows new level base id c given x h)

pub course_grew : (rows new : List Row) (level n base : ℕ) (given : List Literal) → IsExtended rows level new → n ≡ level → IsCourse rows level base given → IsCourse new n base given
course_grew rows new level n base given x e h = rw e (course_extended rows new level base given x h)

pub course_begun : (rows : List Row) (level : ℕ) (given : List Literal) → AreRaised rows → level ≡ 0 → IsCourse rows level 0 given
course_begun rows level given h e = rw e (course_start rows given h)
