-- Variables with a value, and a list of variables while the trail grows and goes back.
use Rattle.std.proofs.Common.{◌≡◌, ℕ, zero, suc, ◌+◌, ◌<◌, ◌≤◌, Bool, true, false, not, List, [], ◌∷◌, ◌++◌, length, take, filter, get_or, refl, sym, ap, ◌∙◌, subst, ⊎_elim, arith}
use Rattle.std.specs.Prelude.{All, Contains, MatchBool, nat_le, slice_index}
use Rattle.std.proofs.lemmas.Bool.{cases_lt}
use Rattle.std.proofs.lemmas.List.{get_or_past, get_or-take, get_or_default, get_or_append_left, length-take-le, length-append, take_all}
use Rattle.cnf_base.specs.Literals.{Literal, negated}
use Rattle.cnf_base.specs.declared.clause.ClauseId.{ClauseId}
use Rattle.variable_list.specs.Variables.{IsVariable, IsListed}
use Rattle.cdcl_core.specs.Levels.{Row, IsTrueBy, IsFalseBy, IsOpen, IsExtended, IsAdded}
use Rattle.cdcl_loop.specs.declared.agenda.Agenda.{Agenda}
use Rattle.cdcl_loop.specs.Courses.{AreValued}
use Rattle.cdcl_loop.specs.Agendas.{IsValuedBy, place_at, IsScanned}
use Rattle.cdcl_loop.proofs.Courses.{true_later, true_extended, true_added, true_kept}

-- ---- variables with a value

open_either : (rows : List Row) (level : ℕ) (l m : Literal) → l.variable ≡ m.variable → IsOpen rows level l → IsOpen rows level m
open_either rows level l m e h = go l.positive m.positive refl refl
  where
    same : l.positive ≡ m.positive → IsOpen rows level m
    same p = let q : l ≡ m = λ i. record { variable = e i; positive = p i } in subst (IsOpen rows level) q h

    differ : not l.positive ≡ m.positive → l.positive ≡ not m.positive → IsOpen rows level m
    differ p q =
        let a : negated l ≡ m = λ i. record { variable = e i; positive = p i } in
        let b : l ≡ negated m = λ i. record { variable = e i; positive = q i } in
        ((λ t. h.1 (subst (IsTrueBy rows level) (sym a) t)), (λ t. h.0 (subst (IsTrueBy rows level) (sym b) t)))

    go : (b c : Bool) → l.positive ≡ b → m.positive ≡ c → IsOpen rows level m
    go true true p q = same (p ∙ sym q)
    go false false p q = same (p ∙ sym q)
    go true false p q = differ (ap not p ∙ sym q) (p ∙ sym (ap not q))
    go false true p q = differ (ap not p ∙ sym q) (p ∙ sym (ap not q))

-- a variable with a value is not open
valued_closed : (rows : List Row) (level : ℕ) (l : Literal) → IsValuedBy rows level l.variable → IsOpen rows level l → ⊥
valued_closed rows level l v h = (open_either rows level l v.0 (sym v.1) h).0 v.2

literal_valued : (rows : List Row) (level : ℕ) (l : Literal) (b : Bool) → MatchBool b (IsTrueBy rows level l) (IsFalseBy rows level l) → IsValuedBy rows level l.variable
literal_valued rows level l true t = (l, refl, t)
literal_valued rows level l false t = (negated l, refl, t)

-- ---- the first variable without a value: a literal of the variable at this place was looked at

-- a literal may have a variable of the list
pub variable_at : (xs items : List ℕ) (i : ℕ) → items ≡ xs → i < length items → All IsVariable xs → IsVariable (slice_index items i)
variable_at xs items i same lt all = subst (λ (ys : List ℕ). IsVariable (slice_index ys i)) (sym same) (all i 0 (subst (λ (ys : List ℕ). i < length ys) same lt))

-- the variable at a place of the list is listed
pub listed_at : (xs : List ℕ) (i x : ℕ) → i < length xs → x ≡ slice_index xs i → Contains xs x
listed_at xs i x lt e = (i, lt, get_or_default xs i x 0 lt ∙ sym e)

module _ (rows : List Row) (level i : ℕ) (xs items : List ℕ) (l : Literal) (same : items ≡ xs) (is : l ≡ record { variable = slice_index items i; positive = true }) where
  looked_at : l.variable ≡ slice_index xs i
  looked_at = ap (λ (m : Literal). m.variable) is ∙ ap (λ (ys : List ℕ). slice_index ys i) same

  pub unset_at : IsOpen rows level l → (m : Literal) → m.variable ≡ slice_index xs i → IsOpen rows level m
  unset_at h m e = open_either rows level l m (looked_at ∙ sym e) h

  pub valued_more : (start : ℕ) (b : Bool) → MatchBool b (IsTrueBy rows level l) (IsFalseBy rows level l) → ((k : ℕ) → start ≤ k → k < i → IsValuedBy rows level (slice_index xs k)) → (k : ℕ) → start ≤ k → k < i + 1 → IsValuedBy rows level (slice_index xs k)
  valued_more start b t h k le lt = ⊎_elim (λ less. h k le less) (λ ge. here (omega (arith, lt, ge))) (cases_lt k i)
    where
      here : i ≡ k → IsValuedBy rows level (slice_index xs k)
      here e = subst (λ j. IsValuedBy rows level (slice_index xs j)) e (subst (IsValuedBy rows level) looked_at (literal_valued rows level l b t))

-- ---- a list at its place

module _ (a : Agenda) (rows : List Row) (level : ℕ) (h : IsScanned a rows level) where
  place_now : place_at a level ≡ a.cursor
  place_now = get_or_past a.marks.items level a.cursor (omega (arith, h.levels))

  pub cursor_within : a.cursor ≤ length a.list
  cursor_within = subst (λ p. p ≤ length a.list) place_now (h.within level)

  -- the place moves on at this level
  module _ (place : ℕ) (high : place ≤ length a.list) (more : (k : ℕ) → a.cursor ≤ k → k < place → IsValuedBy rows level (slice_index a.list k)) where
    before : (j : ℕ) → j < level → place_at a j ≡ place_at (record a { cursor = place }) j
    before j less = get_or_default a.marks.items j a.cursor place (omega (arith, less, h.levels))

    now : (j : ℕ) → level ≤ j → place_at (record a { cursor = place }) j ≡ place
    now j ge = get_or_past a.marks.items j place (omega (arith, ge, h.levels))

    valued_here : (k : ℕ) → k < place → IsValuedBy rows level (slice_index a.list k)
    valued_here k lt = ⊎_elim (λ old. h.valued level k (subst (λ p. k < p) (sym place_now) old)) (λ new. more k new lt) (cases_lt k a.cursor)

    valued_later : (j k : ℕ) → level ≤ j → k < place → IsValuedBy rows j (slice_index a.list k)
    valued_later j k ge lt = let v = valued_here k lt in (v.0, v.1, true_later rows level j v.0 ge v.2)

    pub scanned_moved : IsScanned (record a { cursor = place }) rows level
    scanned_moved = record {
      levels = h.levels;
      within = λ j. ⊎_elim
          (λ less. subst (λ p. p ≤ length a.list) (before j less) (h.within j))
          (λ ge. subst (λ p. p ≤ length a.list) (sym (now j ge)) high)
          (cases_lt j level);
      valued = λ j k lt. ⊎_elim
          (λ less. h.valued j k (subst (λ p. k < p) (sym (before j less)) lt))
          (λ ge. valued_later j k ge (subst (λ p. k < p) (now j ge) lt))
          (cases_lt j level);
    }

    -- at the end of the list
    pub all_valued : length a.list ≤ place → AreValued a.list rows level
    all_valued end l c =
        valued_closed rows level l
        (subst (IsValuedBy rows level) (get_or_default a.list c.0 0 l.variable c.1 ∙ c.2) (valued_here c.0 (omega (arith, end, c.1))))

  -- a new level begins
  pub scanned_marked : (b : Agenda) → b.list ≡ a.list → b.cursor ≡ a.cursor → b.marks.items ≡ a.marks.items ++ a.cursor ∷ [] → IsScanned b rows (level + 1)
  scanned_marked b list cursor marks = record {
    levels = omega (arith, ap length marks, length-append a.marks.items (a.cursor ∷ []), h.levels);
    within = λ j. subst (λ p. p ≤ length b.list) (sym (still j)) (subst (λ (xs : List ℕ). place_at a j ≤ length xs) (sym list) (h.within j));
    valued = λ j k lt. subst (λ (xs : List ℕ). IsValuedBy rows j (slice_index xs k)) (sym list) (h.valued j k (subst (λ p. k < p) (still j) lt));
  }
    where
      pushed : (xs : List ℕ) (j d : ℕ) → get_or (xs ++ d ∷ []) j d ≡ get_or xs j d
      pushed [] zero d = refl
      pushed [] (suc j) d = refl
      pushed (x ∷ xs) zero d = refl
      pushed (x ∷ xs) (suc j) d = pushed xs j d

      still : (j : ℕ) → place_at b j ≡ place_at a j
      still j = (λ i. get_or (marks i) j (cursor i)) ∙ pushed a.marks.items j a.cursor

  -- it goes back to a lower level
  module _ (low : ℕ) (le : low ≤ level) (b : Agenda) (list : b.list ≡ a.list) (cursor : b.cursor ≡ place_at a low) (marks : b.marks.items ≡ take low a.marks.items) where
    size : length (take low a.marks.items) ≡ low
    size = length-take-le low a.marks.items (omega (arith, le, h.levels))

    kept_before : (j : ℕ) → j < low → place_at b j ≡ place_at a j
    kept_before j less =
        ap (λ (xs : List ℕ). get_or xs j b.cursor) marks
        ∙ get_or-take low a.marks.items j b.cursor less
        ∙ get_or_default a.marks.items j b.cursor a.cursor (omega (arith, less, le, h.levels))

    kept_now : (j : ℕ) → low ≤ j → place_at b j ≡ place_at a low
    kept_now j ge =
        ap (λ (xs : List ℕ). get_or xs j b.cursor) marks
        ∙ get_or_past (take low a.marks.items) j b.cursor (omega (arith, ge, size))
        ∙ cursor

    valued_kept : (i j k : ℕ) → i ≤ low → i ≤ j → k < place_at a i → IsValuedBy (filter (λ r. nat_le r.1 low) rows) j (slice_index b.list k)
    valued_kept i j k small up lt =
        let v = h.valued i k lt in (
          v.0,
          v.1 ∙ ap (λ (xs : List ℕ). slice_index xs k) (sym list),
          true_later (filter (λ r. nat_le r.1 low) rows) i j v.0 up (true_kept rows low i v.0 small v.2),
        )

    pub scanned_back : IsScanned b (filter (λ r. nat_le r.1 low) rows) low
    scanned_back = record {
      levels = ap length marks ∙ size;
      within = λ j. ⊎_elim
          (λ less. subst (λ p. p ≤ length b.list) (sym (kept_before j less)) (subst (λ (xs : List ℕ). place_at a j ≤ length xs) (sym list) (h.within j)))
          (λ ge. subst (λ p. p ≤ length b.list) (sym (kept_now j ge)) (subst (λ (xs : List ℕ). place_at a low ≤ length xs) (sym list) (h.within low)))
          (cases_lt j low);
      valued = λ j k lt. ⊎_elim
          (λ less. valued_kept j j k (omega (arith, less)) (omega arith) (subst (λ p. k < p) (kept_before j less) lt))
          (λ ge. valued_kept low j k (omega arith) ge (subst (λ p. k < p) (kept_now j ge) lt))
          (cases_lt j low);
    }

-- where the level has no mark, it is the present one, and the place stays
pub scanned_still : (a : Agenda) (rows : List Row) (level low : ℕ) → low ≤ level → length a.marks.items ≤ low → IsScanned a rows level → IsScanned a (filter (λ r. nat_le r.1 low) rows) low
scanned_still a rows level low le few h =
    scanned_back a rows level h low le a refl (sym (get_or_past a.marks.items low a.cursor few)) (sym (take_all low a.marks.items few))

-- what was read at a mark
pub mark_at : (a : Agenda) (items : List ℕ) (k x : ℕ) → items ≡ a.marks.items → k < length items → x ≡ get_or items k x → x ≡ place_at a k
mark_at a items k x same lt is =
    is
    ∙ ap (λ (ys : List ℕ). get_or ys k x) same
    ∙ get_or_default a.marks.items k x a.cursor (subst (λ (ys : List ℕ). k < length ys) same lt)

-- at the start
pub scanned_none : (a : Agenda) (rows : List Row) → a.cursor ≡ 0 → a.marks.items ≡ [] → IsScanned a rows 0
scanned_none a rows cursor marks = record {
  levels = ap length marks;
  within = λ j. subst (λ p. p ≤ length a.list) (sym (at_none j)) (omega arith);
  valued = λ j k lt. absurd (omega (arith, lt, at_none j));
}
  where
    at_none : (j : ℕ) → place_at a j ≡ 0
    at_none j = λ i. get_or (marks i) j (cursor i)

-- more variables
scanned_longer : (a : Agenda) (rows : List Row) (level : ℕ) (more : List ℕ) → IsScanned a rows level → IsScanned (record a { list = a.list ++ more }) rows level
scanned_longer a rows level more h = record {
  levels = h.levels;
  within = λ j. longer (place_at a j) (h.within j);
  valued = λ j k lt. let v = h.valued j k lt in (v.0, v.1 ∙ sym (get_or_append_left a.list more 0 k (inside (place_at a j) k (h.within j) lt)), v.2);
}
  where
    longer : (p : ℕ) → p ≤ length a.list → p ≤ length (a.list ++ more)
    longer p le = omega (arith, le, length-append a.list more)

    inside : (p k : ℕ) → p ≤ length a.list → k < p → k < length a.list
    inside p k le lt = omega (arith, le, lt)

pub scanned_listed : (a : Agenda) (rows : List Row) (level x : ℕ) (list : List ℕ) → IsListed a.list x list → IsScanned a rows level → IsScanned (record a { list = list }) rows level
scanned_listed a rows level x list listed h = ⊎_elim
    (λ old. subst (λ (xs : List ℕ). IsScanned (record a { list = xs }) rows level) (sym old.1) h)
    (λ new. subst (λ (xs : List ℕ). IsScanned (record a { list = xs }) rows level) (sym new.1) (scanned_longer a rows level (x ∷ []) h))
    listed

-- ---- a trail that grows at this level, and the place that stays

pub scanned_grown : (a : Agenda) (rows new : List Row) (level n : ℕ) → n ≡ level → ((j : ℕ) (l : Literal) → IsTrueBy rows j l → IsTrueBy new j l) → IsScanned a rows level → IsScanned a new n
scanned_grown a rows new level n same more h = record {
  levels = h.levels ∙ sym same;
  within = h.within;
  valued = λ j k lt. let v = h.valued j k lt in (v.0, v.1, more j v.0 v.2);
}

pub scanned_extended : (a : Agenda) (rows new : List Row) (level n : ℕ) → IsExtended rows level new → n ≡ level → IsScanned a rows level → IsScanned a new n
scanned_extended a rows new level n x same = scanned_grown a rows new level n same (λ j l t. true_extended rows new level j l x t)

pub scanned_added : (a : Agenda) (rows new : List Row) (level n : ℕ) (id : ClauseId) (c : List Literal) → IsAdded rows level id c new → n ≡ level → IsScanned a rows level → IsScanned a new n
scanned_added a rows new level n id c x same = scanned_grown a rows new level n same (λ j l t. true_added rows new level j id c l x t)

pub scanned_same : (a : Agenda) (rows new : List Row) (level n : ℕ) → new ≡ rows → n ≡ level → IsScanned a rows level → IsScanned a new n
scanned_same a rows new level n e same = scanned_grown a rows new level n same (λ j l t. subst (λ (rs : List Row). IsTrueBy rs j l) (sym e) t)
