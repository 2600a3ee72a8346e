-- The entries of rows: what is found among them.
use Rattle.std.proofs.Common.{◌≡◌, ℕ, zero, suc, ◌+◌, ◌<◌, ◌≤◌, Bool, true, false, List, [], ◌∷◌, ◌++◌, length, map, refl, ap, sym, ◌∙◌, subst, arith, inl, inr, Option, Some, None}
use Rattle.std.specs.Prelude.{◌==◌, ◌&&◌, if◌then◌else◌, slice_get, slice_index_or, slice_set, ◌⊎◌}
use Rattle.std.proofs.lemmas.Bool.{eq-eqb, ne_eqb, cases_eq}
use Rattle.std.proofs.lemmas.List.{get_or_default, get_or_past}
use Rattle.std.proofs.lemmas.Option.{get_or_from_slice_get}
use Rattle.proof_log.specs.Pairs.{kept_for, with_pair, found, flat}

module _ {V : Type 0} where
  -- the first, or else the second
  abbrev either : Option V → Option V → Option V
  either None o = o
  either (Some x) o = Some x

  either_none : (o : Option V) → either o None ≡ o
  either_none None = refl
  either_none (Some x) = refl

  row_here : (n : ℕ) (row : List (ℕ × V)) (rest : List (ℕ × (ℕ × V))) (t : ℕ) → found (map (λ (e : ℕ × V). (n, e)) row ++ rest) t n ≡ either (kept_for row t) (found rest t n)
  row_here n [] rest t = refl
  row_here n (e ∷ row) rest t = go (t == e.0) (n == n) (eq-eqb n n refl) (row_here n row rest t)
    where
      go : (b c : Bool) → c ≡ true → found (map (λ (x : ℕ × V). (n, x)) row ++ rest) t n ≡ either (kept_for row t) (found rest t n)
          → (if b && c then Some e.1 else found (map (λ (x : ℕ × V). (n, x)) row ++ rest) t n) ≡ either (if b then Some e.1 else kept_for row t) (found rest t n)
      go true true same h = refl
      go true false same h = let f : ⊥ = cc in absurd f
      go false c same h = h

  row_other : (n : ℕ) (row : List (ℕ × V)) (rest : List (ℕ × (ℕ × V))) (t u : ℕ) → (u ≡ n → ⊥) → found (map (λ (e : ℕ × V). (n, e)) row ++ rest) t u ≡ found rest t u
  row_other n [] rest t u ne = refl
  row_other n (e ∷ row) rest t u ne = go (t == e.0) (u == n) (ne_eqb u n ne) (row_other n row rest t u ne)
    where
      go : (b c : Bool) → c ≡ false → found (map (λ (x : ℕ × V). (n, x)) row ++ rest) t u ≡ found rest t u
          → (if b && c then Some e.1 else found (map (λ (x : ℕ × V). (n, x)) row ++ rest) t u) ≡ found rest t u
      go true true other h = let f : ⊥ = cc in absurd f
      go true false other h = h
      go false c other h = h

  flat_below : (n : ℕ) (rows : List (List (ℕ × V))) (t u : ℕ) → u < n → found (flat n rows) t u ≡ None
  flat_below n [] t u lt = refl
  flat_below n (row ∷ rows) t u lt =
      let ne : u ≡ n → ⊥ = omega arith in
      row_other n row (flat (suc n) rows) t u ne ∙ flat_below (suc n) rows t u (omega arith)

  flat_at : (n : ℕ) (rows : List (List (ℕ × V))) (t k : ℕ) → found (flat n rows) t (n + k) ≡ kept_for (slice_index_or rows k []) t
  flat_at n [] t k = refl
  flat_at n (row ∷ rows) t zero =
      let here : n + 0 ≡ n = omega arith in
      ap (λ u. found (flat n (row ∷ rows)) t u) here
      ∙ row_here n row (flat (suc n) rows) t
      ∙ ap (either (kept_for row t)) (flat_below (suc n) rows t n (omega arith))
      ∙ either_none (kept_for row t)
  flat_at n (row ∷ rows) t (suc k) =
      let ne : n + suc k ≡ n → ⊥ = omega arith in
      let next : n + suc k ≡ suc n + k = omega arith in
      row_other n row (flat (suc n) rows) t (n + suc k) ne ∙ ap (λ u. found (flat (suc n) rows) t u) next ∙ flat_at (suc n) rows t k

  -- what is found for an upper term is what its row has
  pub flat_found : (rows : List (List (ℕ × V))) (t u : ℕ) → found (flat 0 rows) t u ≡ kept_for (slice_index_or rows u []) t
  flat_found rows t u = let same : u ≡ 0 + u = omega arith in ap (λ k. found (flat 0 rows) t k) same ∙ flat_at 0 rows t u

  -- an empty row more changes nothing
  flat_push : (n : ℕ) (rows : List (List (ℕ × V))) → flat n (rows ++ [] ∷ []) ≡ flat n rows
  flat_push n [] = refl
  flat_push n (row ∷ rows) = ap (λ r. map (λ (e : ℕ × V). (n, e)) row ++ r) (flat_push (suc n) rows)

  pub flat_more : (rows : List (List (ℕ × V))) → flat 0 (rows ++ [] ∷ []) ≡ flat 0 rows
  flat_more rows = flat_push 0 rows

  -- ---- one row changed

  set_here : (rows : List (List (ℕ × V))) (k : ℕ) (row : List (ℕ × V)) → k < length rows → slice_index_or (slice_set rows k row) k [] ≡ row
  set_here [] k row lt = absurd (omega arith)
  set_here (x ∷ rows) zero row lt = refl
  set_here (x ∷ rows) (suc k) row lt = set_here rows k row (omega arith)

  set_other : (rows : List (List (ℕ × V))) (k u : ℕ) (row : List (ℕ × V)) → (u ≡ k → ⊥) → slice_index_or (slice_set rows k row) u [] ≡ slice_index_or rows u []
  set_other [] k u row ne = refl
  set_other (x ∷ rows) zero zero row ne = absurd (ne refl)
  set_other (x ∷ rows) zero (suc u) row ne = refl
  set_other (x ∷ rows) (suc k) zero row ne = refl
  set_other (x ∷ rows) (suc k) (suc u) row ne = set_other rows k u row (λ q. ne (ap suc q))

  set_same : (rows : List (List (ℕ × V))) (k : ℕ) → slice_set rows k (slice_index_or rows k []) ≡ rows
  set_same [] k = refl
  set_same (x ∷ rows) zero = refl
  set_same (x ∷ rows) (suc k) = ap (λ r. x ∷ r) (set_same rows k)

  -- a row with one pair more
  found_set : (rows : List (List (ℕ × V))) (old : List (ℕ × (ℕ × V))) (t u : ℕ) (a : V) (row : List (ℕ × V)) → flat 0 rows ≡ old → u < length rows
      → ((x : ℕ) → kept_for row x ≡ kept_for ((t, a) ∷ slice_index_or rows u []) x)
      → (x y : ℕ) → found (flat 0 (slice_set rows u row)) x y ≡ with_pair (found old) t u a x y
  found_set rows old t u a row is lt more x y = flat_found (slice_set rows u row) x y ∙ go (cases_eq y u) ∙ ap (λ es. with_pair (found es) t u a x y) is
    where
      here : (b : Bool) → b ≡ true → (c : Bool) → (if c then Some a else kept_for (slice_index_or rows u []) x) ≡ (if c && b then Some a else found (flat 0 rows) x u)
      here true q true = refl
      here true q false = sym (flat_found rows x u)
      here false q c = let f : ⊥ = cc in absurd f

      other : (b : Bool) → b ≡ false → (c : Bool) → kept_for (slice_index_or rows y []) x ≡ (if c && b then Some a else found (flat 0 rows) x y)
      other true q c = let f : ⊥ = cc in absurd f
      other false q true = sym (flat_found rows x y)
      other false q false = sym (flat_found rows x y)

      go : ((y ≡ u) ⊎ (y ≡ u → ⊥)) → kept_for (slice_index_or (slice_set rows u row) y []) x ≡ with_pair (found (flat 0 rows)) t u a x y
      go (inl same) =
          subst (λ z. kept_for (slice_index_or (slice_set rows u row) z []) x ≡ with_pair (found (flat 0 rows)) t u a x z) (sym same)
          (ap (λ r. kept_for r x) (set_here rows u row lt) ∙ more x ∙ here (u == u) (eq-eqb u u refl) (x == t))
      go (inr ne) = ap (λ r. kept_for r x) (set_other rows u y row ne) ∙ other (y == u) (ne_eqb y u ne) (x == t)

  -- ---- what calls tell

  pub get_row : (rows slice : List (List (ℕ × V))) (old : List (ℕ × (ℕ × V))) (t u : ℕ) (row : List (ℕ × V)) (o : Option V) → slice ≡ rows → flat 0 rows ≡ old → slice_get slice u ≡ Some row → o ≡ kept_for row t → o ≡ found old t u
  get_row rows slice old t u row o same is there e =
      let here : slice_index_or rows u [] ≡ row = get_or_from_slice_get rows u row [] (ap (λ xs. slice_get xs u) (sym same) ∙ there) in
      e ∙ ap (λ r. kept_for r t) (sym here) ∙ sym (flat_found rows t u) ∙ ap (λ es. found es t u) is

  pub get_none : (rows slice : List (List (ℕ × V))) (old : List (ℕ × (ℕ × V))) (t u : ℕ) → slice ≡ rows → flat 0 rows ≡ old → length slice ≤ u → None ≡ found old t u
  get_none rows slice old t u same is le =
      let past : length rows ≤ u = subst (λ (xs : List (List (ℕ × V))). length xs ≤ u) same le in
      sym (ap (λ es. found es t u) (sym is) ∙ flat_found rows t u ∙ ap (λ r. kept_for r t) (get_or_past rows u [] past))

  row_is : (rows : List (List (ℕ × V))) (u : ℕ) (row : List (ℕ × V)) → row ≡ slice_index_or rows u row → u < length rows → row ≡ slice_index_or rows u []
  row_is rows u row here lt = here ∙ get_or_default rows u row [] lt

  pub none_kept : (rows : List (List (ℕ × V))) (old : List (ℕ × (ℕ × V))) (t u : ℕ) (row : List (ℕ × V)) → flat 0 rows ≡ old → row ≡ slice_index_or rows u row → u < length rows → found old t u ≡ None → kept_for row t ≡ None
  none_kept rows old t u row is here lt none = ap (λ r. kept_for r t) (row_is rows u row here lt) ∙ sym (flat_found rows t u) ∙ ap (λ es. found es t u) is ∙ none

  pub insert_found : (rows : List (List (ℕ × V))) (old : List (ℕ × (ℕ × V))) (t u : ℕ) (a : V) (row new : List (ℕ × V)) → flat 0 rows ≡ old → row ≡ slice_index_or rows u row → u < length rows
      → ((x : ℕ) → kept_for new x ≡ kept_for ((t, a) ∷ row) x) → (x y : ℕ) → found (flat 0 (slice_set rows u new)) x y ≡ with_pair (found old) t u a x y
  insert_found rows old t u a row new is here lt more x y =
      found_set rows old t u a new is lt (λ z. more z ∙ ap (λ r. kept_for ((t, a) ∷ r) z) (row_is rows u row here lt)) x y

  pub insert_same : (rows : List (List (ℕ × V))) (old : List (ℕ × (ℕ × V))) (u : ℕ) (row new : List (ℕ × V)) → flat 0 rows ≡ old → row ≡ slice_index_or rows u row → u < length rows → new ≡ row → flat 0 (slice_set rows u new) ≡ old
  insert_same rows old u row new is here lt same = ap (λ r. flat 0 (slice_set rows u r)) (same ∙ row_is rows u row here lt) ∙ ap (flat 0) (set_same rows u) ∙ is
