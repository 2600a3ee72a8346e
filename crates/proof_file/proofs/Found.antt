-- What a look-up finds is what is stale, and an index stays one without it.
use Rattle.std.proofs.Common.{◌≡◌, ℕ, zero, suc, ◌+◌, ◌<◌, ◌≤◌, Bool, true, false, List, [], ◌∷◌, length, get_or, refl, sym, subst, inl, inr, ⊎_elim, arith, eq-eqb}
use Rattle.std.specs.Prelude.{◌⊎◌, ◌≢◌, ◌==◌, Contains, if◌then◌else◌}
use Rattle.std.specs.List.{list_any, dedup}
use Rattle.std.specs.List.Retain.{IsFiltered, DiffersFromLast}
use Rattle.std.specs.List.Sorted.{IsPermutation, IsSorted}
use Rattle.std.specs.Ordering.{nat_cmp}
use Rattle.std.proofs.lemmas.Bool.{eqb-true}
use Rattle.std.proofs.lemmas.List.Elements.{Contains-get_or}
use Rattle.std.proofs.lemmas.List.Filters.{dedup_is}
use Rattle.std.proofs.lemmas.List.Folds.{list_any_at, Any-from_list_any}
use Rattle.std.proofs.lemmas.List.Kept.{Contains-dedup_nat, Contains-from_dedup, AllPairs-from_increasing}
use Rattle.std.proofs.lemmas.List.Sorted.{Contains-permutation, IsPermutation-sym}
use Rattle.std.proofs.lemmas.Map.Keys.{IsStrictlyIncreasing-dedup}
use Rattle.cnf_base.proofs.Lists.{Contains-first, Contains-nil}
use Rattle.smt_terms.specs.declared.node.Node.{Node}
use Rattle.scope_selectors.specs.declared.live.Live.{Live}
use Rattle.proof_log.specs.declared.entry.Entry.{Entry}
use Rattle.proof_text.specs.Deletions.{is_deleted}
use Rattle.proof_file.specs.Needed.{AreRising}
use Rattle.proof_file.specs.Stale.{IsStale, AreStale}
use Rattle.proof_file.specs.Indexed.{StaleIndex, noted_under, place_in, RestsOn, IsIndexOf, IsFound}
use Rattle.proof_file.specs.Noting.{AreMarked, IsWanted, ArePicked, Adds, IsPlaceUnder, AreForgotten}

-- ---- rising lists

abbrev Rises : List ℕ → Type 0
Rises xs = (i j d : ℕ) → i < j → j < length xs → get_or xs i d < get_or xs j d

rising_from : (low : ℕ) (xs : List ℕ) → Rises xs → ((x : ℕ) → Contains xs x → low ≤ x) → AreRising low xs
rising_from low [] h least = tt
rising_from low (x ∷ xs) h least = (
  least x (Contains-first x xs),
  rising_from (suc x) xs
      (λ i j d lt within. h (suc i) (suc j) d (omega (arith, lt)) (omega (arith, within)))
      (λ y c.
      let lt : x < get_or xs c.0 y = h 0 (suc c.0) y (omega arith) (let w = c.1 in omega (arith, w)) in
      let e = c.2 in omega (arith, lt, e)),
)

-- a sort that leaves each number once
module _ (found sorted left : List ℕ) (moved : IsPermutation found sorted) (rise : IsSorted nat_cmp sorted) (once : IsFiltered (DiffersFromLast (λ (x y : ℕ). x == y)) [] sorted left) where
  left_is : left ≡ dedup (λ (x y : ℕ). x == y) sorted
  left_is = dedup_is (λ (x y : ℕ). x == y) sorted left once

  left_rises : Rises left
  left_rises =
      let up : Rises (dedup (λ (x y : ℕ). x == y) sorted) = λ i j d lt within. AllPairs-from_increasing (dedup (λ (x y : ℕ). x == y) sorted) (IsStrictlyIncreasing-dedup sorted rise) i j d lt within in
      subst Rises (sym left_is) up

  left_in : (q : ℕ) → Contains found q → Contains left q
  left_in q c = subst (λ xs. Contains xs q) (sym left_is) (Contains-dedup_nat sorted q (Contains-permutation found sorted q moved c))

  left_from : (q : ℕ) → Contains left q → Contains found q
  left_from q c = Contains-permutation sorted found q (IsPermutation-sym found sorted moved)
      (Contains-from_dedup (λ (x y : ℕ). x == y) sorted q (subst (λ xs. Contains xs q) left_is c))

-- ---- members

pub decide : (xs : List ℕ) (x : ℕ) → Contains xs x ⊎ (Contains xs x → ⊥)
decide xs x = by (list_any (λ (y : ℕ). y == x) xs) refl
  where
    by : (b : Bool) → list_any (λ (y : ℕ). y == x) xs ≡ b → Contains xs x ⊎ (Contains xs x → ⊥)
    by true e = inl (let a = Any-from_list_any (λ (y : ℕ). y == x) xs e in subst (Contains xs) (eqb-true a.1 x a.4) (a.0, a.2, a.3))
    by false e = inr (λ c.
        let t : list_any (λ (y : ℕ). y == x) xs ≡ true = list_any_at (λ (y : ℕ). y == x) xs c.0 x c.1 (eq-eqb (get_or xs c.0 x) x c.2) in
        let f : ⊥ = cc in f)

deleted_is : (qs : List ℕ) (q : ℕ) → Contains qs q → is_deleted qs q ≡ true
deleted_is qs q c = list_any_at (λ (y : ℕ). y == q) qs c.0 q c.1 (eq-eqb (get_or qs c.0 q) q c.2)

positive : (n : ℕ) → n ≢ 0 → 0 < n
positive zero ne = absurd (ne refl)
positive (suc n) ne = omega arith

not_zero : (n : ℕ) → 0 < n → n ≢ 0
not_zero n lt e = omega (arith, lt, e)

-- a place that is left is one that was there and is not deleted
left_place : (b : Bool) (n : ℕ) → (if b then 0 else n) ≢ 0 → (b ≡ false) × (n ≢ 0)
left_place true n h = absurd (h refl)
left_place false n h = (refl, h)

-- ---- what is found

module _ (v : StaleIndex) (live : List Live) (places marks gone kept found qs : List ℕ) (rows : List (List ℕ))
    (marked : AreMarked marks live) (out : ArePicked (IsWanted marks false) v.watched gone) (still : ArePicked (IsWanted marks true) v.watched kept)
    (under : Adds [] (IsPlaceUnder places v.noted gone) found) (forgot : AreForgotten gone v.noted rows)
    (rise : Rises qs) (into : (q : ℕ) → Contains found q → Contains qs q) (from : (q : ℕ) → Contains qs q → Contains found q)
    (nodes : List Node) (log : List Entry) (h : IsIndexOf v nodes log (place_in places)) where
  under_of : (q : ℕ) → Contains qs q → IsPlaceUnder places v.noted gone q
  under_of q c = ⊎_elim (λ n. absurd (Contains-nil q n)) (λ u. u) (under.only q (from q c))

  stale_of : (q : ℕ) → IsPlaceUnder places v.noted gone q → IsStale nodes log live (place_in places) q
  stale_of q u =
      let r : RestsOn nodes log u.0 u.2.0 = h.each u.0 u.2.0 u.2.1 in
      record {
        written = u.2.3;
        position = u.2.0;
        place = u.2.2;
        clause = r.clause;
        hints = r.hints;
        chain = r.chain;
        rests = record {
          assertion = u.0;
          selector = r.selector;
          made = r.made;
          negation = r.negation;
          gone = λ l c e. (out.each u.0 u.1).1 (subst (λ n. Contains marks (n + 1)) e (marked.every l c));
        };
      }

  -- what is under an assertion that is gone and stands somewhere is found
  found_under : (a p : ℕ) → Contains gone a → Contains (noted_under v.noted a) p → 0 < place_in places p → Contains qs (place_in places p)
  found_under a p g c lt = into (place_in places p) (under.each (place_in places p) (a, g, (p, c, refl, lt)))

  found_each : (q : ℕ) → IsStale nodes log live (place_in places) q → Contains qs q
  found_each q s =
      let r : RestsOn nodes log s.rests.assertion s.position = record {
        selector = s.rests.selector;
        made = s.rests.made;
        clause = s.clause;
        hints = s.hints;
        chain = s.chain;
        negation = s.rests.negation;
      } in
      let lt : 0 < place_in places s.position = subst (λ n. 0 < n) (sym s.place) s.written in
      let c : Contains (noted_under v.noted s.rests.assertion) s.position = h.every s.rests.assertion s.position r (not_zero (place_in places s.position) lt) in
      let g : Contains gone s.rests.assertion = out.every s.rests.assertion (h.watched s.rests.assertion s.position c)
      (λ m. let l = marked.each s.rests.assertion m in s.rests.gone l.0 l.1 l.2) in
      subst (Contains qs) s.place (found_under s.rests.assertion s.position g c lt)

  are_stale : AreStale nodes log live (place_in places) qs
  are_stale = record {
    rise = rising_from 1 qs rise (λ q c. let lt = (under_of q c).2.3 in omega (arith, lt));
    each = λ k d lt. stale_of (get_or qs k d) (under_of (get_or qs k d) (Contains-get_or qs k d lt));
    every = found_each;
  }

  -- an assertion under which what stands is not found is not gone
  not_gone : (a p : ℕ) → Contains (noted_under v.noted a) p → is_deleted qs (place_in places p) ≡ false → place_in places p ≢ 0 → Contains gone a → ⊥
  not_gone a p c e ne g =
      let t : is_deleted qs (place_in places p) ≡ true = deleted_is qs (place_in places p) (found_under a p g c (positive (place_in places p) ne)) in
      let f : ⊥ = cc in f

  still_watched : (a p : ℕ) → Contains (noted_under rows a) p → Contains kept a
  still_watched a p c =
      let o = forgot.only a p c in
      let w : Contains v.watched a = h.watched a p o.0 in
      still.every a w
      (⊎_elim
      (λ m. m)
      (λ (n : Contains marks (a + 1) → ⊥). absurd (o.1 (out.every a w n)))
      (decide marks (a + 1)))

  index_left : IsIndexOf (record { read = v.read; selected = v.selected; noted = rows; watched = kept }) nodes log (λ p. if is_deleted qs (place_in places p) then 0 else place_in places p)
  index_left = record {
    within = h.within;
    known = h.known;
    own = h.own;
    placed = λ p ne. h.placed p (left_place (is_deleted qs (place_in places p)) (place_in places p) ne).1;
    each = λ a p c. h.each a p (forgot.only a p c).0;
    every = λ a p r ne.
        let l = left_place (is_deleted qs (place_in places p)) (place_in places p) ne in
        let c : Contains (noted_under v.noted a) p = h.every a p r l.1 in
        forgot.kept a p (not_gone a p c l.0 l.1) c;
    watched = still_watched;
  }

-- a sort that leaves each number once makes of what was found what is stale
pub found_is : (v : StaleIndex) (live : List Live) (places marks gone kept found sorted qs : List ℕ) (rows : List (List ℕ))
    → AreMarked marks live → ArePicked (IsWanted marks false) v.watched gone → ArePicked (IsWanted marks true) v.watched kept
    → Adds [] (IsPlaceUnder places v.noted gone) found → AreForgotten gone v.noted rows
    → IsPermutation found sorted → IsSorted nat_cmp sorted → IsFiltered (DiffersFromLast (λ (x y : ℕ). x == y)) [] sorted qs
    → IsFound live places qs v (record { read = v.read; selected = v.selected; noted = rows; watched = kept })
found_is v live places marks gone kept found sorted qs rows marked out still under forgot moved rise once = λ nodes log h. (
  are_stale v live places marks gone kept found qs rows marked out still under forgot
      (left_rises found sorted qs moved rise once) (left_in found sorted qs moved rise once) (left_from found sorted qs moved rise once) nodes log h,
  index_left v live places marks gone kept found qs rows marked out still under forgot
      (left_rises found sorted qs moved rise once) (left_in found sorted qs moved rise once) (left_from found sorted qs moved rise once) nodes log h,
)
