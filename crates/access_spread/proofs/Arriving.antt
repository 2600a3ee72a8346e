-- One row more.
use Rattle.std.proofs.Common.{◌≡◌, ℕ, ◌+◌, ◌<◌, ◌≤◌, List, [], ◌∷◌, ◌++◌, length, Option, Some, None, refl, sym, ap, ◌∙◌, subst, inl, ⊎_elim, arith, length-append}
use Rattle.std.specs.Prelude.{◌⊎◌, slice_get, slice_set}
use Rattle.std.proofs.lemmas.Option.{slice_get_within}
use Rattle.std.proofs.lemmas.List.{length-set}
use Rattle.access_spread.specs.declared.graph.Gate.{Gate}
use Rattle.access_spread.specs.declared.graph.Graph.{Graph}
use Rattle.access_spread.specs.declared.spreading.Start.{Start}
use Rattle.access_spread.specs.declared.spreading.Link.{Link}
use Rattle.access_spread.specs.declared.spreading.Row.{Row}
use Rattle.access_spread.specs.declared.spreading.Refusal.{Refusal}
use Rattle.access_spread.specs.declared.spreading.State.{State}
use Rattle.std.specs.Global.{Vec}
use Rattle.access_spread.specs.Spreads.{index_in, value_in, AreStartsOf, CameBy, IsFrom, AreDerived, IsStanding, NoneStands, Fits, Grows, IsClash, IsOther, IsRefused, AreFew, HasRefusal, most_refused, HasRefused, HasArrived}
use Rattle.access_spread.proofs.Lists.{set_same, set_other, eq_or_not, get_front, get_last, get_push}

module _ (g : Graph) (gates : List Gate) (starts : List Start) where
  came_longer : (rows more : List Row) (p : ℕ) (r : Row) (o : Option Link) → CameBy g gates starts rows p r o → CameBy g gates starts (rows ++ more) p r o
  came_longer rows more p r None h = h
  came_longer rows more p r (Some l) h = (h.0, h.1, h.2, get_front rows more l.row h.1 h.3, h.4, h.5, h.6, h.7, h.8)

  pub derived_push : (rows : List Row) (row : Row) → AreDerived g gates starts rows → IsFrom g gates starts rows (length rows) row → AreDerived g gates starts (rows ++ row ∷ [])
  derived_push rows row d f p r e =
      ⊎_elim
      (λ h.
      let own : IsFrom g gates starts (rows ++ row ∷ []) (length rows) row = came_longer rows (row ∷ []) (length rows) row row.from f in
      let here : IsFrom g gates starts (rows ++ row ∷ []) p row = subst (λ q. IsFrom g gates starts (rows ++ row ∷ []) q row) (sym h.0) own in
      subst (IsFrom g gates starts (rows ++ row ∷ []) p) h.1 here)
      (λ old. came_longer rows (row ∷ []) p r r.from (d p r old))
      (get_push rows row r p e)

  pub started_push : (rows : List Row) (row : Row) → AreStartsOf starts rows → row.start < length starts → AreStartsOf starts (rows ++ row ∷ [])
  started_push rows row d lt p r e =
      ⊎_elim
      (λ h. subst (λ z. z.start < length starts) h.1 lt)
      (λ old. d p r old)
      (get_push rows row r p e)

  -- more rows
  came_later : (old new : List Row) → ((p : ℕ) (r : Row) → slice_get old p ≡ Some r → slice_get new p ≡ Some r) → (p q : ℕ) → p ≤ q → (r : Row) (o : Option Link) → CameBy g gates starts old p r o → CameBy g gates starts new q r o
  came_later old new grow p q le r None h = h
  came_later old new grow p q le r (Some l) h = (let lt = h.0 in omega (arith, lt, le), h.1, h.2, grow l.row h.1 h.3, h.4, h.5, h.6, h.7, h.8)

  pub refused_grows : (old new : List Row) → ((p : ℕ) (r : Row) → slice_get old p ≡ Some r → slice_get new p ≡ Some r) → length old ≤ length new → (c : Refusal) → IsRefused g gates starts old c → IsRefused g gates starts new c
  refused_grows old new grow le c h = record {
    start = h.start;
    from = came_later old new grow (length old) (length new) le c.row c.row.from h.from;
    left = h.left;
    at_left = grow c.standing h.left h.at_left;
    array = h.array;
    index = h.index;
    value = h.value;
  }

  -- a refused row behind the others clashes
  pub refused_clash : (rows : List Row) (c : Refusal) → AreDerived g gates starts rows → AreStartsOf starts rows → IsRefused g gates starts rows c → IsClash g gates starts (rows ++ c.row ∷ []) c.standing
  refused_clash rows c derived started h = record {
    derived = derived_push rows c.row derived h.from;
    started = started_push rows c.row started h.start;
    last = length rows;
    more = omega (arith, length-append rows (c.row ∷ []));
    left = h.left;
    right = c.row;
    at_left = get_front rows (c.row ∷ []) c.standing h.left h.at_left;
    at_right = get_last rows c.row;
    array = h.array;
    index = h.index;
    value = h.value;
  }

  few_push : (refused : List Refusal) (c : Refusal) → AreFew starts refused → length refused < most_refused
      → ((k : ℕ) (d : Refusal) → slice_get refused k ≡ Some d → d.row.array ≡ c.row.array → index_in starts d.row ≡ index_in starts c.row → ⊥) → AreFew starts (refused ++ c ∷ [])
  few_push refused c few lt apart = record {
    most = omega (arith, lt, length-append refused (c ∷ []));
    single = λ i j d e p q array index.
        ⊎_elim
        (λ new.
        ⊎_elim
        (λ same. new.0 ∙ sym same.0)
        (λ old. absurd (apart j e old (sym array ∙ ap (λ z. z.row.array) (sym new.1)) (sym index ∙ ap (λ z. index_in starts z.row) (sym new.1))))
        (get_push refused c e j q))
        (λ before.
        ⊎_elim
        (λ same. absurd (apart i d before (array ∙ ap (λ z. z.row.array) (sym same.1)) (index ∙ ap (λ z. index_in starts z.row) (sym same.1))))
        (λ old. few.single i j d e before old array index)
        (get_push refused c e j q))
        (get_push refused c d i p);
  }

  abbrev pub with_refused : State → Vec Refusal → State
  with_refused st v = record { rows = st.rows; refused = v; last = st.last; begun = st.begun; index = st.index }

  pub is_refused : (st : State) (row : Row) (p : ℕ) → Fits g gates starts st → row.start < length starts → IsFrom g gates starts st.rows.items (length st.rows.items) row → IsStanding starts st row.array (index_in starts row) p → IsOther starts st.rows.items p row → IsRefused g gates starts st.rows.items (record { row = row; standing = p })
  is_refused st row p fits start from stands other =
      let l = fits.last row.array p stands.0 in
      let same : l.0 ≡ stands.1 = let x = l.1 in let y = stands.2 in cc in
      record {
        start = start;
        from = from;
        left = stands.1;
        at_left = stands.2;
        array = ap (λ r. r.array) (sym same) ∙ l.2;
        index = stands.3;
        value = other stands.1 stands.2;
      }

  pub refused_push : (st : State) (v : Vec Refusal) (c : Refusal) → Fits g gates starts st → v.items ≡ st.refused.items ++ c ∷ [] → IsRefused g gates starts st.rows.items c
      → length st.refused.items < most_refused → ((k : ℕ) (d : Refusal) → slice_get st.refused.items k ≡ Some d → d.row.array ≡ c.row.array → index_in starts d.row ≡ index_in starts c.row → ⊥)
      → HasRefused g gates starts st (with_refused st v) c.row
  refused_push st v c fits e h lt apart = record {
    fits = record {
      count = fits.count;
      within = fits.within;
      started = fits.started;
      derived = fits.derived;
      last = fits.last;
      latest = fits.latest;
      rising = fits.rising;
      below = fits.below;
      present = fits.present;
      refused = λ k d q. ⊎_elim (λ n. subst (IsRefused g gates starts st.rows.items) n.1 h) (λ old. fits.refused k d old) (get_push st.refused.items c d k (ap (λ xs. slice_get xs k) (sym e) ∙ q));
      few = subst (AreFew starts) (sym e) (few_push st.refused.items c fits.few lt apart);
    };
    grows = record { rows = λ p r q. q; refusals = λ k d q. ap (λ xs. slice_get xs k) e ∙ get_front st.refused.items (c ∷ []) k d q; begun = refl; index = refl };
    has = λ room. (length st.refused.items, c, ap (λ xs. slice_get xs (length st.refused.items)) e ∙ get_last st.refused.items c, refl, refl);
  }

  same_refused : (st : State) → Grows st st
  same_refused st = record { rows = λ p r q. q; refusals = λ k c q. q; begun = refl; index = refl }

  pub refused_before : (st : State) (row : Row) → Fits g gates starts st → HasRefusal starts st.refused.items row.array (index_in starts row) → HasRefused g gates starts st st row
  refused_before st row fits has = record { fits = fits; grows = same_refused st; has = λ room. has }

  pub refused_full : (st : State) (row : Row) → Fits g gates starts st → most_refused ≤ length st.refused.items → HasRefused g gates starts st st row
  refused_full st row fits full = record { fits = fits; grows = same_refused st; has = λ room. let z : ⊥ = omega (arith, room, full) in absurd z }

  module _ (st : State) (row : Row) (fits : Fits g gates starts st) (within : row.array < length g.fans.items) (start : row.start < length starts) (index : index_in starts row ≡ st.index) (from : IsFrom g gates starts st.rows.items (length st.rows.items) row) where
    pub stands_has : (p : ℕ) → IsStanding starts st row.array (index_in starts row) p → ((r : Row) → slice_get st.rows.items p ≡ Some r → value_in starts r ≡ value_in starts row) → HasArrived g gates starts st st row
    stands_has p stands eq =
        let l = fits.last row.array p stands.0 in
        let same : l.0 ≡ stands.1 = let x = l.1 in let y = stands.2 in cc in
        record {
          fits = fits;
          grows = same_refused st;
          met = λ room. inl (p, stands.1, stands.2, ap (λ r. r.array) (sym same) ∙ l.2, stands.3, eq stands.1 stands.2);
        }

    module _ (new : State) (none : NoneStands starts st row.array (index_in starts row)) (rows : new.rows.items ≡ st.rows.items ++ row ∷ []) (last : new.last.items ≡ slice_set st.last.items row.array (Some (length st.rows.items))) (begun : new.begun ≡ st.begun) (now : new.index ≡ st.index) (refused : new.refused.items ≡ st.refused.items) where
      cases : (p : ℕ) (r : Row) → slice_get new.rows.items p ≡ Some r → ((p ≡ length st.rows.items) × (row ≡ r)) ⊎ (slice_get st.rows.items p ≡ Some r)
      cases p r e = get_push st.rows.items row r p (ap (λ xs. slice_get xs p) (sym rows) ∙ e)

      old_at : (p : ℕ) (r : Row) → slice_get st.rows.items p ≡ Some r → slice_get new.rows.items p ≡ Some r
      old_at p r e = ap (λ xs. slice_get xs p) rows ∙ get_front st.rows.items (row ∷ []) p r e

      new_at : slice_get new.rows.items (length st.rows.items) ≡ Some row
      new_at = ap (λ xs. slice_get xs (length st.rows.items)) rows ∙ get_last st.rows.items row

      last_here : slice_get new.last.items row.array ≡ Some (Some (length st.rows.items))
      last_here = ap (λ xs. slice_get xs row.array) last ∙ set_same st.last.items row.array (Some (length st.rows.items)) (omega (arith, fits.count, within))

      last_there : (a : ℕ) → (a ≡ row.array → ⊥) → slice_get new.last.items a ≡ slice_get st.last.items a
      last_there a ne = ap (λ xs. slice_get xs a) last ∙ set_other st.last.items row.array a (Some (length st.rows.items)) ne

      -- rows of this array have lower indexes
      lower : (p : ℕ) (r : Row) → slice_get st.rows.items p ≡ Some r → r.array ≡ row.array → index_in starts r < index_in starts row
      lower p r e same =
          let l = fits.latest row.array p r e same in
          let t = fits.last row.array l.0 l.1 in
          let ne : index_in starts t.0 ≡ index_in starts row → ⊥ = none l.0 t.0 l.1 t.1 in
          let top : index_in starts t.0 ≤ st.index = fits.below l.0 t.0 t.1 in
          ⊎_elim
          (λ q.
          let is : r ≡ t.0 = let x : Some r ≡ Some t.0 = sym e ∙ ap (slice_get st.rows.items) q ∙ t.1 in cc in
          let k : index_in starts r ≡ index_in starts t.0 = ap (index_in starts) is in
          let other : index_in starts r ≡ index_in starts row → ⊥ = λ z. ne (sym k ∙ z) in
          omega (arith, k, top, index, other))
          (λ q.
          let less = fits.rising p l.0 r t.0 (omega (arith, q, l.2)) e t.1 (same ∙ sym t.2) in
          omega (arith, less, top, index))
          (eq_or_not p l.0)

      pub new_fits : Fits g gates starts new
      new_fits = record {
        count = ap length last ∙ length-set st.last.items row.array (Some (length st.rows.items)) ∙ fits.count;
        within = λ p r e. ⊎_elim (λ h. subst (λ z. z.array < length g.fans.items) h.1 within) (λ old. fits.within p r old) (cases p r e);
        started = subst (AreStartsOf starts) (sym rows) (started_push st.rows.items row fits.started start);
        derived = subst (AreDerived g gates starts) (sym rows) (derived_push st.rows.items row fits.derived from);
        last = λ a p e.
            ⊎_elim
            (λ same.
            let x : Some (Some p) ≡ Some (Some (length st.rows.items)) = sym e ∙ ap (slice_get new.last.items) same ∙ last_here in
            let y : p ≡ length st.rows.items = cc in
            (row, ap (slice_get new.rows.items) y ∙ new_at, sym same))
            (λ ne. let l = fits.last a p (sym (last_there a ne) ∙ e) in (l.0, old_at p l.0 l.1, l.2))
            (eq_or_not a row.array);
        latest = λ a q s e same.
            ⊎_elim
            (λ h. (length st.rows.items, ap (slice_get new.last.items) (sym same ∙ ap (λ z. z.array) (sym h.1)) ∙ last_here, omega (arith, h.0)))
            (λ old.
            ⊎_elim
            (λ here. (length st.rows.items, ap (slice_get new.last.items) here ∙ last_here, let lt = slice_get_within st.rows.items q s old in omega arith))
            (λ ne. let l = fits.latest a q s old same in (l.0, last_there a ne ∙ l.1, l.2))
            (eq_or_not a row.array))
            (cases q s e);
        rising = λ p q r s lt e f same.
            ⊎_elim
            (λ h.
            ⊎_elim
            (λ k. let z : ⊥ = omega (arith, h.0, k.0, lt) in absurd z)
            (λ old. subst (λ z. index_in starts r < index_in starts z) h.1 (lower p r old (same ∙ ap (λ z. z.array) (sym h.1))))
            (cases p r e))
            (λ old.
            ⊎_elim
            (λ k. let within' = slice_get_within st.rows.items q s old in let z : ⊥ = omega (arith, k.0, lt, within') in absurd z)
            (λ older. fits.rising p q r s lt older old same)
            (cases p r e))
            (cases q s f);
        below = λ p r e.
            ⊎_elim
            (λ h. subst (λ z. index_in starts z ≤ new.index) h.1 (omega (arith, index, now)))
            (λ old. let b = fits.below p r old in omega (arith, b, now))
            (cases p r e);
        present = λ p r le e.
            ⊎_elim
            (λ h. ap (index_in starts) (sym h.1) ∙ index ∙ sym now)
            (λ old. fits.present p r (omega (arith, le, begun)) old ∙ sym now)
            (cases p r e);
        refused = λ k c q. refused_grows st.rows.items new.rows.items old_at (let n : length new.rows.items ≡ length st.rows.items + 1 = ap length rows ∙ length-append st.rows.items (row ∷ []) in omega (arith, n)) c (fits.refused k c (ap (λ xs. slice_get xs k) (sym refused) ∙ q));
        few = subst (AreFew starts) (sym refused) fits.few;
      }

      pub new_has : HasArrived g gates starts st new row
      new_has = record {
        fits = new_fits;
        grows = record { rows = old_at; refusals = λ k c q. ap (λ xs. slice_get xs k) refused ∙ q; begun = begun; index = now };
        met = λ room. inl (length st.rows.items, row, new_at, refl, refl, refl);
      }
