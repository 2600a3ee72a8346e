-- What loops of a look-up of stale chains keep.
use Rattle.std.proofs.Common.{◌≡◌, ℕ, zero, suc, ◌+◌, ◌<◌, ◌≤◌, Bool, true, false, List, [], ◌∷◌, ◌++◌, length, length-append, take, get_or, Option, Some, None, refl, sym, ap, ◌∙◌, subst, inl, inr, ⊎_elim, arith, eq-eqb}
use Rattle.std.specs.Prelude.{◌⊎◌, ◌==◌, not, MatchBool, Contains, if◌then◌else◌}
use Rattle.std.proofs.lemmas.Bool.{cases_eq, ne_eqb}
use Rattle.std.proofs.lemmas.List.{take_more, take_all, get_or_default}
use Rattle.std.proofs.lemmas.List.Elements.{Contains-append_left, Contains-push, Contains-push_cases}
use Rattle.cnf_base.specs.Literals.{Literal}
use Rattle.cnf_base.proofs.Lists.{Contains-nil, Contains-first}
use Rattle.scope_selectors.specs.declared.live.Live.{Live}
use Rattle.variable_list.specs.Variables.{IsListed}
use Rattle.proof_file.specs.Indexed.{StaleIndex, noted_under, place_in}
use Rattle.proof_file.specs.Noting.{Denies, DenyAmong, AreWatched, HasNoted, AreMarked, ArePicked, Adds, IsPlaceOf, IsPlaceUnder, AreForgotten}

-- ---- the front of a list

module _ {X : Type 0} (xs : List X) (i : ℕ) (x : X) (lt : i < length xs) (is : x ≡ get_or xs i x) where
  more_is : take (i + 1) xs ≡ take i xs ++ x ∷ []
  more_is = take_more xs i x lt ∙ ap (λ y. take i xs ++ y ∷ []) (sym is)

  front_cases : (y : X) → Contains (take (i + 1) xs) y → Contains (take i xs) y ⊎ (x ≡ y)
  front_cases y h = Contains-push_cases (take i xs) x y (subst (λ (l : List X). Contains l y) more_is h)

  front_later : (y : X) → Contains (take i xs) y → Contains (take (i + 1) xs) y
  front_later y h = subst (λ (l : List X). Contains l y) (sym more_is) (Contains-append_left (take i xs) (x ∷ []) y h)

  front_here : Contains (take (i + 1) xs) x
  front_here = subst (λ (l : List X). Contains l x) (sym more_is) (Contains-push (take i xs) x)

-- an element of a list of numbers, whatever stands for one that is missing
number_is : (xs : List ℕ) (i : ℕ) → i < length xs → get_or xs i 0 ≡ get_or xs i (get_or xs i 0)
number_is xs i lt = get_or_default xs i 0 (get_or xs i 0) lt

-- ---- rows

pub pushed_none : (rows new : List (List ℕ)) (r : List ℕ) → new ≡ rows ++ r ∷ [] → r ≡ [] → (a : ℕ) → noted_under new a ≡ noted_under rows a
pushed_none rows new r e none a = ap (λ l. noted_under l a) e ∙ ap (λ x. noted_under (rows ++ x ∷ []) a) none ∙ last rows a
  where
    last : (rows : List (List ℕ)) (a : ℕ) → noted_under (rows ++ [] ∷ []) a ≡ noted_under rows a
    last [] zero = refl
    last [] (suc a) = refl
    last (x ∷ rows) zero = refl
    last (x ∷ rows) (suc a) = last rows a

pub pushed_length : (rows new : List (List ℕ)) (r : List ℕ) → new ≡ rows ++ r ∷ [] → length new ≡ suc (length rows)
pushed_length rows new r e = let l = ap (λ (x : List (List ℕ)). length x) e in let m = length-append rows (r ∷ []) in omega (arith, l, m)

-- ---- what is live

pub marked_none : AreMarked [] []
marked_none = record { each = λ a c. absurd (Contains-nil (a + 1) c); every = λ a c. absurd (Contains-nil a c) }

pub marked_more : (xs : List Live) (i x : ℕ) (a : Live) (old new : List ℕ) → i < length xs → a ≡ get_or xs i a → x ≡ a.assertion + 1 → IsListed old x new → AreMarked old (take i xs) → AreMarked new (take (i + 1) xs)
marked_more xs i x a old new lt is own listed h = record {
  each = λ b c. ⊎_elim
      (λ (k : Contains old (b + 1)). let l = h.each b k in (l.0, front_later xs i a lt is l.0 l.1, l.2))
      (λ (e : x ≡ b + 1). (a, front_here xs i a lt is, omega (arith, own, e)))
      (from (b + 1) listed c);
  every = λ l c. ⊎_elim
      (λ (k : Contains (take i xs) l). still (l.assertion + 1) listed (h.every l k))
      (λ (e : a ≡ l). subst (λ (m : Live). Contains new (m.assertion + 1)) e (subst (Contains new) own (here listed)))
      (front_cases xs i a lt is l c);
}
  where
    from : (y : ℕ) → IsListed old x new → Contains new y → Contains old y ⊎ (x ≡ y)
    from y (inl k) c = inl (subst (λ (l : List ℕ). Contains l y) k.1 c)
    from y (inr k) c = Contains-push_cases old x y (subst (λ (l : List ℕ). Contains l y) k.1 c)

    still : (y : ℕ) → IsListed old x new → Contains old y → Contains new y
    still y (inl k) c = subst (λ (l : List ℕ). Contains l y) (sym k.1) c
    still y (inr k) c = subst (λ (l : List ℕ). Contains l y) (sym k.1) (Contains-append_left old (x ∷ []) y c)

    here : IsListed old x new → Contains new x
    here (inl k) = subst (λ (l : List ℕ). Contains l x) (sym k.1) k.0
    here (inr k) = subst (λ (l : List ℕ). Contains l x) (sym k.1) (Contains-push old x)

pub marked_all : (xs : List Live) (i : ℕ) (marks : List ℕ) → length xs ≤ i → AreMarked marks (take i xs) → AreMarked marks xs
marked_all xs i marks le h = subst (AreMarked marks) (take_all i xs le) h

-- ---- what is picked

pub wanted_then : (w m : Bool) (C : Type 0) → w ≡ true → MatchBool m C (C → ⊥) → MatchBool m (MatchBool w C (C → ⊥)) (MatchBool w C (C → ⊥) → ⊥)
wanted_then true m C e h = h
wanted_then false m C e h = let f : ⊥ = cc in absurd f

pub wanted_else : (w m : Bool) (C : Type 0) → w ≡ false → MatchBool m C (C → ⊥) → MatchBool (not m) (MatchBool w C (C → ⊥)) (MatchBool w C (C → ⊥) → ⊥)
wanted_else true m C e h = let f : ⊥ = cc in absurd f
wanted_else false true C e h = λ k. k h
wanted_else false false C e h = h

pub picked_none : (Kind : ℕ → Type 0) → ArePicked Kind [] []
picked_none Kind = record { each = λ a c. absurd (Contains-nil a c); every = λ a c k. absurd (Contains-nil a c) }

pub picked_more : (Kind : ℕ → Type 0) (xs old new : List ℕ) (i : ℕ) (b : Bool) → i < length xs → MatchBool b (Kind (get_or xs i 0)) (Kind (get_or xs i 0) → ⊥) → new ≡ (if b then old ++ get_or xs i 0 ∷ [] else old)
    → ArePicked Kind (take i xs) old → ArePicked Kind (take (i + 1) xs) new
picked_more Kind xs old new i true lt own e h =
    let is : get_or xs i 0 ≡ get_or xs i (get_or xs i 0) = number_is xs i lt in
    record {
      each = λ a c. ⊎_elim
          (λ (k : Contains old a). let l = h.each a k in (front_later xs i (get_or xs i 0) lt is a l.0, l.1))
          (λ (q : get_or xs i 0 ≡ a). (subst (Contains (take (i + 1) xs)) q (front_here xs i (get_or xs i 0) lt is), subst Kind q own))
          (Contains-push_cases old (get_or xs i 0) a (subst (λ (l : List ℕ). Contains l a) e c));
      every = λ a c k. subst (λ (l : List ℕ). Contains l a) (sym e) (⊎_elim
          (λ (m : Contains (take i xs) a). Contains-append_left old (get_or xs i 0 ∷ []) a (h.every a m k))
          (λ (q : get_or xs i 0 ≡ a). subst (Contains (old ++ get_or xs i 0 ∷ [])) q (Contains-push old (get_or xs i 0)))
          (front_cases xs i (get_or xs i 0) lt is a c));
    }
picked_more Kind xs old new i false lt own e h =
    let is : get_or xs i 0 ≡ get_or xs i (get_or xs i 0) = number_is xs i lt in
    record {
      each = λ a c. let l = h.each a (subst (λ (l : List ℕ). Contains l a) e c) in (front_later xs i (get_or xs i 0) lt is a l.0, l.1);
      every = λ a c k. subst (λ (l : List ℕ). Contains l a) (sym e) (⊎_elim
          (λ (m : Contains (take i xs) a). h.every a m k)
          (λ (q : get_or xs i 0 ≡ a). absurd (own (subst Kind (sym q) k)))
          (front_cases xs i (get_or xs i 0) lt is a c));
    }

pub picked_all : (Kind : ℕ → Type 0) (xs new : List ℕ) (i : ℕ) → length xs ≤ i → ArePicked Kind (take i xs) new → ArePicked Kind xs new
picked_all Kind xs new i le h = subst (λ (l : List ℕ). ArePicked Kind l new) (take_all i xs le) h

-- ---- what is found

pub adds_none : (old : List ℕ) (Kind : ℕ → Type 0) → ((q : ℕ) → Kind q → ⊥) → Adds old Kind old
adds_none old Kind none = record { kept = λ q c. c; only = λ q c. inl c; each = λ q k. absurd (none q k) }

pub places_none : (places old : List ℕ) → Adds old (IsPlaceOf places []) old
places_none places old = adds_none old (IsPlaceOf places []) (λ q k. Contains-nil k.0 k.1)

pub under_none : (places : List ℕ) (noted : List (List ℕ)) (found : List ℕ) → found ≡ [] → Adds [] (IsPlaceUnder places noted []) found
under_none places noted found e = subst (Adds [] (IsPlaceUnder places noted [])) (sym e) (adds_none [] (IsPlaceUnder places noted []) (λ q k. Contains-nil k.0 k.1))

zero_or : (n : ℕ) → (n ≡ 0) ⊎ (0 < n)
zero_or zero = inl refl
zero_or (suc n) = inr (omega arith)

-- what one place adds
place_added : (n : ℕ) (old new : List ℕ) → new ≡ (if n == 0 then old else old ++ n ∷ []) → Adds old (λ q. (n ≡ q) × (0 < q)) new
place_added zero old new e = record {
  kept = λ q c. subst (λ (l : List ℕ). Contains l q) (sym e) c;
  only = λ q c. inl (subst (λ (l : List ℕ). Contains l q) e c);
  each = λ q k. (let z = k.0 in let lt = k.1 in absurd (omega (arith, z, lt)));
}
place_added (suc n) old new e = record {
  kept = λ q c. subst (λ (l : List ℕ). Contains l q) (sym is) (Contains-append_left old (suc n ∷ []) q c);
  only = λ q c. ⊎_elim
      (λ (k : Contains old q). inl k)
      (λ (z : suc n ≡ q). inr (z, omega (arith, z)))
      (Contains-push_cases old (suc n) q (subst (λ (l : List ℕ). Contains l q) is c));
  each = λ q k. subst (λ (l : List ℕ). Contains l q) (sym is) (subst (Contains (old ++ suc n ∷ [])) k.0 (Contains-push old (suc n)));
}
  where
    is : new ≡ old ++ suc n ∷ []
    is = e ∙ ap (λ (b : Bool). if b then old else old ++ suc n ∷ []) (ne_eqb (suc n) 0 (λ z. omega (arith, z)))

-- more is added of what is made from a list, by its next element
adds_more : (From : List ℕ → ℕ → Type 0) (Own : ℕ → Type 0) (xs first old new : List ℕ) (i : ℕ)
    → ((q : ℕ) → From (take i xs) q → From (take (i + 1) xs) q) → ((q : ℕ) → Own q → From (take (i + 1) xs) q) → ((q : ℕ) → From (take (i + 1) xs) q → From (take i xs) q ⊎ Own q)
    → Adds first (From (take i xs)) old → Adds old Own new → Adds first (From (take (i + 1) xs)) new
adds_more From Own xs first old new i later here cases g h = record {
  kept = λ q c. h.kept q (g.kept q c);
  only = λ q c. ⊎_elim
      (λ (k : Contains old q). ⊎_elim (λ (a : Contains first q). inl a) (λ (b : From (take i xs) q). inr (later q b)) (g.only q k))
      (λ (o : Own q). inr (here q o))
      (h.only q c);
  each = λ q k. ⊎_elim (λ (a : From (take i xs) q). h.kept q (g.each q a)) (λ (o : Own q). h.each q o) (cases q k);
}

pub places_more : (places xs first old new : List ℕ) (i : ℕ) → i < length xs → new ≡ (if place_in places (get_or xs i 0) == 0 then old else old ++ place_in places (get_or xs i 0) ∷ [])
    → Adds first (IsPlaceOf places (take i xs)) old → Adds first (IsPlaceOf places (take (i + 1) xs)) new
places_more places xs first old new i lt e g =
    let is : get_or xs i 0 ≡ get_or xs i (get_or xs i 0) = number_is xs i lt in
    adds_more (IsPlaceOf places) (λ q. (place_in places (get_or xs i 0) ≡ q) × (0 < q)) xs first old new i
    (λ q k. (k.0, front_later xs i (get_or xs i 0) lt is k.0 k.1, k.2, k.3))
    (λ q k. (get_or xs i 0, front_here xs i (get_or xs i 0) lt is, k.0, k.1))
    (λ q k. ⊎_elim
    (λ (m : Contains (take i xs) k.0). inl (k.0, m, k.2, k.3))
    (λ (z : get_or xs i 0 ≡ k.0). inr (ap (place_in places) z ∙ k.2, k.3))
    (front_cases xs i (get_or xs i 0) lt is k.0 k.1))
    g (place_added (place_in places (get_or xs i 0)) old new e)

pub places_all : (places xs first new : List ℕ) (i : ℕ) → length xs ≤ i → Adds first (IsPlaceOf places (take i xs)) new → Adds first (IsPlaceOf places xs) new
places_all places xs first new i le h = subst (λ (l : List ℕ). Adds first (IsPlaceOf places l) new) (take_all i xs le) h

pub under_more : (places : List ℕ) (noted : List (List ℕ)) (xs first old new row : List ℕ) (i : ℕ) → i < length xs → row ≡ noted_under noted (get_or xs i 0) → Adds old (IsPlaceOf places row) new
    → Adds first (IsPlaceUnder places noted (take i xs)) old → Adds first (IsPlaceUnder places noted (take (i + 1) xs)) new
under_more places noted xs first old new row i lt e h g =
    let is : get_or xs i 0 ≡ get_or xs i (get_or xs i 0) = number_is xs i lt in
    adds_more (IsPlaceUnder places noted) (IsPlaceOf places row) xs first old new i
    (λ q k. (k.0, front_later xs i (get_or xs i 0) lt is k.0 k.1, k.2))
    (λ q k. (get_or xs i 0, front_here xs i (get_or xs i 0) lt is, subst (λ (l : List ℕ). IsPlaceOf places l q) e k))
    (λ q k. ⊎_elim
    (λ (m : Contains (take i xs) k.0). inl (k.0, m, k.2))
    (λ (z : get_or xs i 0 ≡ k.0). inr (subst (λ (l : List ℕ). IsPlaceOf places l q) (sym e) (subst (λ a. IsPlaceOf places (noted_under noted a) q) (sym z) k.2)))
    (front_cases xs i (get_or xs i 0) lt is k.0 k.1))
    g h

pub under_all : (places : List ℕ) (noted : List (List ℕ)) (xs first new : List ℕ) (i : ℕ) → length xs ≤ i → Adds first (IsPlaceUnder places noted (take i xs)) new → Adds first (IsPlaceUnder places noted xs) new
under_all places noted xs first new i le h = subst (λ (l : List ℕ). Adds first (IsPlaceUnder places noted l) new) (take_all i xs le) h

-- ---- what is forgotten

pub forgotten_none : (rows : List (List ℕ)) → AreForgotten [] rows rows
forgotten_none rows = record { only = λ a p c. (c, λ n. Contains-nil a n); kept = λ a p n c. c }

pub forgotten_more : (xs : List ℕ) (i : ℕ) (first old new : List (List ℕ)) → i < length xs → ((a : ℕ) → noted_under new a ≡ (if a == get_or xs i 0 then [] else noted_under old a))
    → AreForgotten (take i xs) first old → AreForgotten (take (i + 1) xs) first new
forgotten_more xs i first old new lt e h = record {
  only = λ a p c. ⊎_elim
      (λ (z : a ≡ get_or xs i 0). absurd (Contains-nil p (subst (λ (l : List ℕ). Contains l p) (e a ∙ ap (λ (b : Bool). if b then [] else noted_under old a) (eq-eqb a (get_or xs i 0) z)) c)))
      (λ (ne : a ≡ get_or xs i 0 → ⊥).
      let k = h.only a p (subst (λ (l : List ℕ). Contains l p) (other a ne) c) in
      (k.0, λ n. ⊎_elim (λ m. k.1 m) (λ z. ne (sym z)) (front_cases xs i (get_or xs i 0) lt is a n)))
      (cases_eq a (get_or xs i 0));
  kept = λ a p n c.
      let ne : a ≡ get_or xs i 0 → ⊥ = λ z. n (subst (Contains (take (i + 1) xs)) (sym z) (front_here xs i (get_or xs i 0) lt is)) in
      subst (λ (l : List ℕ). Contains l p) (sym (other a ne)) (h.kept a p (λ m. n (front_later xs i (get_or xs i 0) lt is a m)) c);
}
  where
    is : get_or xs i 0 ≡ get_or xs i (get_or xs i 0)
    is = number_is xs i lt

    other : (a : ℕ) → (a ≡ get_or xs i 0 → ⊥) → noted_under new a ≡ noted_under old a
    other a ne = e a ∙ ap (λ (b : Bool). if b then [] else noted_under old a) (ne_eqb a (get_or xs i 0) ne)

pub forgotten_all : (xs : List ℕ) (i : ℕ) (first new : List (List ℕ)) → length xs ≤ i → AreForgotten (take i xs) first new → AreForgotten xs first new
forgotten_all xs i first new le h = subst (λ (l : List ℕ). AreForgotten l first new) (take_all i xs le) h

-- ---- what is noted

pub noted_none : (v : StaleIndex) (p : ℕ) (Under : ℕ → Type 0) → ((a : ℕ) → Under a → ⊥) → HasNoted p Under v v
noted_none v p Under none = record {
  read = refl;
  selected = refl;
  kept = λ a q c. c;
  only = λ a q c. inl c;
  here = λ a u. absurd (none a u);
  watched = λ w. w;
}

-- the position is noted under an assertion, which is watched
pub noted_one : (old new : StaleIndex) (a p : ℕ) → new.read ≡ old.read → new.selected ≡ old.selected
    → ((b : ℕ) → noted_under new.noted b ≡ (if b == a then noted_under old.noted b ++ p ∷ [] else noted_under old.noted b))
    → ((b : ℕ) → Contains old.watched b → Contains new.watched b) → (noted_under old.noted a ≡ [] → Contains new.watched a) → HasNoted p (λ b. b ≡ a) old new
noted_one old new a p read selected e kept first = record {
  read = read;
  selected = selected;
  kept = λ b q c. ⊎_elim
      (λ (z : b ≡ a). subst (λ (r : List ℕ). Contains r q) (sym (here b z)) (Contains-append_left (noted_under old.noted b) (p ∷ []) q c))
      (λ (ne : b ≡ a → ⊥). subst (λ (r : List ℕ). Contains r q) (sym (other b ne)) c)
      (cases_eq b a);
  only = only;
  here = λ b z. subst (λ (r : List ℕ). Contains r p) (sym (here b z)) (Contains-push (noted_under old.noted b) p);
  watched = λ w b q c. ⊎_elim
      (λ (k : Contains (noted_under old.noted b) q). kept b (w b q k))
      (λ k. subst (Contains new.watched) (sym k.1) (own_watched w (noted_under old.noted a) refl))
      (only b q c);
}
  where
    here : (b : ℕ) → b ≡ a → noted_under new.noted b ≡ noted_under old.noted b ++ p ∷ []
    here b z = e b ∙ ap (λ (t : Bool). if t then noted_under old.noted b ++ p ∷ [] else noted_under old.noted b) (eq-eqb b a z)

    other : (b : ℕ) → (b ≡ a → ⊥) → noted_under new.noted b ≡ noted_under old.noted b
    other b ne = e b ∙ ap (λ (t : Bool). if t then noted_under old.noted b ++ p ∷ [] else noted_under old.noted b) (ne_eqb b a ne)

    only : (b q : ℕ) → Contains (noted_under new.noted b) q → Contains (noted_under old.noted b) q ⊎ ((q ≡ p) × (b ≡ a))
    only b q c = ⊎_elim
        (λ (z : b ≡ a). ⊎_elim
        (λ (k : Contains (noted_under old.noted b) q). inl k)
        (λ (s : p ≡ q). inr (sym s, z))
        (Contains-push_cases (noted_under old.noted b) p q (subst (λ (r : List ℕ). Contains r q) (here b z) c)))
        (λ (ne : b ≡ a → ⊥). inl (subst (λ (r : List ℕ). Contains r q) (other b ne) c))
        (cases_eq b a)

    own_watched : AreWatched old → (r : List ℕ) → noted_under old.noted a ≡ r → Contains new.watched a
    own_watched w [] z = first z
    own_watched w (x ∷ r) z = kept a (w a x (subst (λ (s : List ℕ). Contains s x) (sym z) (Contains-first x r)))

-- the assertion is the one of which the literal is the negated selector
pub noted_denied : (rows : List (Option ℕ)) (old new : StaleIndex) (l : Literal) (a p : ℕ) → rows ≡ old.selected → Denies rows l a → ((b : ℕ) → Denies rows l b → Some a ≡ Some b)
    → HasNoted p (λ b. b ≡ a) old new → HasNoted p (Denies old.selected l) old new
noted_denied rows old new l a p same own found h = record {
  read = h.read;
  selected = h.selected;
  kept = h.kept;
  only = λ b q c. ⊎_elim
      (λ (k : Contains (noted_under old.noted b) q). inl k)
      (λ k. inr (k.0, subst (Denies old.selected l) (sym k.1) (subst (λ r. Denies r l a) same own)))
      (h.only b q c);
  here = λ b d.
      let two : Some a ≡ Some b = found b (subst (λ r. Denies r l b) (sym same) d) in
      let z : b ≡ a = cc in
      h.here b z;
  watched = h.watched;
}

pub noted_not : (rows : List (Option ℕ)) (old : StaleIndex) (l : Literal) (p : ℕ) → rows ≡ old.selected → ((b : ℕ) → Denies rows l b → None ≡ Some b) → HasNoted p (Denies old.selected l) old old
noted_not rows old l p same found = noted_none old p (Denies old.selected l) (λ b d.
    let e : None ≡ Some b = found b (subst (λ r. Denies r l b) (sym same) d) in
    let f : ⊥ = cc in f)

pub noted_start : (v : StaleIndex) (p : ℕ) → HasNoted p (DenyAmong v.selected []) v v
noted_start v p = noted_none v p (DenyAmong v.selected []) (λ a d. Contains-nil d.0 d.1)

pub noted_more : (xs : List Literal) (i p : ℕ) (l : Literal) (first old new : StaleIndex) → i < length xs → l ≡ get_or xs i l → HasNoted p (Denies old.selected l) old new
    → HasNoted p (DenyAmong first.selected (take i xs)) first old → HasNoted p (DenyAmong first.selected (take (i + 1) xs)) first new
noted_more xs i p l first old new lt is h g = record {
  read = h.read ∙ g.read;
  selected = h.selected ∙ g.selected;
  kept = λ a q c. h.kept a q (g.kept a q c);
  only = λ a q c. ⊎_elim
      (λ (k : Contains (noted_under old.noted a) q). ⊎_elim
      (λ (m : Contains (noted_under first.noted a) q). inl m)
      (λ n. inr (n.0, (n.1.0, front_later xs i l lt is n.1.0 n.1.1, n.1.2)))
      (g.only a q k))
      (λ k. inr (k.0, (l, front_here xs i l lt is, subst (λ rows. Denies rows l a) g.selected k.1)))
      (h.only a q c);
  here = λ a d. ⊎_elim
      (λ (m : Contains (take i xs) d.0). h.kept a p (g.here a (d.0, m, d.2)))
      (λ (z : l ≡ d.0). h.here a (subst (λ rows. Denies rows l a) (sym g.selected) (subst (λ m. Denies first.selected m a) (sym z) d.2)))
      (front_cases xs i l lt is d.0 d.1);
  watched = λ w. h.watched (g.watched w);
}

pub noted_all : (xs : List Literal) (i p : ℕ) (first new : StaleIndex) → length xs ≤ i → HasNoted p (DenyAmong first.selected (take i xs)) first new → HasNoted p (DenyAmong first.selected xs) first new
noted_all xs i p first new le h = subst (λ (l : List Literal). HasNoted p (DenyAmong first.selected l) first new) (take_all i xs le) h
