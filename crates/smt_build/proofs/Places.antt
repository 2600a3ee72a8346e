-- Lists of names, and the map from names to places.
use Rattle.std.proofs.Common.{◌≡◌, ℕ, ◌-◌, ◌<◌, ◌≤◌, Bool, true, false, cond, List, [], ◌∷◌, ◌++◌, map, length, get_or, take, drop, refl, ap, sym, ◌∙◌, append_assoc, append-nil, Option, Some, None, arith}
use Rattle.std.specs.Prelude.{suc, zero, is_some, slice_get, nat_le}
use Rattle.std.specs.Borrow.{Bor}
use Rattle.std.specs.Option.{option_map}
use Rattle.std.specs.Map.{lookup}
use Rattle.std.specs.Str.{bytes_eq}
use Rattle.std.proofs.lemmas.Cmp.{nat_list_eq_equiv}
use Rattle.std.proofs.Math.Dec.{leb-zero, leb-suc-zero, leb-suc-suc}
use Rattle.std.proofs.lemmas.Slice.Eq.{bytes_eq-Decides}
use Rattle.std.proofs.lemmas.List.{drop-map, map-append, take_all, take-take}
use Rattle.smt_build.specs.declared.scope.Variable.{Variable}
use Rattle.smt_build.specs.Pairs.{Bound, innermost, bound_at, pair_of, place_of, AreHidden, ArePlaces}

-- ---- places

length-pairs : (vs : List Variable) → length (map pair_of vs) ≡ length vs
length-pairs [] = refl
length-pairs (v ∷ vs) = ap suc (length-pairs vs)

place-push : (bs : Bound) (b : List ℕ × ℕ) (x : List ℕ) → place_of (bs ++ b ∷ []) x ≡ cond (bytes_eq x b.0) (Some (length bs)) (place_of bs x)
place-push [] b x = one (bytes_eq x b.0) where
  one : (here : Bool) → innermost None here 0 ≡ cond here (Some 0) None
  one true = refl
  one false = refl
place-push (a ∷ bs) b x = rw (place-push bs b x) (behind (bytes_eq x b.0)) where
  behind : (here : Bool) → innermost (option_map suc (cond here (Some (length bs)) (place_of bs x))) (bytes_eq x a.0) 0 ≡ cond here (Some (length (a ∷ bs))) (innermost (option_map suc (place_of bs x)) (bytes_eq x a.0) 0)
  behind true = refl
  behind false = refl

abbrev term_at : Bound → ℕ → ℕ
term_at bs i = (get_or bs i ([], 0)).1

-- the term stands at the place
bound-place : (bs : Bound) (x : List ℕ) → bound_at bs x ≡ option_map (term_at bs) (place_of bs x)
bound-place [] x = refl
bound-place (b ∷ bs) x = rw (bound-place bs x) (by_place (place_of bs x) (bytes_eq x b.0)) where
  by_place : (o : Option ℕ) (here : Bool) → innermost (option_map (term_at bs) o) here b.1 ≡ option_map (term_at (b ∷ bs)) (innermost (option_map suc o) here 0)
  by_place (Some i) here = refl
  by_place None true = refl
  by_place None false = refl

abbrev IsWithin : ℕ → Option ℕ → Type 0
IsWithin n None = Unit {0}
IsWithin n (Some i) = i < n

place_within : (bs : Bound) (x : List ℕ) → IsWithin (length bs) (place_of bs x)
place_within [] x = tt
place_within (b ∷ bs) x = by_place (place_of bs x) (bytes_eq x b.0) (place_within bs x) where
  by_place : (o : Option ℕ) (here : Bool) → IsWithin (length bs) o → IsWithin (length (b ∷ bs)) (innermost (option_map suc o) here 0)
  by_place (Some i) here h = omega (arith, h)
  by_place None true h = omega arith
  by_place None false h = tt

-- what is found from a place on
abbrev pub stands_from : ℕ → Option ℕ → Bool
stands_from n None = false
stands_from n (Some i) = nat_le n i

bound_from : (n : ℕ) (bs : Bound) (x : List ℕ) → is_some (bound_at (drop n bs) x) ≡ stands_from n (place_of bs x)
bound_from zero bs x = rw (bound-place bs x) (by_place (place_of bs x)) where
  by_place : (o : Option ℕ) → is_some (option_map (term_at bs) o) ≡ stands_from 0 o
  by_place (Some i) = sym (leb-zero i)
  by_place None = refl
bound_from (suc n) [] x = refl
bound_from (suc n) (b ∷ bs) x = bound_from n bs x ∙ by_place (place_of bs x) (bytes_eq x b.0) where
  by_place : (o : Option ℕ) (here : Bool) → stands_from n o ≡ stands_from (suc n) (innermost (option_map suc o) here 0)
  by_place (Some i) here = sym (leb-suc-suc n i)
  by_place None true = sym (leb-suc-zero n)
  by_place None false = refl

-- ---- hidden names

hidden_push : (before : Bound) (vs : List Variable) (w : Variable) → AreHidden before vs → w.hidden ≡ place_of (before ++ map pair_of vs) w.name.now → AreHidden before (vs ++ w ∷ [])
hidden_push before [] w h e = (e ∙ ap (λ l. place_of l w.name.now) (append-nil before), tt)
hidden_push before (v ∷ vs) w h e = (h.0, hidden_push (before ++ pair_of v ∷ []) vs w h.1 (e ∙ ap (λ l. place_of l w.name.now) (sym (append_assoc before (pair_of v ∷ []) (map pair_of vs)))))

hidden_pop : (before : Bound) (vs : List Variable) (w : Variable) → AreHidden before (vs ++ w ∷ []) → AreHidden before vs × (w.hidden ≡ place_of (before ++ map pair_of vs) w.name.now)
hidden_pop before [] w h = (tt, h.0 ∙ ap (λ l. place_of l w.name.now) (sym (append-nil before)))
hidden_pop before (v ∷ vs) w h = let q = hidden_pop (before ++ pair_of v ∷ []) vs w h.1 in ((h.0, q.0), q.1 ∙ ap (λ l. place_of l w.name.now) (append_assoc before (pair_of v ∷ []) (map pair_of vs)))

-- ---- the map

abbrev pub Places : Type 0
Places = List (Bor (List ℕ) × ℕ)

-- the map has this at a name, and at each other name what it had
abbrev pub Puts : Places → Places → Bor (List ℕ) → Option ℕ → Type 0
Puts es fs key w = (q : Bor (List ℕ)) → lookup (λ k. bytes_eq q.now k.now) fs ≡ cond (bytes_eq key.now q.now) w (lookup (λ k. bytes_eq q.now k.now) es)

pub places_none : (list : List Variable) (es : Places) → list ≡ [] → es ≡ [] → ArePlaces list es
places_none list es e f = rw (e, f) (record { latest = λ x. refl; hidden = tt })

last_place : (list : List Variable) (v : Variable) (x : List ℕ) → place_of (map pair_of (list ++ v ∷ [])) x ≡ cond (bytes_eq x v.name.now) (Some (length list)) (place_of (map pair_of list) x)
last_place list v x = ap (λ l. place_of l x) (map-append pair_of list (v ∷ [])) ∙ place-push (map pair_of list) (pair_of v) x ∙ ap (λ n. cond (bytes_eq x v.name.now) (Some n) (place_of (map pair_of list) x)) (length-pairs list)

pub places_push : (list more : List Variable) (v : Variable) (es fs : Places) (place : ℕ) → ArePlaces list es → more ≡ list ++ v ∷ [] → place ≡ length list → v.hidden ≡ lookup (λ k. bytes_eq v.name.now k.now) es → Puts es fs v.name (Some place) → ArePlaces more fs
places_push list more v es fs place h e l hid u = rw e (record {
  latest = λ x. u x ∙ rw (nat_list_eq_equiv.symm v.name.now x.now, l, h.latest x) (sym (last_place list v x.now));
  hidden = hidden_push [] list v h.hidden (hid ∙ h.latest v.name);
})

by_name : (rest : List Variable) (v : Variable) (w found : Option ℕ) (x : Bor (List ℕ)) (here : Bool) → bytes_eq v.name.now x.now ≡ here → w ≡ place_of (map pair_of rest) v.name.now → found ≡ place_of (map pair_of (rest ++ v ∷ [])) x.now → cond here w found ≡ place_of (map pair_of rest) x.now
by_name rest v w found x true t e f = e ∙ ap (place_of (map pair_of rest)) ((bytes_eq-Decides v.name.now x.now).0 t)
by_name rest v w found x false t e f = f ∙ last_place rest v x.now ∙ rw (nat_list_eq_equiv.symm x.now v.name.now, t) refl

pub places_pop : (list rest : List Variable) (v : Variable) (es fs : Places) (w : Option ℕ) → ArePlaces list es → list ≡ rest ++ v ∷ [] → v.hidden ≡ w → Puts es fs v.name w → ArePlaces rest fs
places_pop list rest v es fs w h e hid u =
    let before : AreHidden [] rest × (v.hidden ≡ place_of (map pair_of rest) v.name.now) = hidden_pop [] rest v (rw e at h.hidden) in
    record {
      latest = λ x. u x ∙ by_name rest v w _ x (bytes_eq v.name.now x.now) refl (sym hid ∙ before.1) (h.latest x ∙ ap (λ l. place_of (map pair_of l) x.now) e);
      hidden = before.0;
    }

-- the last name is in the map
pub present : (list rest : List Variable) (v : Variable) (es : Places) → ArePlaces list es → list ≡ rest ++ v ∷ [] → lookup (λ k. bytes_eq v.name.now k.now) es ≡ None → ⊥
present list rest v es h e n =
    let found : lookup (λ k. bytes_eq v.name.now k.now) es ≡ Some (length rest) = h.latest v.name ∙ ap (λ l. place_of (map pair_of l) v.name.now) e ∙ last_place rest v v.name.now ∙ rw (nat_list_eq_equiv.refl v.name.now) refl in
    let z : ◌≡◌ {A = Option ℕ} (Some (length rest)) None = sym found ∙ n in
    cc

-- ---- what is found

term_in : (vs : List Variable) (i : ℕ) → i < length vs → Some (term_at (map pair_of vs) i) ≡ option_map (λ v. v.term) (slice_get vs i)
term_in [] i h = absurd (omega (arith, h))
term_in (v ∷ vs) zero h = refl
term_in (v ∷ vs) (suc i) h = term_in vs i (omega (arith, h))

module _ (list : List Variable) (es : Places) (now : Bound) (name : Bor (List ℕ)) (h : ArePlaces list es) (view : map pair_of list ≡ now) (o : Option ℕ) (f : o ≡ lookup (λ k. bytes_eq name.now k.now) es) where
  at_place : o ≡ place_of now name.now
  at_place = f ∙ h.latest name ∙ ap (λ l. place_of l name.now) view

  pub found_at : (i : ℕ) → o ≡ Some i → i < length list
  found_at i e =
      let within : IsWithin (length now) (place_of now name.now) = place_within now name.now in
      let there : place_of now name.now ≡ Some i = sym at_place ∙ e in
      let below : i < length now = rw there at within in
      omega (arith, below, ap length view, length-pairs list)

  pub found_none : o ≡ None → bound_at now name.now ≡ None
  found_none e = bound-place now name.now ∙ ap (option_map (term_at now)) (sym at_place ∙ e)

  pub found_from : (n : ℕ) → is_some (bound_at (drop n now) name.now) ≡ stands_from n o
  found_from n = bound_from n now name.now ∙ ap (stands_from n) (sym at_place)

  pub found_term : (i : ℕ) → o ≡ Some i → bound_at now name.now ≡ option_map (λ v. v.term) (slice_get list i)
  found_term i e = bound-place now name.now ∙ ap (option_map (term_at now)) (sym at_place ∙ e) ∙ ap (λ l. Some (term_at l i)) (sym view) ∙ term_in list i (found_at i e)

-- ---- lists

pub from_place : (ys zs : List Variable) (n : ℕ) (other : Bound) → map pair_of ys ≡ other → zs ≡ drop n ys → map pair_of zs ≡ drop n other
from_place ys zs n other e f = ap (map pair_of) f ∙ sym (drop-map pair_of n ys) ∙ ap (drop n) e

-- a name is forgotten behind the front
pub cut_more : (len : ℕ) (old now new : Bound) → take len now ≡ take len old → new ≡ take (length now - 1) now → len < length now → take len new ≡ take len old
cut_more len old now new h e k = ap (take len) e ∙ take-take len (length now - 1) now (omega (arith, k)) ∙ h

pub cut_end : (len : ℕ) (old now : Bound) → take len now ≡ take len old → length now ≤ len → now ≡ take len old
cut_end len old now h k = sym (take_all len now k) ∙ h
