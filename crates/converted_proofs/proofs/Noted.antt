-- What is noted of a place: the part that needs it last.
use Rattle.std.proofs.Common.{◌≡◌, ℕ, zero, suc, ◌<◌, ◌≤◌, List, [], ◌∷◌, ◌++◌, length, map, get_or, refl, ap, subst, arith, ⊎_elim}
use Rattle.std.specs.Prelude.{set}
use Rattle.std.specs.List.{AllByRecursion}
use Rattle.std.proofs.lemmas.Bool.{cases_lt}
use Rattle.std.proofs.lemmas.List.{length-append, get_or_append_left}
use Rattle.proof_text.specs.declared.line.Line.{Line}
use Rattle.proof_conversion.specs.declared.kind.Owed.{Owed}
use Rattle.proof_conversion.specs.declared.kind.Owed.TheVariants as owed
use Rattle.proof_conversion.specs.Parts.{kind_of}
use Rattle.proof_conversion.specs.Needs.{Known, Knows, known_with, needs, mark, mark_all, part_in, step_in}
use Rattle.proof_conversion.proofs.Knowing.{length_marked}

-- the last part that needs the place; no part needs place 0
abbrev pub note : List ℕ → ℕ → ℕ
note last zero = 0
note last (suc q) = get_or last q 0

-- no part behind this one is noted
abbrev pub AtMost : ℕ → List ℕ → Type 0
AtMost n last = AllByRecursion (λ x. x ≤ n) last

-- a place among the first m that is named in this part is noted for it or for a later one
abbrev pub Stays : List ℕ → ℕ → ℕ → ℕ → Type 0
Stays last n m p = 0 < p → p ≤ m → n ≤ note last p

-- ---- one mark

most_set : (n : ℕ) (last : List ℕ) (p : ℕ) → AtMost n last → AtMost n (set last p n)
most_set n [] p h = tt
most_set n (x ∷ xs) zero h = (omega arith, h.1)
most_set n (x ∷ xs) (suc p) h = (h.0, most_set n xs p h.1)

grows_set : (n : ℕ) (last : List ℕ) (p q : ℕ) → AtMost n last → get_or last q 0 ≤ get_or (set last p n) q 0
grows_set n [] p q h = omega arith
grows_set n (x ∷ xs) zero zero h = h.0
grows_set n (x ∷ xs) zero (suc q) h = omega arith
grows_set n (x ∷ xs) (suc p) zero h = omega arith
grows_set n (x ∷ xs) (suc p) (suc q) h = grows_set n xs p q h.1

hit_set : (n : ℕ) (last : List ℕ) (p : ℕ) → p < length last → n ≤ get_or (set last p n) p 0
hit_set n [] p h = absurd (omega (arith, h))
hit_set n (x ∷ xs) zero h = omega arith
hit_set n (x ∷ xs) (suc p) h = hit_set n xs p (let z : p < length xs = omega (arith, h) in z)

most_mark : (n p : ℕ) (last : List ℕ) → AtMost n last → AtMost n (mark n p last)
most_mark n zero last h = h
most_mark n (suc p) last h = most_set n last p h

grows_mark : (n p : ℕ) (last : List ℕ) (q : ℕ) → AtMost n last → note last q ≤ note (mark n p last) q
grows_mark n p last zero h = omega arith
grows_mark n zero last (suc q) h = omega arith
grows_mark n (suc p) last (suc q) h = grows_set n last p q h

hit_mark : (n p : ℕ) (last : List ℕ) → 0 < p → p ≤ length last → n ≤ note (mark n p last) p
hit_mark n zero last h k = absurd (omega (arith, h))
hit_mark n (suc p) last h k = hit_set n last p (let z : p < length last = omega (arith, k) in z)

length_one : (n p : ℕ) (last : List ℕ) → length (mark n p last) ≡ length last
length_one n p last = length_marked n (p ∷ []) last

-- ---- all marks of a line

most_marks : (n : ℕ) (ps last : List ℕ) → AtMost n last → AtMost n (mark_all n ps last)
most_marks n [] last h = h
most_marks n (p ∷ ps) last h = most_marks n ps (mark n p last) (most_mark n p last h)

grows_marks : (n : ℕ) (ps last : List ℕ) (q : ℕ) → AtMost n last → note last q ≤ note (mark_all n ps last) q
grows_marks n [] last q h = omega arith
grows_marks n (p ∷ ps) last q h =
    let a = grows_mark n p last q h in
    let b = grows_marks n ps (mark n p last) q (most_mark n p last h) in
    omega (arith, a, b)

hit_marks : (n : ℕ) (ps last : List ℕ) → AtMost n last → AllByRecursion (Stays (mark_all n ps last) n (length last)) ps
hit_marks n [] last h = tt
hit_marks n (p ∷ ps) last h = (
  λ some within.
      let a = hit_mark n p last some within in
      let b = grows_marks n ps (mark n p last) p (most_mark n p last h) in
      omega (arith, a, b),
  subst (λ (m : ℕ). AllByRecursion (Stays (mark_all n ps (mark n p last)) n m) ps) (length_one n p last) (hit_marks n ps (mark n p last) (most_mark n p last h)),
)

-- ---- what is noted behind a line

note_front : (a b : List ℕ) (q : ℕ) → q ≤ length a → note (a ++ b) q ≡ note a q
note_front a b zero h = refl
note_front a b (suc q) h = get_or_append_left a b 0 q (let z : q < length a = omega (arith, h) in z)

part_grows : (k : Known) (l : Line) (o : Owed) → part_in k ≤ part_in (known_with k l o)
part_grows k l owed.Nothing = let e = length-append k.parts ((k.opened ++ l ∷ []) ∷ []) in omega (arith, e)
part_grows k l owed.Steps = omega arith
part_grows k l (owed.Values n) = omega arith
part_grows k l (owed.Notes n) = omega arith

most_more : (n m : ℕ) (last : List ℕ) → n ≤ m → AtMost n last → AtMost m last
most_more n m [] le h = tt
most_more n m (x ∷ xs) le h = (let a = h.0 in omega (arith, a, le), most_more n m xs le h.1)

most_append : (n : ℕ) (a b : List ℕ) → AtMost n a → AtMost n b → AtMost n (a ++ b)
most_append n [] b h k = k
most_append n (x ∷ xs) b h k = (h.0, most_append n xs b h.1 k)

most_same : (n : ℕ) (ls : List Line) → AtMost n (map (λ (s : Line). n) ls)
most_same n [] = tt
most_same n (l ∷ ls) = (omega arith, most_same n ls)

pub most_with : (k : Known) (l : Line) (o : Owed) → AtMost (part_in k) k.last → AtMost (part_in (known_with k l o)) (known_with k l o).last
most_with k l o h =
    let ls = step_in (kind_of l) l in
    most_more (part_in k) (part_in (known_with k l o)) (known_with k l o).last (part_grows k l o)
    (most_append (part_in k) (mark_all (part_in k) (needs k.steps l) k.last) (map (λ (s : Line). part_in k) ls) (most_marks (part_in k) (needs k.steps l) k.last h) (most_same (part_in k) ls))

front_note : (k : Known) (l : Line) (o : Owed) (q : ℕ) → q ≤ length k.last → note (known_with k l o).last q ≡ note (mark_all (part_in k) (needs k.steps l) k.last) q
front_note k l o q h =
    let e = length_marked (part_in k) (needs k.steps l) k.last in
    note_front (mark_all (part_in k) (needs k.steps l) k.last) (map (λ (s : Line). part_in k) (step_in (kind_of l) l)) q (omega (arith, e, h))

longer : (k : Known) (l : Line) (o : Owed) → length k.last ≤ length (known_with k l o).last
longer k l o =
    let a = length-append (mark_all (part_in k) (needs k.steps l) k.last) (map (λ (s : Line). part_in k) (step_in (kind_of l) l)) in
    let b = length_marked (part_in k) (needs k.steps l) k.last in
    omega (arith, a, b)

grows_with : (k : Known) (l : Line) (o : Owed) (q : ℕ) → AtMost (part_in k) k.last → q ≤ length k.last → note k.last q ≤ note (known_with k l o).last q
grows_with k l o q h le =
    let a = grows_marks (part_in k) (needs k.steps l) k.last q h in
    let b = front_note k l o q le in
    omega (arith, a, b)

-- what is noted never falls
pub grows : (k : Known) (ls : List Line) (end : Known) (q : ℕ) → Knows k ls end → AtMost (part_in k) k.last → q ≤ length k.last → note k.last q ≤ note end.last q
grows k [] end q w h le = let e = ap (λ (x : Known). note x.last q) w in omega (arith, e)
grows k (l ∷ ls) end q w h le =
    let a = grows_with k l w.0 q h le in
    let long = longer k l w.0 in
    let b = grows (known_with k l w.0) ls end q w.2 (most_with k l w.0 h) (omega (arith, long, le)) in
    omega (arith, a, b)

stays_more : (old new : List ℕ) (n m : ℕ) (ps : List ℕ) → ((q : ℕ) → q ≤ m → note old q ≤ note new q) → AllByRecursion (Stays old n m) ps → AllByRecursion (Stays new n m) ps
stays_more old new n m [] h k = tt
stays_more old new n m (p ∷ ps) h k = (
  λ some within.
      let a = k.0 some within in
      let b = h p within in
      omega (arith, a, b),
  stays_more old new n m ps h k.1,
)

-- What a line needs is noted for its part or for a later one.
pub needs_noted : (k : Known) (l : Line) (ls : List Line) (end : Known) → Knows k (l ∷ ls) end → AtMost (part_in k) k.last → AllByRecursion (Stays end.last (part_in k) (length k.last)) (needs k.steps l)
needs_noted k l ls end w h =
    stays_more (mark_all (part_in k) (needs k.steps l) k.last) end.last (part_in k) (length k.last) (needs k.steps l)
    (λ q le.
    let a = front_note k l w.0 q le in
    let long = longer k l w.0 in
    let b = grows (known_with k l w.0) ls end q w.2 (most_with k l w.0 h) (omega (arith, long, le)) in
    omega (arith, a, b))
    (hit_marks (part_in k) (needs k.steps l) k.last h)

-- ---- what is made later

same_note : (n : ℕ) (a : List ℕ) (ls : List Line) (q : ℕ) → length a < q → q ≤ length (a ++ map (λ (s : Line). n) ls) → note (a ++ map (λ (s : Line). n) ls) q ≡ n
same_note n a ls zero lt le = absurd (omega (arith, lt))
same_note n [] [] (suc q) lt le = absurd (omega (arith, le))
same_note n [] (l ∷ ls) (suc zero) lt le = refl
same_note n [] (l ∷ ls) (suc (suc q)) lt le = same_note n [] ls (suc q) (omega arith) (let z : suc q ≤ length (map (λ (s : Line). n) ls) = omega (arith, le) in z)
same_note n (x ∷ a) ls (suc zero) lt le = absurd (omega (arith, lt))
same_note n (x ∷ a) ls (suc (suc q)) lt le = same_note n a ls (suc q) (let z : length a < suc q = omega (arith, lt) in z) (let z : suc q ≤ length (a ++ map (λ (s : Line). n) ls) = omega (arith, le) in z)

-- A step that is made from here on is noted for this part or for a later one.
pub made_noted : (k : Known) (ls : List Line) (end : Known) (q : ℕ) → Knows k ls end → AtMost (part_in k) k.last → length k.last < q → q ≤ length end.last → part_in k ≤ note end.last q
made_noted k [] end q w h lt le = let e = ap (λ (x : Known). length x.last) w in absurd (omega (arith, e, lt, le))
made_noted k (l ∷ ls) end q w h lt le = ⊎_elim (later (λ more. made_noted (known_with k l w.0) ls end q w.2 (most_with k l w.0 h) more le)) here (cases_lt (length (known_with k l w.0).last) q)
  where
    later : (length (known_with k l w.0).last < q → part_in (known_with k l w.0) ≤ note end.last q) → length (known_with k l w.0).last < q → part_in k ≤ note end.last q
    later again more =
        let a = again more in
        let b = part_grows k l w.0 in
        omega (arith, a, b)

    here : q ≤ length (known_with k l w.0).last → part_in k ≤ note end.last q
    here within =
        let marked = mark_all (part_in k) (needs k.steps l) k.last in
        let e = length_marked (part_in k) (needs k.steps l) k.last in
        let a = same_note (part_in k) marked (step_in (kind_of l) l) q (omega (arith, e, lt)) within in
        let b = grows (known_with k l w.0) ls end q w.2 (most_with k l w.0 h) within in
        omega (arith, a, b)
