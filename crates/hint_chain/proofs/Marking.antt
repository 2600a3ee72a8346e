-- Marks that agree with a row of true literals, after one more.
use Rattle.std.proofs.Common.{◌≡◌, ℕ, zero, suc, ◌+◌, ◌/◌, ◌<◌, ◌≤◌, List, [], ◌∷◌, ◌++◌, length, take, drop, get_or, refl, sym, ap, ◌∙◌, subst, ⊎_elim, arith}
use Rattle.std.specs.Prelude.{All, Contains, map, slice_get, slice_set}
use Rattle.std.proofs.lemmas.Bool.{cases_eq}
use Rattle.std.proofs.lemmas.Option.{slice_get_within, get_or_from_slice_get}
use Rattle.std.proofs.lemmas.List.{map-append, length-map, take-append-drop}
use Rattle.std.proofs.lemmas.List.Elements.{Contains-append_left, Contains-push, Contains-push_cases, Contains-get_or}
use Rattle.cnf_base.specs.Literals.{Literal, negated, code_of}
use Rattle.cnf_base.specs.Assignments.{AreBelow}
use Rattle.cnf_base.proofs.Codes.{negated-negated, code_of-injective, code_of-bounds}
use Rattle.cnf_base.proofs.Rows.{take_at}
use Rattle.hint_chain.specs.declared.shape.Shape.{Shape}
use Rattle.hint_chain.specs.declared.shape.Shape.TheVariants.{AllFalse, OneOpen, Many}
use Rattle.hint_chain.specs.Chains.{HasPair}
use Rattle.hint_chain.specs.Faults.{Joins}
use Rattle.hint_chain.specs.Marks.{Stamps, IsMarked, Agrees, HasPlace, HasRoom}
use Rattle.cnf_base.proofs.Lists.{slice_get-set_same, slice_get-set_other}
use Rattle.cnf_base.proofs.Truth.{not_its_opposite}

-- ---- one mark more

abbrev pub with_mark : Stamps → Literal → Stamps
with_mark m l = record { stamps = slice_set m.stamps (code_of l) m.round; round = m.round }

pub agrees_mark : (m : Stamps) (ts : List Literal) (l : Literal) → Agrees m ts → HasPlace m l → Agrees (with_mark m l) (ts ++ l ∷ [])
agrees_mark m ts l h place k = (to, from)
  where
    within : code_of l < length m.stamps
    within = omega (arith, place, (code_of-bounds l).1)

    here : code_of k ≡ code_of l → IsMarked (with_mark m l) k
    here same = ap (slice_get (slice_set m.stamps (code_of l) m.round)) same ∙ slice_get-set_same m.stamps (code_of l) m.round within

    to : IsMarked (with_mark m l) k → Contains (ts ++ l ∷ []) k
    to e =
        ⊎_elim
        (λ same. subst (Contains (ts ++ l ∷ [])) (sym (code_of-injective k l same)) (Contains-push ts l))
        (λ ne. Contains-append_left ts (l ∷ []) k ((h k).0 (sym (slice_get-set_other m.stamps (code_of l) (code_of k) m.round ne) ∙ e)))
        (cases_eq (code_of k) (code_of l))

    from : Contains (ts ++ l ∷ []) k → IsMarked (with_mark m l) k
    from c =
        ⊎_elim
        (λ old.
        ⊎_elim
        here
        (λ ne. slice_get-set_other m.stamps (code_of l) (code_of k) m.round ne ∙ (h k).1 old)
        (cases_eq (code_of k) (code_of l)))
        (λ e. here (ap code_of (sym e)))
        (Contains-push_cases ts l k c)

-- where each stamp is of an earlier round, nothing is marked
pub agrees_none : (stamps : List ℕ) (before round : ℕ) → All (λ s. s ≤ before) stamps → before < round → Agrees (record { stamps = stamps; round = round }) []
agrees_none stamps before round old later k = (
  (λ e.
      let within = slice_get_within stamps (code_of k) round e in
      let at = get_or_from_slice_get stamps (code_of k) round 0 e in
      let bound = old (code_of k) 0 within in
      absurd (omega (arith, at, bound, later))),
  (λ c. absurd (omega (arith, c.1))),
)

-- ---- room

pub room_at : (m : Stamps) (c : List Literal) (i : ℕ) (x : Literal) → HasRoom m c → i < length c → x ≡ get_or c i x → HasPlace m x
room_at m c i x h lt e = subst (HasPlace m) (sym e) (place_at m c i x h lt)
  where
    place_at : (m : Stamps) (c : List Literal) (i : ℕ) (d : Literal) → HasRoom m c → i < length c → HasPlace m (get_or c i d)
    place_at m [] i d h lt = absurd (omega arith)
    place_at m (l ∷ c) zero d h lt = h.0
    place_at m (l ∷ c) (suc i) d h lt = place_at m c i d h.1 (omega arith)

pub room_same : (m n : Stamps) (c : List Literal) → length n.stamps ≡ length m.stamps → HasRoom m c → HasRoom n c
room_same m n [] e h = tt
room_same m n (l ∷ c) e h = (omega (arith, h.0), room_same m n c e h.1)

-- the literals of the variables below half of the stamps have a place
pub room_below : (m : Stamps) (n : ℕ) (c : List Literal) → n ≡ length m.stamps / 2 → AreBelow n c → HasRoom m c
room_below m n [] e h = tt
room_below m n (l ∷ c) e h = (omega (arith, e, h.0), room_below m n c e h.1)

-- a shape that is open is open at a literal that has a place
pub joined_room : (m : Stamps) (s : Shape) (l : Literal) (r : Shape) → Joins s l r → HasPlace m l → ((k : Literal) → s ≡ OneOpen k → HasPlace m k) → (k : Literal) → r ≡ OneOpen k → HasPlace m k
joined_room m AllFalse l r j lt h k e = let q : l ≡ k = cc in subst (HasPlace m) q lt
joined_room m (OneOpen n) l r j lt h k e =
    ⊎_elim
    (λ p. let f = p.1 in h k (sym f ∙ e))
    (λ p. let f = p.1 in let q : ⊥ = cc in absurd q)
    j
joined_room m Many l r j lt h k e = let q : ⊥ = cc in absurd q

-- ---- opposites

-- the opposite of an opposite
pub opposite_in : (xs : List Literal) (y : Literal) → Contains (map negated xs) y → Contains xs (negated y)
opposite_in xs y c = (c.0, subst (λ n. c.0 < n) (length-map xs negated) c.1, found xs c.0 c.2)
  where
    found : (xs : List Literal) (k : ℕ) → get_or (map negated xs) k y ≡ y → get_or xs k (negated y) ≡ negated y
    found [] k e = refl
    found (x ∷ xs) zero e = sym (negated-negated x) ∙ ap negated e
    found (x ∷ xs) (suc k) e = found xs k e

pub in_opposite : (xs : List Literal) (y : Literal) → Contains xs (negated y) → Contains (map negated xs) y
in_opposite xs y c = (c.0, subst (λ n. c.0 < n) (sym (length-map xs negated)) c.1, found xs c.0 c.2)
  where
    found : (xs : List Literal) (k : ℕ) → get_or xs k (negated y) ≡ negated y → get_or (map negated xs) k y ≡ y
    found [] k e = refl
    found (x ∷ xs) zero e = ap negated e ∙ negated-negated y
    found (x ∷ xs) (suc k) e = found xs k e

take_in : (xs : List Literal) (i : ℕ) (y : Literal) → Contains (take i xs) y → Contains xs y
take_in xs i y c = subst (λ zs. Contains zs y) (take-append-drop i xs) (Contains-append_left (take i xs) (drop i xs) y c)

-- a literal that is marked as an opposite stands beside its own
pub pair_found : (m : Stamps) (xs : List Literal) (i : ℕ) (x : Literal) → i < length xs → x ≡ get_or xs i x → Agrees m (map negated (take i xs)) → IsMarked m x → HasPair xs
pair_found m xs i x lt e h marked =
    (x, subst (Contains xs) (sym e) (Contains-get_or xs i x lt), take_in xs i (negated x) (opposite_in (take i xs) x ((h x).0 marked)))

pub pair_more : (xs : List Literal) (x : Literal) → ¬ (HasPair xs) → ¬ (Contains xs (negated x)) → ¬ (HasPair (xs ++ x ∷ []))
pair_more xs x alone without p =
    let l = p.0 in
    ⊎_elim
    (λ old.
    ⊎_elim
    (λ beside. alone (l, old, beside))
    (λ e. without (subst (Contains xs) (sym (ap negated e ∙ negated-negated l)) old))
    (Contains-push_cases xs x (negated l) p.2))
    (λ same.
    ⊎_elim
    (λ beside. without (subst (λ y. Contains xs (negated y)) (sym same) beside))
    (λ e. not_its_opposite l.positive (ap (λ y. y.positive) (sym same ∙ e)))
    (Contains-push_cases xs x (negated l) p.2))
    (Contains-push_cases xs x l p.1)

pub pair_none : (m : Stamps) (xs : List Literal) (i : ℕ) (x : Literal) → i < length xs → x ≡ get_or xs i x → Agrees m (map negated (take i xs)) → ¬ (IsMarked m x) → ¬ (HasPair (take i xs)) → ¬ (HasPair (take (i + 1) xs))
pair_none m xs i x lt e h unmarked alone =
    let without : ¬ (Contains (take i xs) (negated x)) = λ c. unmarked ((h x).1 (in_opposite (take i xs) x c)) in
    subst (λ ys. ¬ (HasPair ys)) (sym (take_at xs i x lt e)) (pair_more (take i xs) x alone without)

-- one opposite more is marked
pub opposite_more : (m : Stamps) (xs : List Literal) (i : ℕ) (x : Literal) → HasPlace m x → i < length xs → x ≡ get_or xs i x → Agrees m (map negated (take i xs)) → Agrees (with_mark m (negated x)) (map negated (take (i + 1) xs))
opposite_more m xs i x place lt e h =
    let l = negated x in
    let joined : map negated (take i xs) ++ l ∷ [] ≡ map negated (take (i + 1) xs) =
    sym (map-append negated (take i xs) (x ∷ [])) ∙ ap (map negated) (sym (take_at xs i x lt e)) in
    subst (Agrees (with_mark m l)) joined (agrees_mark m (map negated (take i xs)) l h place)
