-- The tables of a file after a step more, and after a deletion.
use Rattle.std.proofs.Common.{◌≡◌, ℕ, zero, suc, ◌+◌, ◌-◌, ◌<◌, ◌≤◌, List, [], ◌∷◌, ◌++◌, length, take, get_or, replicate, Some, refl, sym, ap, ◌∙◌, subst, arith, ⊎_elim, get_or-set_same, get_or-set_other}
use Rattle.std.specs.Prelude.{◌==◌, Bool, true, false, ◌||◌, if◌then◌else◌, slice_get, slice_set, MatchOption}
use Rattle.std.specs.List.{list_any}
use Rattle.std.proofs.lemmas.Bool.{cases_Bool, cases_eq, eq-eqb, ne_eqb, eqb-true, eqb-false, cond-true, cond-false, or_left, or_from}
use Rattle.std.proofs.lemmas.List.{take_all, take_more}
use Rattle.std.proofs.lemmas.List.Folds.{list_any-append}
use Rattle.std.proofs.lemmas.Option.{slice_get_within}
use Rattle.cnf_base.proofs.Lists.{slice_get-push, slice_get-longer}
use Rattle.proof_text.specs.Deletions.{is_deleted}
use Rattle.proof_file.specs.Places.{FileValue, with_place, with_step, without_places}
use Rattle.proof_file.specs.Indexed.{place_in}
use Rattle.proof_file.specs.Held.{AreHeldAt}

-- ---- files

-- files with one count, and with one place for each position
pub same_file : (count : ℕ) (f g : ℕ → ℕ) → ((p : ℕ) → f p ≡ g p) → ◌≡◌ {A = FileValue} (record { count = count; places = f }) (record { count = count; places = g })
same_file count f g e = λ i. record { count = count; places = λ p. e p i }

-- ---- rows

no_rows : (n p : ℕ) → place_in (replicate n 0) p ≡ 0
no_rows zero p = refl
no_rows (suc n) zero = refl
no_rows (suc n) (suc p) = no_rows n p

longer : (places : List ℕ) (n p : ℕ) → place_in (places ++ replicate n 0) p ≡ place_in places p
longer [] n p = no_rows n p
longer (x ∷ places) n zero = refl
longer (x ∷ places) n (suc p) = longer places n p

-- a table that was made longer has the same places
pub resized : (old new : List ℕ) (n m : ℕ) → new ≡ take n old ++ replicate (n - m) 0 → length old ≤ n → (p : ℕ) → place_in new p ≡ place_in old p
resized old new n m e le p = ap (λ xs. place_in xs p) (e ∙ ap (λ xs. xs ++ replicate (n - m) 0) (take_all n old le)) ∙ longer old (n - m) p

row_set : (places : List ℕ) (at v p : ℕ) → at < length places → place_in (slice_set places at v) p ≡ (if p == at then v else place_in places p)
row_set places at v p lt = ⊎_elim
    (λ e. ap (place_in (slice_set places at v)) e ∙ get_or-set_same places at v 0 lt ∙ sym (cond-true (p == at) v (place_in places p) (eq-eqb p at e)))
    (λ ne. get_or-set_other places at p v 0 ne ∙ sym (cond-false (p == at) v (place_in places p) (ne_eqb p at ne)))
    (cases_eq p at)

row_here : (places : List ℕ) (at v : ℕ) → at < length places → place_in (slice_set places at v) at ≡ v
row_here places at v lt = get_or-set_same places at v 0 lt

row_other : (places : List ℕ) (at v p : ℕ) → (p ≡ at → ⊥) → place_in (slice_set places at v) p ≡ place_in places p
row_other places at v p ne = get_or-set_other places at p v 0 ne

-- ---- a step more

pub held_kept : (old new positions : List ℕ) → ((p : ℕ) → place_in new p ≡ place_in old p) → AreHeldAt old positions → AreHeldAt new positions
held_kept old new positions kept h p k e = h p k (sym (kept p) ∙ e)

pub held_put : (places positions : List ℕ) (at v : ℕ) → v ≡ suc (length positions) → at < length places → AreHeldAt places positions → AreHeldAt (slice_set places at v) (positions ++ at ∷ [])
held_put places positions at v is lt h p k e = ⊎_elim
    (λ same. (let here : suc (length positions) ≡ suc k = sym is ∙ sym (row_here places at v lt) ∙ ap (place_in (slice_set places at v)) (sym same) ∙ e in
    let end : length positions ≡ k = omega (arith, here) in
    subst (λ n. slice_get (positions ++ at ∷ []) n ≡ Some p) end (slice_get-push positions at ∙ ap Some (sym same))))
    (λ ne. slice_get-longer positions (at ∷ []) k p (h p k (sym (row_other places at v p ne) ∙ e)))
    (cases_eq p at)

-- the file after the step of this position
pub put_file : (f : FileValue) (old new positions : List ℕ) (at v : ℕ) → f ≡ record { count = length positions; places = place_in old } → ((p : ℕ) → place_in new p ≡ place_in old p) → v ≡ suc f.count → at < length new → ◌≡◌ {A = FileValue} (record { count = length (positions ++ at ∷ []); places = place_in (slice_set new at v) }) (with_step f at)
put_file f old new positions at v is kept next lt =
    let count : length (positions ++ at ∷ []) ≡ suc f.count = pushed positions at ∙ ap (λ (g : FileValue). suc g.count) (sym is) in
    λ i. record { count = count i; places = λ p. each p i }
  where
    pushed : (xs : List ℕ) (x : ℕ) → length (xs ++ x ∷ []) ≡ suc (length xs)
    pushed [] x = refl
    pushed (y ∷ ys) x = ap suc (pushed ys x)

    each : (p : ℕ) → place_in (slice_set new at v) p ≡ with_place f.places at (suc f.count) p
    each p =
        let before : place_in new p ≡ f.places p = kept p ∙ ap (λ (g : FileValue). g.places p) (sym is) in
        row_set new at v p lt ∙ ap (λ x. if p == at then x else place_in new p) next ∙ ap (λ x. if p == at then suc f.count else x) before

-- ---- the row of a place

place_within : (places : List ℕ) (r : ℕ) → (place_in places r ≡ 0 → ⊥) → r < length places
place_within [] r ne = absurd (ne refl)
place_within (x ∷ places) zero ne = omega arith
place_within (x ∷ places) (suc r) ne = let lt = place_within places r ne in omega (arith, lt)

-- nothing was written at the place
pub row_past : (places positions : List ℕ) (q : ℕ) → AreHeldAt places positions → length positions ≤ q - 1 → (p : ℕ) → place_in places p ≡ q → q ≡ 0
row_past places positions zero h le p e = refl
row_past places positions (suc k) h le p e =
    let lt = slice_get_within positions k p (h p k e) in
    let no : ⊥ = omega (arith, lt, le) in
    absurd no

one_there : (places positions : List ℕ) (q at : ℕ) → AreHeldAt places positions → (q ≡ 0 → ⊥) → slice_get positions (q - 1) ≡ Some at → (p : ℕ) → place_in places p ≡ q → p ≡ at
one_there places positions zero at h ne there p e = absurd (ne refl)
one_there places positions (suc k) at h ne there p e =
    let less : suc k - 1 ≡ k = omega arith in
    let both : Some p ≡ Some at = sym (h p k e) ∙ ap (slice_get positions) (sym less) ∙ there in
    let same : p ≡ at = cc in
    same

-- the position that was written there stands there
pub row_there : (places positions : List ℕ) (q at : ℕ) → AreHeldAt places positions → (q ≡ 0 → ⊥) → slice_get positions (q - 1) ≡ Some at → place_in places at ≡ q → (at < length places) × (place_in places at ≡ q) × ((p : ℕ) → place_in places p ≡ q → p ≡ at)
row_there places positions q at h ne there own =
    (place_within places at (λ z. ne (sym own ∙ z)), own, one_there places positions q at h ne there)

-- it stands there no longer
pub row_gone : (places positions : List ℕ) (q at : ℕ) → AreHeldAt places positions → (q ≡ 0 → ⊥) → slice_get positions (q - 1) ≡ Some at → (place_in places at ≡ q → ⊥) → (p : ℕ) → place_in places p ≡ q → q ≡ 0
row_gone places positions q at h ne there gone p e =
    let same = one_there places positions q at h ne there p e in
    let own : place_in places at ≡ q = ap (place_in places) (sym same) ∙ e in
    absurd (gone own)

-- ---- a deletion

pub one_deleted : (q p : ℕ) → is_deleted (q ∷ []) p ≡ (q == p)
one_deleted q p = ⊎_elim (λ t. or_left (q == p) false t ∙ sym t) (λ f. or_from (q == p) false f refl ∙ sym f) (cases_Bool (q == p))

is_one : (q x : ℕ) → q ≡ x → is_deleted (q ∷ []) x ≡ true
is_one q x e = one_deleted q x ∙ eq-eqb q x e

is_not_one : (q x : ℕ) → (q ≡ x → ⊥) → is_deleted (q ∷ []) x ≡ false
is_not_one q x ne = one_deleted q x ∙ ne_eqb q x ne

-- nothing stands at the place
pub absent_place : (f : FileValue) (q : ℕ) → ((p : ℕ) → f.places p ≡ q → q ≡ 0) → f ≡ without_places f (q ∷ [])
absent_place f q none = same_file f.count f.places (without_places f (q ∷ [])).places each
  where
    each : (p : ℕ) → f.places p ≡ (if is_deleted (q ∷ []) (f.places p) then 0 else f.places p)
    each p = ⊎_elim
        (λ e. e ∙ none p e ∙ sym (cond-true (is_deleted (q ∷ []) (f.places p)) 0 (f.places p) (is_one q (f.places p) (sym e))))
        (λ ne. sym (cond-false (is_deleted (q ∷ []) (f.places p)) 0 (f.places p) (is_not_one q (f.places p) (λ e. ne (sym e)))))
        (cases_eq (f.places p) q)

-- the position in this row stands at the place, and no other
pub place_cleared : (f : FileValue) (places positions : List ℕ) (q r : ℕ) → f ≡ record { count = length positions; places = place_in places } → r < length places → place_in places r ≡ q → ((p : ℕ) → place_in places p ≡ q → p ≡ r) → ◌≡◌ {A = FileValue} (record { count = length positions; places = place_in (slice_set places r 0) }) (without_places f (q ∷ []))
place_cleared f places positions q r is lt own other =
    same_file (length positions) (place_in (slice_set places r 0)) (λ p. if is_deleted (q ∷ []) (place_in places p) then 0 else place_in places p) each
    ∙ ap (λ (g : FileValue). without_places g (q ∷ [])) (sym is)
  where
    each : (p : ℕ) → place_in (slice_set places r 0) p ≡ (if is_deleted (q ∷ []) (place_in places p) then 0 else place_in places p)
    each p = ⊎_elim
        (λ e. ap (place_in (slice_set places r 0)) e ∙ row_here places r 0 lt
        ∙ sym (cond-true (is_deleted (q ∷ []) (place_in places p)) 0 (place_in places p) (is_one q (place_in places p) (sym (ap (place_in places) e ∙ own)))))
        (λ ne. row_other places r 0 p ne
        ∙ sym (cond-false (is_deleted (q ∷ []) (place_in places p)) 0 (place_in places p) (is_not_one q (place_in places p) (λ e. ne (other p (sym e))))))
        (cases_eq p r)

pub held_cleared : (places positions : List ℕ) (r : ℕ) → r < length places → AreHeldAt places positions → AreHeldAt (slice_set places r 0) positions
held_cleared places positions r lt h p k e = ⊎_elim
    (λ same. (let z : 0 ≡ suc k = sym (row_here places r 0 lt) ∙ ap (place_in (slice_set places r 0)) (sym same) ∙ e in absurd (omega (arith, z))))
    (λ ne. h p k (sym (row_other places r 0 p ne) ∙ e))
    (cases_eq p r)

zeros : (b : Bool) → ◌≡◌ {A = ℕ} (if b then 0 else 0) 0
zeros true = refl
zeros false = refl

-- one place after others
pub without_more : (f : FileValue) (qs : List ℕ) (q : ℕ) → without_places (without_places f qs) (q ∷ []) ≡ without_places f (qs ++ q ∷ [])
without_more f qs q = same_file f.count (without_places (without_places f qs) (q ∷ [])).places (without_places f (qs ++ q ∷ [])).places each
  where
    both : (x : ℕ) → (if is_deleted (q ∷ []) (if is_deleted qs x then 0 else x) then 0 else (if is_deleted qs x then 0 else x)) ≡ (if is_deleted qs x || is_deleted (q ∷ []) x then 0 else x)
    both x = elim (is_deleted qs x) as (λ b. (if is_deleted (q ∷ []) (if b then 0 else x) then 0 else (if b then 0 else x)) ≡ (if b || is_deleted (q ∷ []) x then 0 else x)) [ true ↦ zeros (is_deleted (q ∷ []) 0) | false ↦ refl ]

    each : (p : ℕ) → (without_places (without_places f qs) (q ∷ [])).places p ≡ (without_places f (qs ++ q ∷ [])).places p
    each p = both (f.places p) ∙ ap (λ b. if b then 0 else f.places p) (sym (list_any-append (λ x. x == f.places p) qs (q ∷ [])))

pub without_none : (f : FileValue) → f ≡ without_places f []
without_none f = refl

-- so many places of a list, and the next
pub without_next : (old mid new : FileValue) (qs : List ℕ) (k q d : ℕ) → k < length qs → q ≡ get_or qs k d → mid ≡ without_places old (take k qs) → new ≡ without_places mid (q ∷ []) → new ≡ without_places old (take (k + 1) qs)
without_next old mid new qs k q d lt is m n =
    n ∙ ap (λ (f : FileValue). without_places f (q ∷ [])) m ∙ without_more old (take k qs) q
    ∙ ap (λ x. without_places old (take k qs ++ x ∷ [])) is
    ∙ ap (without_places old) (sym (take_more qs k d lt))
