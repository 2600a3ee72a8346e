-- What a table by term tells, and one step more.
use Rattle.std.proofs.Common.{◌≡◌, ℕ, zero, suc, ◌<◌, ◌≤◌, List, [], ◌∷◌, ◌++◌, length, get_or, Option, Some, None, refl, sym, ap, ◌∙◌, subst, arith, inl, inr, ⊎_elim}
use Rattle.std.specs.Prelude.{◌⊎◌, if◌then◌else◌, slice_get, slice_set, take}
use Rattle.std.proofs.lemmas.Option.{slice_get_within, slice_get_read}
use Rattle.std.proofs.lemmas.Bool.{cases_eq, eq-eqb, ne_eqb}
use Rattle.cnf_base.proofs.Lists.{slice_get-set_same, slice_get-take}
use Rattle.reached_images.specs.declared.plan.Planned.{Planned}
use Rattle.reached_images.specs.Plans.{planned_in}
use Rattle.reached_images.specs.Tables.{IsTable, Keeps}

pub table_kept : (old new : List ℕ) (steps : List Planned) → Keeps old new → IsTable old steps → IsTable new steps
table_kept old new steps keeps t k p e = keeps p.term k (t k p e)

pub table_cut : (places : List ℕ) (steps : List Planned) (n : ℕ) → IsTable places steps → IsTable places (take n steps)
table_cut places steps n t k p e = t k p (slice_get-take n steps k p e).1

pub push_cases : (xs : List Planned) (y : Planned) (k : ℕ) (x : Planned) → slice_get (xs ++ y ∷ []) k ≡ Some x → (slice_get xs k ≡ Some x) ⊎ ((k ≡ length xs) × (x ≡ y))
push_cases [] y zero x e = inr (refl, (let q : x ≡ y = cc in q))
push_cases [] y (suc k) x e = let q : ⊥ = cc in absurd q
push_cases (z ∷ zs) y zero x e = inl e
push_cases (z ∷ zs) y (suc k) x e = ⊎_elim (λ p. inl p) (λ p. inr (ap suc p.0, p.1)) (push_cases zs y k x e)

set_other : (xs : List ℕ) (i k v : ℕ) → (i ≡ k → ⊥) → slice_get (slice_set xs i v) k ≡ slice_get xs k
set_other [] i k v ne = refl
set_other (x ∷ xs) zero zero v ne = absurd (ne refl)
set_other (x ∷ xs) zero (suc k) v ne = refl
set_other (x ∷ xs) (suc i) zero v ne = refl
set_other (x ∷ xs) (suc i) (suc k) v ne = set_other xs i k v (λ e. ne (ap suc e))

-- ---- the step for a term

-- the terms of these steps differ
abbrev pub AreApart : List Planned → Type 0
AreApart steps = (j k : ℕ) (p q : Planned) → slice_get steps j ≡ Some p → slice_get steps k ≡ Some q → p.term ≡ q.term → j ≡ k

pub table_apart : (places : List ℕ) (steps : List Planned) → IsTable places steps → AreApart steps
table_apart places steps t j k p q e f same = let s : Some j ≡ Some k = sym (t j p e) ∙ ap (slice_get places) same ∙ t k q f in cc

pub found_at : (steps : List Planned) (k : ℕ) (p : Planned) (t : ℕ) → AreApart steps → slice_get steps k ≡ Some p → p.term ≡ t → planned_in steps t ≡ Some p
found_at [] k p t apart e same = let q : ⊥ = cc in absurd q
found_at (s ∷ ss) zero p t apart e same =
    let q : s ≡ p = cc in
    ap (λ b. if b then Some s else planned_in ss t) (eq-eqb s.term t (ap (λ r. r.term) q ∙ same)) ∙ ap Some q
found_at (s ∷ ss) (suc k) p t apart e same =
    ap (λ b. if b then Some s else planned_in ss t) (ne_eqb s.term t (λ f. other (apart 0 (suc k) s p refl e (f ∙ sym same))))
    ∙ found_at ss k p t (λ i j x y ex ey f. (let q : suc i ≡ suc j = apart (suc i) (suc j) x y ex ey f in omega (arith, q))) e same
  where
    other : 0 ≡ suc k → ⊥
    other q = omega (arith, q)

pub found_place : (steps : List Planned) (t : ℕ) (p : Planned) → planned_in steps t ≡ Some p → (k : ℕ) × (slice_get steps k ≡ Some p) × (p.term ≡ t)
found_place [] t p e = let q : ⊥ = cc in absurd q
found_place (s ∷ ss) t p e = ⊎_elim
    (λ q. (let f : Some s ≡ Some p = sym (ap (λ b. if b then Some s else planned_in ss t) (eq-eqb s.term t q)) ∙ e in
    let r : s ≡ p = cc in (0, f, sym (ap (λ x. x.term) r) ∙ q)))
    (λ ne. (let f = sym (ap (λ b. if b then Some s else planned_in ss t) (ne_eqb s.term t ne)) ∙ e in
    let r = found_place ss t p f in (suc r.0, r.1, r.2)))
    (cases_eq s.term t)

none_or : (o : Option Planned) → ((p : Planned) → o ≡ Some p → ⊥) → o ≡ None
none_or None f = refl
none_or (Some p) f = absurd (f p refl)

-- ---- the table

pub table_push : (places : List ℕ) (steps : List Planned) (s : Planned) → IsTable places steps → s.term < length places → planned_in steps s.term ≡ None → IsTable (slice_set places s.term (length steps)) (steps ++ s ∷ [])
table_push places steps s t lt new k p e =
    ⊎_elim
    (λ q. set_other places s.term p.term (length steps) (λ f. other k p q f) ∙ t k p q)
    (λ q. subst (λ z. slice_get (slice_set places s.term (length steps)) z ≡ Some k) (sym (ap (λ r. r.term) q.1)) (slice_get-set_same places s.term (length steps) lt ∙ ap Some (sym q.0)))
    (push_cases steps s k p e)
  where
    other : (k : ℕ) (p : Planned) → slice_get steps k ≡ Some p → s.term ≡ p.term → ⊥
    other k p q f = let r : None ≡ Some p = sym new ∙ found_at steps k p s.term (table_apart places steps t) q (sym f) in let z : ⊥ = cc in z

-- ---- what a look into the table shows

pub absent_past : (places : List ℕ) (steps : List Planned) (x : ℕ) → IsTable places steps → length places ≤ x → planned_in steps x ≡ None
absent_past places steps x t le = none_or (planned_in steps x) (λ p e. (
    let f = found_place steps x p e in
    let lt = slice_get_within places p.term f.0 (t f.0 p f.1) in
    let same : p.term ≡ x = f.2 in
    omega (arith, lt, same, le)))

pub absent_wide : (places : List ℕ) (steps : List Planned) (x k : ℕ) → IsTable places steps → slice_get places x ≡ Some k → length steps ≤ k → planned_in steps x ≡ None
absent_wide places steps x k t found le = none_or (planned_in steps x) (λ p e. (
    let f = found_place steps x p e in
    let same : Some k ≡ Some f.0 = sym found ∙ ap (slice_get places) (sym f.2) ∙ t f.0 p f.1 in
    let own : k ≡ f.0 = cc in
    let lt = slice_get_within steps f.0 p f.1 in
    omega (arith, own, lt, le)))

pub absent_other : (places : List ℕ) (steps : List Planned) (x k : ℕ) (y : Planned) → IsTable places steps → slice_get places x ≡ Some k → slice_get steps k ≡ Some y → (y.term ≡ x → ⊥) → planned_in steps x ≡ None
absent_other places steps x k y t found name other = none_or (planned_in steps x) (λ p e. (
    let f = found_place steps x p e in
    let same : Some k ≡ Some f.0 = sym found ∙ ap (slice_get places) (sym f.2) ∙ t f.0 p f.1 in
    let own : k ≡ f.0 = cc in
    let both : Some y ≡ Some p = sym name ∙ ap (slice_get steps) own ∙ f.1 in
    let is : y ≡ p = cc in
    other (ap (λ r. r.term) is ∙ f.2)))

-- an element that was read from a list with these items
pub read_at : (xs ys : List ℕ) (k x : ℕ) → ys ≡ xs → k < length ys → x ≡ get_or ys k x → slice_get xs k ≡ Some x
read_at xs ys k x e lt r = ap (λ l. slice_get l k) (sym e) ∙ slice_get_read ys (length ys) k x refl lt r

pub step_at : (xs ys : List Planned) (k : ℕ) (x : Planned) → ys ≡ xs → k < length ys → x ≡ get_or ys k x → slice_get xs k ≡ Some x
step_at xs ys k x e lt r = ap (λ l. slice_get l k) (sym e) ∙ slice_get_read ys (length ys) k x refl lt r
