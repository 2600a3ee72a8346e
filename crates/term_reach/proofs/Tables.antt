-- What a table by term tells, and one term more.
use Rattle.std.proofs.Common.{◌≡◌, ℕ, zero, suc, ◌<◌, ◌≤◌, List, [], ◌∷◌, ◌++◌, length, get_or, Some, refl, sym, ap, ◌∙◌, subst, arith, inl, inr, ⊎_elim}
use Rattle.std.specs.Prelude.{◌⊎◌, Contains, slice_get, slice_set}
use Rattle.std.proofs.lemmas.Option.{slice_get-get_or, slice_get_within, slice_get_read, get_or_from_slice_get}
use Rattle.std.proofs.lemmas.List.Elements.{Contains-get_or}
use Rattle.indexmap.proofs.IndexTableLemmas.Probe.{pigeonhole}
use Rattle.cnf_base.proofs.Lists.{slice_get-set_same}
use Rattle.term_reach.specs.Reach.{IsOnce}
use Rattle.term_reach.specs.Tables.{IsTable, Keeps}

-- ---- what a list contains, by places

pub contains_at : (xs : List ℕ) (k t : ℕ) → slice_get xs k ≡ Some t → Contains xs t
contains_at xs k t e = (k, slice_get_within xs k t e, get_or_from_slice_get xs k t t e)

pub at_contained : (xs : List ℕ) (t : ℕ) → Contains xs t → (k : ℕ) × (slice_get xs k ≡ Some t)
at_contained xs t c = (c.0, slice_get-get_or xs c.0 t c.1 ∙ ap Some c.2)

-- ---- the table

pub table_once : (places terms : List ℕ) → IsTable places terms → IsOnce terms
table_once places terms t j k x p q = let e : Some j ≡ Some k = sym (t j x p) ∙ t k x q in cc

pub table_kept : (old new terms : List ℕ) → Keeps old new → IsTable old terms → IsTable new terms
table_kept old new terms keeps t k x e = keeps x k (t k x e)

pub push_cases : (xs : List ℕ) (y k x : ℕ) → slice_get (xs ++ y ∷ []) k ≡ Some x → (slice_get xs k ≡ Some x) ⊎ ((k ≡ length xs) × (x ≡ y))
push_cases [] y zero x e = inr (refl, (let q : x ≡ y = cc in q))
push_cases [] y (suc k) x e = let q : ⊥ = cc in absurd q
push_cases (z ∷ zs) y zero x e = inl e
push_cases (z ∷ zs) y (suc k) x e = ⊎_elim (λ p. inl p) (λ p. inr (ap suc p.0, p.1)) (push_cases zs y k x e)

set_other : (xs : List ℕ) (i k v : ℕ) → (i ≡ k → ⊥) → slice_get (slice_set xs i v) k ≡ slice_get xs k
set_other [] i k v ne = refl
set_other (x ∷ xs) zero zero v ne = absurd (ne refl)
set_other (x ∷ xs) zero (suc k) v ne = refl
set_other (x ∷ xs) (suc i) zero v ne = refl
set_other (x ∷ xs) (suc i) (suc k) v ne = set_other xs i k v (λ e. ne (ap suc e))

pub table_push : (places terms : List ℕ) (y : ℕ) → IsTable places terms → y < length places → (Contains terms y → ⊥) → IsTable (slice_set places y (length terms)) (terms ++ y ∷ [])
table_push places terms y t lt new k x e =
    ⊎_elim
    (λ p. set_other places y x (length terms) (λ q. new (contains_at terms k y (subst (λ z. slice_get terms k ≡ Some z) (sym q) p))) ∙ t k x p)
    (λ p. subst (λ z. slice_get (slice_set places y (length terms)) z ≡ Some k) (sym p.1) (slice_get-set_same places y (length terms) lt ∙ ap Some (sym p.0)))
    (push_cases terms y k x e)

-- ---- what a look into the table shows

-- an element that was read from a list with these items
pub read_at : (xs ys : List ℕ) (k x : ℕ) → ys ≡ xs → k < length ys → x ≡ get_or ys k x → slice_get xs k ≡ Some x
read_at xs ys k x e lt r = ap (λ l. slice_get l k) (sym e) ∙ slice_get_read ys (length ys) k x refl lt r

pub absent_past : (places terms ys : List ℕ) (x : ℕ) → IsTable places terms → ys ≡ places → length ys ≤ x → Contains terms x → ⊥
absent_past places terms ys x t e le c =
    let at = at_contained terms x c in
    let lt = slice_get_within places x at.0 (t at.0 x at.1) in
    let same : length ys ≡ length places = ap length e in
    omega (arith, lt, same, le)

pub absent_wide : (places terms ys : List ℕ) (x k : ℕ) → IsTable places terms → slice_get places x ≡ Some k → ys ≡ terms → length ys ≤ k → Contains terms x → ⊥
absent_wide places terms ys x k t found e le c =
    let at = at_contained terms x c in
    let same : Some k ≡ Some at.0 = sym found ∙ t at.0 x at.1 in
    let own : k ≡ at.0 = cc in
    let lt = slice_get_within terms at.0 x at.1 in
    let count : length ys ≡ length terms = ap length e in
    omega (arith, own, lt, count, le)

pub absent_other : (places terms : List ℕ) (x k y : ℕ) → IsTable places terms → slice_get places x ≡ Some k → slice_get terms k ≡ Some y → (y ≡ x → ⊥) → Contains terms x → ⊥
absent_other places terms x k y t found name other c =
    let at = at_contained terms x c in
    let same : Some k ≡ Some at.0 = sym found ∙ t at.0 x at.1 in
    let own : k ≡ at.0 = cc in
    let both : Some y ≡ Some x = sym name ∙ ap (slice_get terms) own ∙ at.1 in
    let f : y ≡ x = cc in
    other f

-- one term more
pub once_push : (terms : List ℕ) (y : ℕ) → IsOnce terms → (Contains terms y → ⊥) → IsOnce (terms ++ y ∷ [])
once_push terms y once new j k x p q =
    ⊎_elim
    (λ a. ⊎_elim (λ b. once j k x a b) (λ b. absurd (apart j x a b.1)) (push_cases terms y k x q))
    (λ a. ⊎_elim (λ b. absurd (apart k x b a.1)) (λ b. a.0 ∙ sym b.0) (push_cases terms y k x q))
    (push_cases terms y j x p)
  where
    apart : (i x : ℕ) → slice_get terms i ≡ Some x → x ≡ y → ⊥
    apart i x e same = new (contains_at terms i y (subst (λ z. slice_get terms i ≡ Some z) same e))

-- terms below a number, each once, are no more than it
pub once_few : (terms : List ℕ) (count : ℕ) → IsOnce terms → ((t : ℕ) → Contains terms t → t < count) → length terms ≤ count
once_few terms count once below = pigeonhole (length terms) count (λ k. get_or terms k 0)
    (λ k lt. below (get_or terms k 0) (Contains-get_or terms k 0 lt))
    (λ i j p q e. once i j (get_or terms j 0) (slice_get-get_or terms i 0 p ∙ ap Some e) (slice_get-get_or terms j 0 q))
