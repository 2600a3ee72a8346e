-- From codes and stamps to literals and rows, and back.
use Rattle.std.proofs.Common.{ℕ, ◌≡◌, ◌+◌, ◌*◌, ◌<◌, ◌≤◌, zero, suc, Bool, true, false, not, if◌then◌else◌, List, [], ◌∷◌, Some, length, take, filter, refl, sym, ◌∙◌, ap, inl, inr, arith}
use Rattle.std.specs.Prelude.{slice_get, Contains}
use Rattle.std.proofs.Math.ListN.{get_or}
use Rattle.std.proofs.lemmas.List.{get_or-map, get_or-take, get_or_default, length-map, length-take-le}
use Rattle.std.proofs.lemmas.Option.{slice_get-get_or, get_or_from_slice_get, slice_get_within}
use Rattle.cnf_base.specs.Literals.{Literal, code_of, literal_of, negated}
use Rattle.cnf_base.proofs.Codes.{literal_of-code_of, code_of-literal_of, code_of-injective}
use Rattle.cdcl_core.specs.declared.trail.Trail.{Trail}
use Rattle.cdcl_core.specs.Chains.{times}
use Rattle.cdcl_core.specs.Levels.{Row, IsTrueBy, IsFalseBy, IsRefutedBy, RestsBy, IsOpen}
use Rattle.cdcl_core.specs.Search.{literals_of}
use Rattle.cdcl_core.specs.Stamps.{neg, codes, Has, IsTrueAt, IsFalse, RestsAt, IsTrail}
use Rattle.cdcl_core.specs.State.{no_row, IsShown}
use Rattle.cdcl_core.proofs.Counting.{neg_cases}
use Rattle.cdcl_core.proofs.Trails.{found_at, true_on_trail, entry_true, half_true, trail_len}
use Rattle.cdcl_core.proofs.Clauses.{code_in}

neg_of_sign : (v : ℕ) (p : Bool) → 2 * v + (if not p then 0 else 1) ≡ neg (2 * v + (if p then 0 else 1))
neg_of_sign v true = elim (neg_cases (2 * v + 0)) [ inl h ↦ omega (arith, h.1) | inr h ↦ absurd (omega (arith, h.0)) ]
neg_of_sign v false = elim (neg_cases (2 * v + 1)) [ inl h ↦ absurd (omega (arith, h.0)) | inr h ↦ omega (arith, h.1) ]

pub code_of-negated : (l : Literal) → code_of (negated l) ≡ neg (code_of l)
code_of-negated l = neg_of_sign l.variable l.positive

-- a literal of the clause, and its code
pub has_from : (c : List Literal) (l : Literal) → Contains c l → Has (codes c) (code_of l)
has_from c l h = code_in c h.0 l (code_of l) h.1 (sym h.2) refl

pub has_to : (c : List Literal) (x : ℕ) → Has (codes c) x → (l : Literal) × (Contains c l × (code_of l ≡ x))
has_to c x h =
    let f : (i : ℕ) × ((i < length (codes c)) × (get_or (codes c) i 0 ≡ x)) = found_at x (codes c) h in
    let within : f.0 < length c = (let a : f.0 < length (codes c) = f.1.0 in rw length-map at a) in
    let l : Literal = get_or c f.0 (literal_of 0) in
    (l, ((f.0, within, get_or_default c f.0 l (literal_of 0) within), sym (get_or-map code_of c f.0 (literal_of 0) 0 within) ∙ f.1.1))

pub rows_len : (t : Trail) → IsTrail t.stamps.items t.codes.items t.len t.head t.level → IsShown t.rows.items t.stamps.items t.codes.items t.len → t.len ≤ length t.rows.items
rows_len t tr sh = omega (arith, half_true t.stamps.items t.codes.items t.len t.head t.level tr, sh.width)

-- the row at i
pub row_is : (t : Trail) (i : ℕ) → IsTrail t.stamps.items t.codes.items t.len t.head t.level → IsShown t.rows.items t.stamps.items t.codes.items t.len → i < t.len → slice_get (literals_of t) i ≡ Some (get_or t.rows.items i no_row)
row_is t i tr sh h =
    let within : i < length (literals_of t) = rw (length-take-le t.len t.rows.items (rows_len t tr sh)) h in
    slice_get-get_or (literals_of t) i no_row within ∙ ap Some (get_or-take t.len t.rows.items i no_row h)

pub literals_length : (t : Trail) → IsTrail t.stamps.items t.codes.items t.len t.head t.level → IsShown t.rows.items t.stamps.items t.codes.items t.len → length (literals_of t) ≡ t.len
literals_length t tr sh = length-take-le t.len t.rows.items (rows_len t tr sh)

pub true_rows : (t : Trail) (j : ℕ) (l : Literal) → IsTrail t.stamps.items t.codes.items t.len t.head t.level → IsShown t.rows.items t.stamps.items t.codes.items t.len → IsTrueAt t.stamps.items j (code_of l) → IsTrueBy (literals_of t) j l
true_rows t j l tr sh h =
    let ss : List ℕ = t.stamps.items in
    let es : List ℕ = t.codes.items in
    let on : 0 < times (code_of l) (take t.len es) = true_on_trail ss es t.len t.head t.level (code_of l) tr h.0 in
    let f : (i : ℕ) × ((i < length (take t.len es)) × (get_or (take t.len es) i 0 ≡ code_of l)) = found_at (code_of l) (take t.len es) on in
    let i : ℕ = f.0 in
    let within : i < t.len = (let a : i < length (take t.len es) = f.1.0 in rw (length-take-le t.len es (trail_len ss es t.len t.head t.level tr)) at a) in
    let at_i : get_or es i 0 ≡ code_of l = sym (get_or-take t.len es i 0 within) ∙ f.1.1 in
    let row : Row = get_or t.rows.items i no_row in
    let lit : row.0 ≡ l = sh.literal i within ∙ (ap literal_of at_i ∙ literal_of-code_of l) in
    let lev : row.1 + 1 ≡ get_or ss (code_of l) 0 = sh.level i within ∙ ap (λ x. get_or ss x 0) at_i in
    (i, (row.1, (row.2, (row_is t i tr sh within ∙ ap (λ x. Some (x, row.1, row.2)) lit, omega (arith, lev, h.1)))))

pub rows_true : (t : Trail) (j : ℕ) (l : Literal) → IsTrail t.stamps.items t.codes.items t.len t.head t.level → IsShown t.rows.items t.stamps.items t.codes.items t.len → IsTrueBy (literals_of t) j l → IsTrueAt t.stamps.items j (code_of l)
rows_true t j l tr sh h =
    let ss : List ℕ = t.stamps.items in
    let es : List ℕ = t.codes.items in
    let i : ℕ = h.0 in
    let level : ℕ = h.1.0 in
    let e : slice_get (literals_of t) i ≡ Some (l, level, h.1.1.0) = h.1.1.1.0 in
    let low : level ≤ j = h.1.1.1.1 in
    let within : i < t.len = (let a : i < length (literals_of t) = slice_get_within (literals_of t) i (l, level, h.1.1.0) e in rw (literals_length t tr sh) at a) in
    let row : get_or t.rows.items i no_row ≡ (l, level, h.1.1.0) = sym (get_or-take t.len t.rows.items i no_row within) ∙ get_or_from_slice_get (literals_of t) i (l, level, h.1.1.0) no_row e in
    let lit : l ≡ literal_of (get_or es i 0) = sym (ap (λ (r : Row). r.0) row) ∙ sh.literal i within in
    let code : code_of l ≡ get_or es i 0 = ap code_of lit ∙ code_of-literal_of (get_or es i 0) in
    let lev : level + 1 ≡ get_or ss (get_or es i 0) 0 = ap (λ (r : Row). r.1 + 1) (sym row) ∙ sh.level i within in
    rw code (entry_true ss es t.len t.head t.level i tr within, omega (arith, lev, low))

pub false_rows : (t : Trail) (j : ℕ) (l : Literal) → IsTrail t.stamps.items t.codes.items t.len t.head t.level → IsShown t.rows.items t.stamps.items t.codes.items t.len → IsTrueAt t.stamps.items j (neg (code_of l)) → IsFalseBy (literals_of t) j l
false_rows t j l tr sh h = true_rows t j (negated l) tr sh (rw code_of-negated h)

pub rows_false : (t : Trail) (j : ℕ) (l : Literal) → IsTrail t.stamps.items t.codes.items t.len t.head t.level → IsShown t.rows.items t.stamps.items t.codes.items t.len → IsFalseBy (literals_of t) j l → IsTrueAt t.stamps.items j (neg (code_of l))
rows_false t j l tr sh h = rw code_of-negated at (rows_true t j (negated l) tr sh h)

pub rests_rows : (t : Trail) (j : ℕ) (c : List Literal) → IsTrail t.stamps.items t.codes.items t.len t.head t.level → IsShown t.rows.items t.stamps.items t.codes.items t.len → RestsAt t.stamps.items j (codes c) → RestsBy (literals_of t) j c
rests_rows t j c tr sh r = elim r [
  | inl a ↦ let l : (l : Literal) × (Contains c l × (code_of l ≡ a.0)) = has_to c a.0 a.1.0 in
      inl (l.0, (l.1.0, true_rows t j l.0 tr sh (rw l.1.1 a.1.1)))
  | inr a ↦
      let l : (l : Literal) × (Contains c l × (code_of l ≡ a.0)) = has_to c a.0 a.1.1.0 in
      let m : (l : Literal) × (Contains c l × (code_of l ≡ a.1.0)) = has_to c a.1.0 a.1.1.1.0 in
      inr (
        l.0,
        (
          m.0,
          (
            l.1.0,
            (
              m.1.0,
              (
                (λ e. a.1.1.1.1.0 (sym l.1.1 ∙ (ap code_of e ∙ m.1.1))),
                ((λ h. a.1.1.1.1.1.0 (rw l.1.1 at (rows_false t j l.0 tr sh h))), (λ h. a.1.1.1.1.1.1 (rw m.1.1 at (rows_false t j m.0 tr sh h)))),
              ),
            ),
          ),
        ),
      )
]

pub rows_rest : (t : Trail) (j : ℕ) (c : List Literal) → IsTrail t.stamps.items t.codes.items t.len t.head t.level → IsShown t.rows.items t.stamps.items t.codes.items t.len → RestsBy (literals_of t) j c → RestsAt t.stamps.items j (codes c)
rows_rest t j c tr sh r = elim r [
  | inl a ↦ inl (code_of a.0, (has_from c a.0 a.1.0, rows_true t j a.0 tr sh a.1.1))
  | inr a ↦ inr (
    code_of a.0,
    (
      code_of a.1.0,
      (
        has_from c a.0 a.1.1.0,
        (
          has_from c a.1.0 a.1.1.1.0,
          (
            (λ e. a.1.1.1.1.0 (code_of-injective a.0 a.1.0 e)),
            ((λ h. a.1.1.1.1.1.0 (false_rows t j a.0 tr sh h)), (λ h. a.1.1.1.1.1.1 (false_rows t j a.1.0 tr sh h))),
          ),
        ),
      ),
    ),
  )
]

pub refuted_rows : (t : Trail) (c : List Literal) → IsTrail t.stamps.items t.codes.items t.len t.head t.level → IsShown t.rows.items t.stamps.items t.codes.items t.len → IsFalse t.stamps.items (codes c) → IsRefutedBy (literals_of t) t.level c
refuted_rows t c tr sh f l h = false_rows t t.level l tr sh (f (code_of l) (has_from c l h), tr.top (neg (code_of l)))

-- a filter that keeps exactly a front
pub front_kept : {X : Type 0} (p : X → Bool) (xs : List X) (n : ℕ) (d : X) → ((i : ℕ) → i < n → i < length xs → p (get_or xs i d) ≡ true) → ((i : ℕ) → n ≤ i → i < length xs → p (get_or xs i d) ≡ false) → filter p xs ≡ take n xs
front_kept p [] zero d keeps drops = refl
front_kept p [] (suc n) d keeps drops = refl
front_kept p (x ∷ xs) zero d keeps drops =
    let h : p x ≡ false = drops 0 (omega arith) (omega arith) in
    rw h (front_kept p xs zero d (λ i a b. absurd (omega arith)) (λ i a b. drops (suc i) (omega arith) (omega arith)))
front_kept p (x ∷ xs) (suc n) d keeps drops =
    let h : p x ≡ true = keeps 0 (omega arith) (omega arith) in
    rw h (ap (λ ys. x ∷ ys) (front_kept p xs n d (λ i a b. keeps (suc i) (omega arith) (omega arith)) (λ i a b. drops (suc i) (omega arith) (omega arith))))

-- a literal without a stamp, whose negation has none, is open
pub unset_open : (t : Trail) (l : Literal) → IsTrail t.stamps.items t.codes.items t.len t.head t.level → IsShown t.rows.items t.stamps.items t.codes.items t.len → get_or t.stamps.items (code_of l) 0 ≡ 0 → get_or t.stamps.items (neg (code_of l)) 0 ≡ 0 → IsOpen (literals_of t) t.level l
unset_open t l tr sh a b = ((λ h. omega (arith, a, (rows_true t t.level l tr sh h).0)), (λ h. omega (arith, b, (rows_false t t.level l tr sh h).0)))
