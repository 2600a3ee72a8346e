-- What is deleted in front of a part: places of earlier lemmas and chains that no line needs from there on.
use Rattle.std.proofs.Common.{◌≡◌, ℕ, suc, ◌+◌, ◌<◌, ◌≤◌, ◌==◌, Bool, true, false, List, [], ◌∷◌, ◌++◌, length, get_or, refl, ap, subst, ◌∙◌, arith, eqb-true}
use Rattle.std.specs.Prelude.{◌&&◌, ◌||◌, if◌then◌else◌}
use Rattle.std.specs.List.{AllByRecursion}
use Rattle.std.proofs.lemmas.Bool.{and_parts}
use Rattle.std.proofs.lemmas.List.Folds.{list_any-append}
use Rattle.proof_log.specs.declared.entry.Entry.{Entry}
use Rattle.proof_log.specs.Logs.{entry_at}
use Rattle.proof_text.specs.Deletions.{AreDeletable, is_deletable, is_deleted}
use Rattle.proof_text.specs.declared.line.Line.{Line}
use Rattle.proof_conversion.specs.Parts.{kind_of}
use Rattle.proof_conversion.specs.Needs.{due, is_added}
use Rattle.converted_proofs.proofs.Noted.{note, Stays}

-- the place is one of the first m, and no part from this one on needs it
pub record IsPast (last : List ℕ) (n m q : ℕ) : Type 0 where
  pub some : 0 < q
  pub within : q ≤ m
  pub before : note last q < n

abbrev pub ArePast : List ℕ → ℕ → ℕ → List ℕ → Type 0
ArePast last n m places = AllByRecursion (IsPast last n m) places

pub past_more : (last : List ℕ) (n m n' m' : ℕ) (ps : List ℕ) → n ≤ n' → m ≤ m' → ArePast last n m ps → ArePast last n' m' ps
past_more last n m n' m' [] a b h = tt
past_more last n m n' m' (p ∷ ps) a b h = (
  record {
    some = h.0.some;
    within = (let z = h.0.within in omega (arith, z, b));
    before = (let z = h.0.before in omega (arith, z, a));
  },
  past_more last n m n' m' ps a b h.1,
)

pub past_append : (last : List ℕ) (n m : ℕ) (ps qs : List ℕ) → ArePast last n m ps → ArePast last n m qs → ArePast last n m (ps ++ qs)
past_append last n m [] qs h k = k
past_append last n m (p ∷ ps) qs h k = (h.0, past_append last n m ps qs h.1 k)

-- a place that is named in the part is none of them
pub not_past : (last : List ℕ) (n m m' : ℕ) (ps : List ℕ) (p : ℕ) → m ≤ m' → ArePast last n m ps → Stays last n m' p → is_deleted ps p ≡ false
not_past last n m m' [] p le h k = refl
not_past last n m m' (q ∷ ps) p le h k = go (not_past last n m m' ps p le h.1 k) (q == p) refl
  where
    go : is_deleted ps p ≡ false → (b : Bool) → (q == p) ≡ b → (b || is_deleted ps p) ≡ false
    go rest false e = rest
    go rest true e =
        let same : q ≡ p = eqb-true q p e in
        let a : 0 < p = subst (λ (x : ℕ). 0 < x) same h.0.some in
        let b : p ≤ m = subst (λ (x : ℕ). x ≤ m) same h.0.within in
        let c : note last p < n = subst (λ (x : ℕ). note last x < n) same h.0.before in
        let d = k a (omega (arith, b, le)) in
        absurd (omega (arith, c, d))

-- ---- places that are due

-- each is at least this, and greater than the one before it
abbrev pub Rises : ℕ → List ℕ → Type 0
Rises p [] = Unit {0}
Rises p (x ∷ xs) = (p ≤ x) × Rises (suc x) xs

lower : (p q : ℕ) (xs : List ℕ) → p ≤ q → Rises q xs → Rises p xs
lower p q [] le h = tt
lower p q (x ∷ xs) le h = (let a = h.0 in omega (arith, a, le), h.1)

pub due_rises : (row p : ℕ) (steps : List Line) (last : List ℕ) → Rises p (due row p steps last)
due_rises row p [] last = tt
due_rises row p (l ∷ ls) [] = tt
due_rises row p (l ∷ ls) (k ∷ ks) = go (due_rises row (suc p) ls ks) (is_added (kind_of l) && (k == row))
  where
    go : Rises (suc p) (due row (suc p) ls ks) → (b : Bool) → Rises p ((if b then (p ∷ []) else []) ++ due row (suc p) ls ks)
    go rest true = (omega arith, rest)
    go rest false = lower p (suc p) (due row (suc p) ls ks) (omega arith) rest

-- what holds of each place at which an added step stands whose last part is this
pub due_each : (Good : ℕ → Type 0) (d : Line) (row p : ℕ) (steps : List Line) (last : List ℕ)
    → ((i : ℕ) → i < length steps → i < length last → is_added (kind_of (get_or steps i d)) ≡ true → get_or last i 0 ≡ row → Good (p + i)) → AllByRecursion Good (due row p steps last)
due_each Good d row p [] last h = tt
due_each Good d row p (l ∷ ls) [] h = tt
due_each Good d row p (l ∷ ls) (k ∷ ks) h =
    go (due_each Good d row (suc p) ls ks (λ i a b e f. subst Good (let z : p + suc i ≡ suc p + i = omega arith in z) (h (suc i) (omega (arith, a)) (omega (arith, b)) e f))) (is_added (kind_of l) && (k == row)) refl
  where
    go : AllByRecursion Good (due row (suc p) ls ks) → (b : Bool) → (is_added (kind_of l) && (k == row)) ≡ b → AllByRecursion Good ((if b then (p ∷ []) else []) ++ due row (suc p) ls ks)
    go rest false e = rest
    go rest true e =
        let both = and_parts (is_added (kind_of l)) (k == row) e in
        (subst Good (let z : p + 0 ≡ p = omega arith in z) (h 0 (omega arith) (omega arith) both.0 (eqb-true k row both.1)), rest)

-- the same of all steps
pub due_all : (Good : ℕ → Type 0) (d : Line) (row : ℕ) (steps : List Line) (last : List ℕ)
    → ((i : ℕ) → i < length steps → i < length last → is_added (kind_of (get_or steps i d)) ≡ true → get_or last i 0 ≡ row → Good (suc i)) → AllByRecursion Good (due row 1 steps last)
due_all Good d row steps last h = due_each Good d row 1 steps last (λ i a b e f. subst Good (let z : suc i ≡ 1 + i = omega arith in z) (h i a b e f))

-- ---- they can be deleted

other_place : (x y : ℕ) → x < y → (x == y) ≡ false
other_place x y lt = go (x == y) refl
  where
    go : (b : Bool) → (x == y) ≡ b → b ≡ false
    go false e = refl
    go true e = let same : x ≡ y = eqb-true x y e in absurd (omega (arith, lt, same))

still_not : (deleted : List ℕ) (x p : ℕ) (ys : List ℕ) → x < p → Rises p ys → AllByRecursion (λ (y : ℕ). is_deleted deleted y ≡ false) ys → AllByRecursion (λ (y : ℕ). is_deleted (deleted ++ x ∷ []) y ≡ false) ys
still_not deleted x p [] lt r h = tt
still_not deleted x p (y ∷ ys) lt r h = (
  (let a = r.0 in
      list_any-append (λ (q : ℕ). q == y) deleted (x ∷ [])
      ∙ ap (λ (b : Bool). b || ((x == y) || false)) h.0
      ∙ ap (λ (b : Bool). b || false) (other_place x y (omega (arith, lt, a)))),
  still_not deleted x (suc y) ys (let a = r.0 in omega (arith, lt, a)) r.1 h.1,
)

pub are_deletable : (log : List Entry) (deleted : List ℕ) (p : ℕ) (xs : List ℕ) → Rises p xs → AllByRecursion (λ (x : ℕ). is_deletable (entry_at log x) ≡ true) xs → AllByRecursion (λ (x : ℕ). is_deleted deleted x ≡ false) xs → AreDeletable log deleted xs
are_deletable log deleted p [] r h k = tt
are_deletable log deleted p (x ∷ xs) r h k = (h.0, k.0, are_deletable log (deleted ++ x ∷ []) (suc x) xs r.1 h.1 (still_not deleted x (suc x) xs (omega arith) r.1 k.1))
