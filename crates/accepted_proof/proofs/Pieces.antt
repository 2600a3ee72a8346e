-- The texts of values by the pieces that are written.
use Rattle.std.proofs.Common.{◌≡◌, ℕ, suc, ◌+◌, ◌<◌, Bool, true, false, List, [], ◌∷◌, ◌++◌, length, get_or, map, take, replicate, codes, refl, sym, ap, ◌∙◌, subst, arith, append_assoc, append-nil}
use Rattle.std.specs.Prelude.{◌==◌, if◌then◌else◌}
use Rattle.std.specs.List.{flat_map, AllByRecursion}
use Rattle.std.proofs.lemmas.Bool.{eqb-true}
use Rattle.std.proofs.lemmas.List.{length-take-le, replicate_more, take_more}
use Rattle.std.proofs.lemmas.List.Concat.{flat_map-append}
use Rattle.smt_words.specs.Words.{WordValue}
use Rattle.smt_terms.specs.declared.scalar.Scalar.{Scalar}
use Rattle.smt_values.specs.Arrays.{Entry, ArrayFields, IsArray, IsEntry, array_value, pair_of}
use Rattle.smt_values.specs.declared.table.Row.{Row}
use Rattle.proof_text.specs.Lines.{digits_text, joined, spaced}
use Rattle.proof_text.specs.Records.{digits_of}
use Rattle.accepted_proof.specs.Answers.{store_text, stores_text, constant_text, meaning_text, numbered, listed, shown_scalar, rows_text}
use Rattle.accepted_proof.specs.Printed.{store_opening, store_ending, row_opening}

-- ---- arrays

abbrev openings : ℕ → List Entry → List ℕ
openings d es = flat_map (λ (e : Entry). store_opening d e.1) es

abbrev opening_by : Bool → List ℕ
opening_by b = if b then [] else codes "(store "

two_openings : (a b : Bool) → opening_by a ++ opening_by b ≡ opening_by b ++ opening_by a
two_openings true true = refl
two_openings true false = refl
two_openings false true = refl
two_openings false false = refl

-- an opening may as well stand before the others
opening_first : (d : ℕ) (x : WordValue) (es : List Entry) → openings d es ++ store_opening d x ≡ store_opening d x ++ openings d es
opening_first d x [] = sym (append-nil (store_opening d x))
opening_first d x (e ∷ es) =
    let here = store_opening d e.1 in
    let other = store_opening d x in
    append_assoc here (openings d es) other
    ∙ ap (λ r. here ++ r) (opening_first d x es)
    ∙ sym (append_assoc here other (openings d es))
    ∙ ap (λ r. r ++ openings d es) (two_openings (e.1.value == d) (x.value == d))
    ∙ append_assoc other here (openings d es)

regroup_store : (o inside s i t x e : List ℕ) → o ++ inside ++ s ++ i ++ t ++ x ++ e ≡ o ++ (inside ++ (s ++ i ++ t ++ x ++ e))
regroup_store o inside s i t x e = simp append_assoc

by_default : (b : Bool) (inside i x : List ℕ) → (if b then inside else codes "(store " ++ inside ++ codes " " ++ i ++ codes " " ++ x ++ codes ")") ≡ (if b then [] else codes "(store ") ++ (inside ++ (if b then [] else codes " " ++ i ++ codes " " ++ x ++ codes ")"))
by_default true inside i x = sym (append-nil inside)
by_default false inside i x = regroup_store (codes "(store ") inside (codes " ") i (codes " ") x (codes ")")

-- the pieces of an entry, before and behind the array into which it is stored
store_pieces : (n m d : ℕ) (e : Entry) (inside : List ℕ) → IsEntry n m e → store_text n m d (pair_of e) inside ≡ store_opening d e.1 ++ (inside ++ store_ending d e)
store_pieces n m d e inside h =
    subst (λ k. store_text k m d (pair_of e) inside ≡ store_opening d e.1 ++ (inside ++ store_ending d e)) h.0.width
    (subst (λ k. store_text e.0.width k d (pair_of e) inside ≡ store_opening d e.1 ++ (inside ++ store_ending d e)) h.1.width
    (by_default (e.1.value == d) inside (digits_text (digits_of e.0)) (digits_text (digits_of e.1))))

regroup_stores : (b o x c t : List ℕ) → b ++ o ≡ o ++ b → b ++ ((o ++ (x ++ c)) ++ t) ≡ (o ++ b) ++ (x ++ (c ++ t))
regroup_stores b o x c t e =
    let step : b ++ ((o ++ (x ++ c)) ++ t) ≡ (b ++ o) ++ (x ++ (c ++ t)) = simp append_assoc in
    step ∙ ap (λ r. r ++ (x ++ (c ++ t))) e

stores_pieces : (n m d : ℕ) (es : List Entry) (inside : List ℕ) → AllByRecursion (IsEntry n m) es → stores_text n m d (map pair_of es) inside ≡ openings d es ++ (inside ++ flat_map (store_ending d) es)
stores_pieces n m d [] inside h = sym (append-nil inside)
stores_pieces n m d (e ∷ es) inside h =
    stores_pieces n m d es (store_text n m d (pair_of e) inside) h.1
    ∙ ap (λ r. openings d es ++ (r ++ flat_map (store_ending d) es)) (store_pieces n m d e inside h.0)
    ∙ regroup_stores (openings d es) (store_opening d e.1) inside (store_ending d e) (flat_map (store_ending d) es) (opening_first d e.1 es)

regroup_three : (o a b c : List ℕ) → ((o ++ a) ++ b) ++ c ≡ o ++ (a ++ (b ++ c))
regroup_three o a b c = simp append_assoc

pub array_pieces : (a : ArrayFields) (old out mid new : List ℕ) → IsArray a → out ≡ old ++ openings a.default.value a.entries → mid ≡ out ++ constant_text a.index a.default.width a.default.value → new ≡ mid ++ flat_map (store_ending a.default.value) a.entries
    → new ≡ old ++ meaning_text (array_value a)
array_pieces a old out mid new h e f g =
    let d = a.default.value in
    let inside = constant_text a.index a.default.width d in
    g
    ∙ ap (λ r. r ++ flat_map (store_ending d) a.entries) (f ∙ ap (λ r. r ++ inside) e)
    ∙ regroup_three old (openings d a.entries) inside (flat_map (store_ending d) a.entries)
    ∙ ap (λ r. old ++ r) (sym (stores_pieces a.index a.default.width d a.entries inside h.entries))

regroup_five : (o a b c d e : List ℕ) → ((((o ++ a) ++ b) ++ c) ++ d) ++ e ≡ o ++ (a ++ b ++ c ++ d ++ e)
regroup_five o a b c d e = simp append_assoc

pub five_parts : (o p q r s t a b c d e : List ℕ) → p ≡ o ++ a → q ≡ p ++ b → r ≡ q ++ c → s ≡ r ++ d → t ≡ s ++ e → t ≡ o ++ (a ++ b ++ c ++ d ++ e)
five_parts o p q r s t a b c d e i j k l m = rw (m, l, k, j, i) (regroup_five o a b c d e)

regroup_nine : (o a b c d e f g h i j : List ℕ) → ((((((((o ++ a) ++ b) ++ c) ++ d) ++ e) ++ f) ++ g) ++ h) ++ (i ++ j) ≡ o ++ (a ++ b ++ c ++ d ++ e ++ f ++ g ++ h ++ i ++ j)
regroup_nine o a b c d e f g h i j = simp append_assoc

pub nine_parts : (o p q r s t u v w x a b c d e f g h i j : List ℕ) → p ≡ o ++ a → q ≡ p ++ b → r ≡ q ++ c → s ≡ r ++ d → t ≡ s ++ e → u ≡ t ++ f → v ≡ u ++ g → w ≡ v ++ h → x ≡ w ++ (i ++ j) → x ≡ o ++ (a ++ b ++ c ++ d ++ e ++ f ++ g ++ h ++ i ++ j)
nine_parts o p q r s t u v w x a b c d e f g h i j k l m n y z k' l' m' = rw (m', l', k', z, y, n, m, l, k) (regroup_nine o a b c d e f g h i j)

-- ---- lists

abbrev gap : ℕ → List ℕ
gap k = if k == 0 then [] else codes " "

module _ {A : Type 0} (text : ℕ → A → List ℕ) where
  numbered_more : (k : ℕ) (xs : List A) (x : A) → numbered text k (xs ++ x ∷ []) ≡ numbered text k xs ++ text (k + length xs) x ∷ []
  numbered_more k [] x = let same : k ≡ k + 0 = omega arith in ap (λ n. text n x ∷ []) same
  numbered_more k (y ∷ ys) x =
      let same : suc k + length ys ≡ k + suc (length ys) = omega arith in
      ap (λ r. text k y ∷ r) (numbered_more (suc k) ys x ∙ ap (λ n. numbered text (suc k) ys ++ text n x ∷ []) same)

joined_first : (w v : List ℕ) (ws : List (List ℕ)) → joined ((v ∷ ws) ++ w ∷ []) ≡ joined (v ∷ ws) ++ (codes " " ++ w)
joined_first w v ws =
    ap (λ r. v ++ r) (flat_map-append (λ (u : List ℕ). 32 ∷ u) ws (w ∷ []) ∙ ap (λ r. spaced ws ++ 32 ∷ r) (append-nil w))
    ∙ sym (append_assoc v (spaced ws) (32 ∷ w))

gap_next : (n : ℕ) → codes " " ≡ gap (suc n)
gap_next n = by_test (suc n == 0) refl
  where
    by_test : (b : Bool) → (suc n == 0) ≡ b → codes " " ≡ (if b then [] else codes " ")
    by_test true e = let no : suc n ≡ 0 = eqb-true (suc n) 0 e in absurd (omega (arith, no))
    by_test false e = refl

module _ {A : Type 0} (text : ℕ → A → List ℕ) where
  listed_push : (xs : List A) (x : A) → listed text (xs ++ x ∷ []) ≡ listed text xs ++ (gap (length xs) ++ text (length xs) x)
  listed_push [] x = append-nil (text 0 x)
  listed_push (y ∷ ys) x =
      let same : 0 + length (y ∷ ys) ≡ suc (length ys) = omega arith in
      ap joined (numbered_more text 0 (y ∷ ys) x ∙ ap (λ n. numbered text 0 (y ∷ ys) ++ text n x ∷ []) same)
      ∙ joined_first (text (suc (length ys)) x) (text 0 y) (numbered text 1 ys)
      ∙ ap (λ r. listed text (y ∷ ys) ++ (r ++ text (suc (length ys)) x)) (gap_next (length ys))

  -- the next was appended
  pub listed_more : (xs : List A) (k : ℕ) (d : A) (old out mid new : List ℕ) → k < length xs → out ≡ old ++ listed text (take k xs) → mid ≡ out ++ gap k → new ≡ mid ++ text k (get_or xs k d) → new ≡ old ++ listed text (take (k + 1) xs)
  listed_more xs k d old out mid new lt e f g =
      let long : length (take k xs) ≡ k = length-take-le k xs (omega (arith, lt)) in
      let more : listed text (take (k + 1) xs) ≡ listed text (take k xs) ++ (gap k ++ text k (get_or xs k d)) =
      ap (listed text) (take_more xs k d lt)
      ∙ listed_push (take k xs) (get_or xs k d)
      ∙ ap (λ n. listed text (take k xs) ++ (gap n ++ text n (get_or xs k d))) long
      in
      g
      ∙ ap (λ r. r ++ text k (get_or xs k d)) (f ∙ ap (λ r. r ++ gap k) e)
      ∙ regroup_three old (listed text (take k xs)) (gap k) (text k (get_or xs k d))
      ∙ ap (λ r. old ++ r) (sym more)

-- ---- tables

regroup_row : (o f d r e : List ℕ) → (o ++ (f ++ (d ++ r))) ++ e ≡ (o ++ f) ++ (d ++ (r ++ e))
regroup_row o f d r e = simp append_assoc

closed_more : (n : ℕ) → replicate n 41 ++ codes ")" ≡ replicate (suc n) 41
closed_more n = let same : n + 1 ≡ suc n = omega arith in replicate_more {X = ℕ} n 41 ∙ ap (λ k. replicate {A = ℕ} k 41) same

rows_pieces : (d : Scalar) (rs : List Row) → rows_text d rs ≡ flat_map row_opening rs ++ (shown_scalar d ++ replicate (length rs) 41)
rows_pieces d [] = sym (append-nil (shown_scalar d))
rows_pieces d (r ∷ rs) =
    ap (λ x. row_opening r ++ x ++ codes ")") (rows_pieces d rs)
    ∙ regroup_row (row_opening r) (flat_map row_opening rs) (shown_scalar d) (replicate (length rs) 41) (codes ")")
    ∙ ap (λ x. (row_opening r ++ flat_map row_opening rs) ++ (shown_scalar d ++ x)) (closed_more (length rs))

-- one parenthesis more
pub closing_more : (n : ℕ) (old out new : List ℕ) → out ≡ old ++ replicate n 41 → new ≡ out ++ 41 ∷ [] → new ≡ old ++ replicate (n + 1) 41
closing_more n old out new e f =
    f ∙ ap (λ r. r ++ 41 ∷ []) e ∙ append_assoc old (replicate n 41) (41 ∷ []) ∙ ap (λ r. old ++ r) (replicate_more {X = ℕ} n 41)

pub table_pieces : (d : Scalar) (rs : List Row) (old out mid new : List ℕ) → out ≡ old ++ flat_map row_opening rs → mid ≡ out ++ shown_scalar d → new ≡ mid ++ replicate (length rs) 41 → new ≡ old ++ rows_text d rs
table_pieces d rs old out mid new e f g =
    g
    ∙ ap (λ r. r ++ replicate (length rs) 41) (f ∙ ap (λ r. r ++ shown_scalar d) e)
    ∙ regroup_three old (flat_map row_opening rs) (shown_scalar d) (replicate (length rs) 41)
    ∙ ap (λ r. old ++ r) (sym (rows_pieces d rs))
