-- Places under the parts that need them last.
use Rattle.std.proofs.Common.{◌≡◌, ℕ, zero, suc, ◌+◌, ◌<◌, ◌≤◌, Bool, true, false, List, [], ◌∷◌, ◌++◌, length, take, get_or, refl, sym, ap, ap₂, ◌∙◌, arith, append_assoc, append-nil}
use Rattle.std.specs.Prelude.{◌==◌, ◌&&◌, ◌≢◌, if◌then◌else◌, slice_index_or, slice_set}
use Rattle.std.proofs.lemmas.Bool.{eqb-true, eqb-false, eq-eqb, ne_eqb}
use Rattle.std.proofs.lemmas.List.{take_more, take_all, length-take-le}
use Rattle.proof_text.specs.declared.line.Line.{Line}
use Rattle.proof_conversion.specs.declared.kind.Kind.{Kind}
use Rattle.proof_conversion.specs.declared.kind.Kind.TheVariants.{Step, Added, Values, Ends, Notes, OneValue, OneNote, Other}
use Rattle.proof_conversion.specs.Parts.{kind_of}
use Rattle.proof_conversion.specs.Needs.{due, is_added}
use Rattle.proof_conversion.specs.Filing.{filed, no_lists, AreDue}

abbrev one_if : Bool → ℕ → List ℕ
one_if b p = if b then p ∷ [] else []

same_suc : (p q : ℕ) → (suc p == suc q) ≡ (p == q)
same_suc p q = decided (p == q) refl
  where
    decided : (b : Bool) → (p == q) ≡ b → (suc p == suc q) ≡ (p == q)
    decided true e = eq-eqb (suc p) (suc q) (ap suc (eqb-true p q e)) ∙ sym e
    decided false e = ne_eqb (suc p) (suc q) (λ h. eqb-false p q e (let z : p ≡ q = omega arith in z)) ∙ sym e

-- the list of each number, where one place more was filed
filed_at : (part place : ℕ) (lists : List (List ℕ)) (q : ℕ) → q < length lists → get_or (filed part place lists) q [] ≡ get_or lists q [] ++ one_if (part == q) place
filed_at part place [] q lt = let z : ⊥ = omega arith in absurd z
filed_at zero place (ps ∷ lists) zero lt = ap (λ b. ps ++ one_if b place) (sym (eq-eqb zero zero refl))
filed_at zero place (ps ∷ lists) (suc q) lt = sym (ap (λ b. get_or lists q [] ++ one_if b place) (ne_eqb zero (suc q) (λ h. let z : ⊥ = omega arith in z)) ∙ append-nil (get_or lists q []))
filed_at (suc part) place (ps ∷ lists) zero lt = sym (ap (λ b. ps ++ one_if b place) (ne_eqb (suc part) zero (λ h. let z : ⊥ = omega arith in z)) ∙ append-nil ps)
filed_at (suc part) place (ps ∷ lists) (suc q) lt = filed_at part place lists q (omega arith) ∙ ap (λ b. get_or lists q [] ++ one_if b place) (sym (same_suc part q))

length_filed : (part place : ℕ) (lists : List (List ℕ)) → length (filed part place lists) ≡ length lists
length_filed part place [] = refl
length_filed zero place (ps ∷ lists) = refl
length_filed (suc part) place (ps ∷ lists) = ap suc (length_filed part place lists)

-- one step more
due_push : (part p : ℕ) (ls : List Line) (ks : List ℕ) (l : Line) (k : ℕ) → length ls ≡ length ks → due part p (ls ++ l ∷ []) (ks ++ k ∷ []) ≡ due part p ls ks ++ one_if (is_added (kind_of l) && (k == part)) (p + length ls)
due_push part p [] [] l k e = append-nil (one_if (is_added (kind_of l) && (k == part)) p) ∙ ap (λ (q : ℕ). one_if (is_added (kind_of l) && (k == part)) q) (let z : p ≡ p + 0 = omega arith in z)
due_push part p [] (y ∷ ks) l k e = let z : ⊥ = omega arith in absurd z
due_push part p (x ∷ ls) [] l k e = let z : ⊥ = omega arith in absurd z
due_push part p (x ∷ ls) (y ∷ ks) l k e =
    let here = one_if (is_added (kind_of x) && (y == part)) p in
    let b = is_added (kind_of l) && (k == part) in
    ap (λ (r : List ℕ). here ++ r) (due_push part (suc p) ls ks l k (omega arith) ∙ ap (λ (q : ℕ). due part (suc p) ls ks ++ one_if b q) (let z : suc p + length ls ≡ p + length (x ∷ ls) = omega arith in z))
    ∙ sym (append_assoc here (due part (suc p) ls ks) (one_if b (p + length (x ∷ ls))))

-- these were filed of the first steps
abbrev pub AreFiled : ℕ → List Line → List ℕ → ℕ → List (List ℕ) → Type 0
AreFiled count steps last n lists = AreDue count (take n steps) (take n last) lists

pub none_filed : (count : ℕ) (steps : List Line) (last : List ℕ) (lists : List (List ℕ)) → lists ≡ no_lists count → AreFiled count steps last 0 lists
none_filed count steps last lists e = record {
  count_is = ap length e ∙ length_none count;
  each = λ part lt. ap (λ (x : List (List ℕ)). get_or x part []) e ∙ none_at count part;
}
  where
    length_none : (n : ℕ) → length (no_lists n) ≡ n
    length_none zero = refl
    length_none (suc n) = ap suc (length_none n)

    none_at : (n part : ℕ) → get_or (no_lists n) part [] ≡ []
    none_at zero part = refl
    none_at (suc n) zero = refl
    none_at (suc n) (suc part) = none_at n part

-- one list of no place more
pub none_push : (n : ℕ) → no_lists n ++ [] ∷ [] ≡ no_lists (n + 1)
none_push n = pushed n ∙ ap no_lists (let z : suc n ≡ n + 1 = omega arith in z)
  where
    pushed : (m : ℕ) → no_lists m ++ [] ∷ [] ≡ no_lists (suc m)
    pushed zero = refl
    pushed (suc m) = ap (λ (r : List (List ℕ)). [] ∷ r) (pushed m)

module _ (count : ℕ) (steps : List Line) (last : List ℕ) (n : ℕ) (lists : List (List ℕ)) (same : length steps ≡ length last) (lt : n < length steps) (d : Line) (f : AreFiled count steps last n lists) where
  due_next : (row : ℕ) → due row 1 (take (n + 1) steps) (take (n + 1) last) ≡ due row 1 (take n steps) (take n last) ++ one_if (is_added (kind_of (get_or steps n d)) && (get_or last n 0 == row)) (n + 1)
  due_next row =
      let short : length (take n steps) ≡ n = length-take-le n steps (omega arith) in
      let short' : length (take n last) ≡ n = length-take-le n last (omega arith) in
      ap₂ (λ (x : List Line) (y : List ℕ). due row 1 x y) (take_more steps n d lt) (take_more last n 0 (omega arith))
      ∙ due_push row 1 (take n steps) (take n last) (get_or steps n d) (get_or last n 0) (short ∙ sym short')
      ∙ ap (λ (q : ℕ). due row 1 (take n steps) (take n last) ++ one_if (is_added (kind_of (get_or steps n d)) && (get_or last n 0 == row)) q) (let z : 1 + length (take n steps) ≡ n + 1 = omega arith in z)

  -- where it can be deleted, it is filed
  pub filed_more : (new : List (List ℕ)) → kind_of (get_or steps n d) ≡ Added → new ≡ filed (get_or last n 0) (n + 1) lists → AreFiled count steps last (n + 1) new
  filed_more new k e = record {
    count_is = ap length e ∙ length_filed (get_or last n 0) (n + 1) lists ∙ f.count_is;
    each = λ row p.
        ap (λ (x : List (List ℕ)). get_or x row []) e ∙ filed_at (get_or last n 0) (n + 1) lists row (let z : row < length lists = (let c = f.count_is in omega arith) in z)
        ∙ ap (λ (x : List ℕ). x ++ one_if (get_or last n 0 == row) (n + 1)) (f.each row p)
        ∙ sym (due_next row ∙ ap (λ (x : Kind). due row 1 (take n steps) (take n last) ++ one_if (is_added x && (get_or last n 0 == row)) (n + 1)) k);
  }

  -- else it is not
  pub filed_same : is_added (kind_of (get_or steps n d)) ≡ false → AreFiled count steps last (n + 1) lists
  filed_same k = record {
    count_is = f.count_is;
    each = λ row p.
        f.each row p
        ∙ sym (due_next row ∙ ap (λ (b : Bool). due row 1 (take n steps) (take n last) ++ one_if (b && (get_or last n 0 == row)) (n + 1)) k ∙ append-nil (due row 1 (take n steps) (take n last)));
  }

pub all_filed : (count : ℕ) (steps : List Line) (last : List ℕ) (n : ℕ) (lists : List (List ℕ)) → length steps ≡ length last → length steps ≤ n → AreFiled count steps last n lists → AreDue count steps last lists
all_filed count steps last n lists same le f = record {
  count_is = f.count_is;
  each = λ row p. f.each row p ∙ ap₂ (λ (x : List Line) (y : List ℕ). due row 1 x y) (take_all n steps le) (take_all n last (omega arith));
}

-- what is no lemma and no chain
pub not_added : (k : Kind) → k ≢ Added → is_added k ≡ false
not_added Step h = refl
not_added Added h = absurd (h refl)
not_added (Values n) h = refl
not_added Ends h = refl
not_added (Notes n) h = refl
not_added OneValue h = refl
not_added OneNote h = refl
not_added Other h = refl

-- ---- one list

pub filed_index : (lists : List (List ℕ)) (part place : ℕ) (old new : List ℕ) → part < length lists → old ≡ slice_index_or lists part old → new ≡ old ++ place ∷ [] → slice_set lists part new ≡ filed part place lists
filed_index [] part place old new lt e f = let z : ⊥ = omega arith in absurd z
filed_index (ps ∷ lists) zero place old new lt e f = ap (λ (x : List ℕ). x ∷ lists) (f ∙ ap (λ (x : List ℕ). x ++ place ∷ []) e)
filed_index (ps ∷ lists) (suc part) place old new lt e f = ap (λ (x : List (List ℕ)). ps ∷ x) (filed_index lists part place old new (omega arith) e f)

pub filed_past : (part place : ℕ) (lists : List (List ℕ)) → length lists ≤ part → lists ≡ filed part place lists
filed_past part place [] le = refl
filed_past zero place (ps ∷ lists) le = let z : ⊥ = omega arith in absurd z
filed_past (suc part) place (ps ∷ lists) le = ap (λ (x : List (List ℕ)). ps ∷ x) (filed_past part place lists (omega arith))
