-- The elements of an array, read at widths.
use Rattle.std.proofs.Common.{◌≡◌, ℕ, zero, suc, ◌+◌, ◌%◌, ◌^◌, ◌<◌, Bool, true, false, List, [], ◌∷◌, ◌++◌, length, map, get_or, take, refl, sym, ap, ◌∙◌, subst, arith, ⊎_elim}
use Rattle.std.specs.Prelude.{◌==◌, if◌then◌else◌}
use Rattle.std.specs.List.{AllByRecursion}
use Rattle.std.proofs.lemmas.Bool.{eqb-true, ne_eqb, cases_eq}
use Rattle.std.proofs.lemmas.List.{take_more, map_push}
use Rattle.std.proofs.lemmas.Nat.{pow_pos}
use Rattle.std.proofs.Math.Nat.{mod-lt, mod-eq_of_lt}
use Rattle.cnf_base.proofs.Lists.{each_get_or}
use Rattle.smt_words.specs.Words.{WordValue, word}
use Rattle.smt_terms.specs.Values.{element_in, reduced}
use Rattle.smt_terms.proofs.Arrays.{at_placed}
use Rattle.smt_values.specs.Arrays.{Entry, ArrayFields, IsOfWidth, element_at, pair_of, with_element, AreRising}
use Rattle.smt_values.proofs.Entries.{entered_pairs}
use Rattle.written_models.specs.Fitting.{HasIndex, entered_at}

-- ---- one entry more at the end

below_other : (a b i : ℕ) → a < b → a ≡ i → (b == i) ≡ false
below_other a b i lt e = ne_eqb b i (omega (arith, lt, e))

element_pushed : (d : ℕ) (as' : List (ℕ × ℕ)) (f : ℕ × ℕ) (i : ℕ) → AllByRecursion (λ (e : ℕ × ℕ). e.0 < f.0) as' → element_in d (as' ++ f ∷ []) i ≡ (if f.0 == i then f.1 else element_in d as' i)
element_pushed d [] f i h = refl
element_pushed d (e ∷ es) f i h = go (e.0 == i) refl (element_pushed d es f i h.1) where
  go : (b : Bool) → (e.0 == i) ≡ b → element_in d (es ++ f ∷ []) i ≡ (if f.0 == i then f.1 else element_in d es i) → (if b then e.1 else element_in d (es ++ f ∷ []) i) ≡ (if f.0 == i then f.1 else (if b then e.1 else element_in d es i))
  go true p ih = sym (ap (λ c. if c then f.1 else e.1) (below_other e.0 f.0 i h.0 (eqb-true e.0 i p)))
  go false p ih = ih

-- the entries before one have lower indexes
before : (es : List Entry) (k : ℕ) (d : Entry) → AreRising es → k < length es → AllByRecursion (λ (e : Entry). e.0.value < (get_or es k d).0.value) (take k es)
before [] k d h lt = absurd (omega (arith, lt))
before (e ∷ es) zero d h lt = tt
before (e ∷ es) (suc k) d h lt = (each_get_or (λ (f : Entry). e.0.value < f.0.value) es h.0 k d (omega (arith, lt)), before es k d h.1 (omega (arith, lt)))

-- entries as pairs of numbers, elements modulo a number
abbrev pub pairs : ℕ → List Entry → List (ℕ × ℕ)
pairs m es = map (reduced m) (map pair_of es)

pairs_before : (m k : ℕ) (es : List Entry) → AllByRecursion (λ (e : Entry). e.0.value < k) es → AllByRecursion (λ (e : ℕ × ℕ). e.0 < k) (pairs m es)
pairs_before m k [] h = tt
pairs_before m k (e ∷ es) h = (h.0, pairs_before m k es h.1)

pairs_more : (m : ℕ) (es : List Entry) (k : ℕ) (e : Entry) → k < length es → e ≡ get_or es k e → pairs m (take (k + 1) es) ≡ pairs m (take k es) ++ (e.0.value, e.1.value % m) ∷ []
pairs_more m es k e lt at =
    ap (pairs m) (take_more es k e lt ∙ ap (λ x. take k es ++ x ∷ []) (sym at))
    ∙ ap (map (reduced m)) (map_push pair_of (take k es) e)
    ∙ map_push (reduced m) (map pair_of (take k es)) (pair_of e)

-- ---- what is read

-- so many entries of an array are read, at indexes and elements of these widths
pub record IsReadTo (n m : ℕ) (from : ArrayFields) (k : ℕ) (a : ArrayFields) : Type 0 where
  pub index : a.index ≡ n
  pub element : a.default.width ≡ m
  pub elements : (i : ℕ) → i < 2 ^ n → element_in (from.default.value % 2 ^ m) (pairs (2 ^ m) (take k from.entries)) i ≡ element_at a i

pub read_first : (n m : ℕ) (from : ArrayFields) (w : WordValue) (a : ArrayFields) → w ≡ word m (from.default.value % 2 ^ m) → a ≡ record { index = n; default = w; entries = [] } → IsReadTo n m from 0 a
read_first n m from w a e is = record {
  index = ap (λ (x : ArrayFields). x.index) is;
  element = ap (λ (x : ArrayFields). x.default.width) is ∙ ap (λ (x : WordValue). x.width) e;
  elements = λ i lt. sym (ap (λ (x : ArrayFields). element_at x i) is ∙ ap (λ (x : WordValue). x.value) e);
}

changed_at : (a : ArrayFields) (p w : WordValue) (i : ℕ) → element_at (with_element a p w) i ≡ (if p.value == i then w.value else element_at a i)
changed_at a p w i = ap (λ ps. element_in a.default.value ps i) (entered_pairs a.entries (p, w)) ∙ at_placed a.default.value (map pair_of a.entries) (p.value, w.value) i

module _ (n m : ℕ) (from : ArrayFields) (k : ℕ) (a : ArrayFields) (e : Entry) (rising : AreRising from.entries) (lt : k < length from.entries) (at : e ≡ get_or from.entries k e) (h : IsReadTo n m from k a) where
  abbrev d : ℕ
  d = from.default.value % 2 ^ m

  pushed : (i : ℕ) → element_in d (pairs (2 ^ m) (take (k + 1) from.entries)) i ≡ (if e.0.value == i then e.1.value % 2 ^ m else element_in d (pairs (2 ^ m) (take k from.entries)) i)
  pushed i =
      let lower : AllByRecursion (λ (f : Entry). f.0.value < e.0.value) (take k from.entries) = subst (λ (x : Entry). AllByRecursion (λ (f : Entry). f.0.value < x.0.value) (take k from.entries)) (sym at) (before from.entries k e rising lt) in
      ap (λ ps. element_in d ps i) (pairs_more (2 ^ m) from.entries k e lt at)
      ∙ element_pushed d (pairs (2 ^ m) (take k from.entries)) (e.0.value, e.1.value % 2 ^ m) i (pairs_before (2 ^ m) e.0.value (take k from.entries) lower)

  -- an entry within the width is set
  pub read_more : (p w : WordValue) (b : ArrayFields) → p.value ≡ e.0.value → w ≡ word m (e.1.value % 2 ^ m) → b ≡ with_element a p w → IsReadTo n m from (k + 1) b
  read_more p w b same means is = record {
    index = ap (λ (x : ArrayFields). x.index) is ∙ h.index;
    element = ap (λ (x : ArrayFields). x.default.width) is ∙ h.element;
    elements = λ i less.
        pushed i
        ∙ ap (λ x. if e.0.value == i then e.1.value % 2 ^ m else x) (h.elements i less)
        ∙ (λ j. if sym same j == i then sym (ap (λ (x : WordValue). x.value) means) j else element_at a i)
        ∙ sym (changed_at a p w i)
        ∙ sym (ap (λ (x : ArrayFields). element_at x i) is);
  }

  past : (i : ℕ) → i < 2 ^ n → (e.0.value % 2 ^ n ≡ e.0.value → ⊥) → (e.0.value == i) ≡ false
  past i less other = ne_eqb e.0.value i (λ same. other (mod-eq_of_lt (subst (λ x. x < 2 ^ n) (sym same) less)))

  -- one past it has no index there
  pub read_past : (p : WordValue) → p ≡ word n (e.0.value % 2 ^ n) → (p.value ≡ e.0.value → ⊥) → IsReadTo n m from (k + 1) a
  read_past p is other = record {
    index = h.index;
    element = h.element;
    elements = λ i less.
        pushed i
        ∙ ap (λ c. if c then e.1.value % 2 ^ m else element_in d (pairs (2 ^ m) (take k from.entries)) i) (past i less (λ q. other (ap (λ (x : WordValue). x.value) is ∙ q)))
        ∙ h.elements i less;
  }

  -- an entry is entered, or has no index there
  pub read_next : (b : ArrayFields) → (HasIndex n e → b ≡ entered_at n m e a) → ((HasIndex n e → ⊥) → b ≡ a) → IsReadTo n m from (k + 1) b
  read_next b fits beyond = ⊎_elim
      (λ same. read_more (word n (e.0.value % 2 ^ n)) (word m (e.1.value % 2 ^ m)) b same refl (fits same))
      (λ other. subst (IsReadTo n m from (k + 1)) (sym (beyond other)) (read_past (word n (e.0.value % 2 ^ n)) refl other))
      (cases_eq (e.0.value % 2 ^ n) e.0.value)

pub place_fits : (n k x : ℕ) (p : WordValue) → k ≡ n → p ≡ word n (x % 2 ^ n) → IsOfWidth k p
place_fits n k x p e is = subst (λ j. IsOfWidth j p) (sym e) (subst (IsOfWidth n) (sym is) (record { width = refl; fits = mod-lt x (pow_pos n) }))
