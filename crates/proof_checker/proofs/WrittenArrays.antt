-- Arrays that are written.
use Rattle.std.proofs.Common.{◌≡◌, ℕ, zero, suc, ◌+◌, ◌<◌, ◌≤◌, ◌^◌, Bool, true, false, List, [], ◌∷◌, ◌++◌, length, take, drop, get_or, map, Some, refl, sym, ap, ap₂, ◌∙◌, subst, arith, add-one, drop-cons, eqb}
use Rattle.std.specs.Prelude.{nat_lt, MatchBool}
use Rattle.std.specs.List.{AllByRecursion}
use Rattle.std.proofs.lemmas.Bool.{ne_eqb}
use Rattle.std.proofs.lemmas.Bool.Decides.{nat_tests}
use Rattle.std.proofs.lemmas.List.{map-append, take-append-drop, take_more, take_all}
use Rattle.cnf_base.proofs.Lists.{each_behind, each_get_or}
use Rattle.smt_words.specs.Words.{WordValue, IsWidth, word}
use Rattle.smt_terms.specs.declared.sort.Sort.{Sort}
use Rattle.smt_terms.specs.declared.sort.Sort.TheVariants as sort
use Rattle.smt_values.specs.Arrays.{Entry, ArrayFields, IsOfWidth, IsEntry, AreRising, entered, with_element, constant_array}
use Rattle.smt_values.specs.declared.value.Value.{Value}
use Rattle.smt_values.specs.declared.value.Value.TheVariants as held
use Rattle.smt_values.proofs.Entries.{entered_all, entered_rising}
use Rattle.proof_text.specs.declared.list.WrittenEntry.{WrittenEntry}
use Rattle.proof_text.specs.declared.line.WrittenValue.TheVariants as written
use Rattle.proof_text.proofs.Appending.{binary_length}
use Rattle.proof_text.proofs.Numerals.{low_enough}
use Rattle.proof_text.specs.Records.{binary, digits_of, written_entry, written_value}
use Rattle.accepted_proof.specs.Models.{IsOfKind}
use Rattle.accepted_proof.proofs.Once.{cons_back, word_back, word_fits}
use Rattle.proof_checker.specs.Written.{IsArrayOf}

-- ---- one entry

entry_back : (n m : ℕ) (x y : Entry) → IsEntry n m x → IsEntry n m y → written_entry x ≡ written_entry y → x ≡ y
entry_back n m x y a b e =
    ap₂ (λ i d. (i, d)) (word_back x.0 y.0 (word_fits n x.0 a.0) (word_fits n y.0 b.0) (ap (λ (w : WrittenEntry). w.index) e))
    (word_back x.1 y.1 (word_fits m x.1 a.1) (word_fits m y.1 b.1) (ap (λ (w : WrittenEntry). w.element) e))

pub entry_says : (e : Entry) (w : WrittenEntry) → digits_of e.0 ≡ w.index → digits_of e.1 ≡ w.element → written_entry e ≡ w
entry_says e w p q = λ i. record { index = p i; element = q i }

-- ---- the next entry

-- what stands behind the entries that are there
record NextEntry (n m : ℕ) (bs es : List Entry) (w : WrittenEntry) : Type 0 where
  e : Entry
  rest : List Entry
  all : es ≡ bs ++ e ∷ rest
  says : written_entry e ≡ w
  fits : IsEntry n m e

next_entry : (n m : ℕ) (bs es : List Entry) (w : WrittenEntry) (ws : List WrittenEntry) → AllByRecursion (IsEntry n m) bs → AllByRecursion (IsEntry n m) es → map written_entry es ≡ map written_entry bs ++ w ∷ ws → NextEntry n m bs es w
next_entry n m [] [] w ws a b k = let q : ⊥ = cc in absurd q
next_entry n m [] (e ∷ es) w ws a b k = record { e = e; rest = es; all = refl; says = (cons_back (written_entry e) w (map written_entry es) ws k).0; fits = b.0 }
next_entry n m (x ∷ bs) [] w ws a b k = let q : ⊥ = cc in absurd q
next_entry n m (x ∷ bs) (e ∷ es) w ws a b k =
    let p = cons_back (written_entry e) (written_entry x) (map written_entry es) (map written_entry bs ++ w ∷ ws) k in
    let same = entry_back n m e x b.0 a.0 p.0 in
    let next = next_entry n m bs es w ws a.1 b.1 p.1 in
    record { e = next.e; rest = next.rest; all = ap₂ (λ z zs. z ∷ zs) same next.all; says = next.says; fits = next.fits }

rising_before : (bs : List Entry) (e : Entry) (rest : List Entry) → AreRising (bs ++ e ∷ rest) → AllByRecursion (λ (x : Entry). x.0.value < e.0.value) bs
rising_before [] e rest h = tt
rising_before (x ∷ bs) e rest h = ((each_behind (λ (f : Entry). x.0.value < f.0.value) bs (e ∷ rest) h.0).0, rising_before bs e rest h.1)

below_last : (es : List Entry) (n : ℕ) (d x : Entry) (v : ℕ) → AreRising es → suc n ≡ length es → x ≡ get_or es n d → x.0.value < v → AllByRecursion (λ (e : Entry). e.0.value < v) es
below_last [] n d x v h k e lt = absurd (omega (arith, k))
below_last (y ∷ []) zero d x v h k e lt = (subst (λ (z : Entry). z.0.value < v) e lt, tt)
below_last (y ∷ []) (suc n) d x v h k e lt = absurd (omega (arith, k))
below_last (y ∷ z ∷ es) zero d x v h k e lt = absurd (omega (arith, k))
below_last (y ∷ z ∷ es) (suc n) d x v h k e lt =
    let rest = below_last (z ∷ es) n d x v h.1 (omega (arith, k)) e lt in
    let first : y.0.value < v = omega (arith, h.0.0, rest.0) in
    (first, rest)

-- an index is above all where it is above the last
pub above_last : (es : List Entry) (n : ℕ) (d x : Entry) (v : ℕ) (b : Bool) → AreRising es → suc n ≡ length es → x ≡ get_or es n d → nat_lt x.0.value v ≡ b
    → MatchBool b (AllByRecursion (λ (e : Entry). e.0.value < v) es) (AllByRecursion (λ (e : Entry). e.0.value < v) es → ⊥)
above_last es n d x v true h k e t = below_last es n d x v h k e (low_enough x.0.value v t)
above_last es n d x v false h k e t = λ all.
    let lt : n < length es = omega (arith, k) in
    let last : x.0.value < v = subst (λ (z : Entry). z.0.value < v) (sym e) (each_get_or (λ (z : Entry). z.0.value < v) es all n d lt) in
    grind (arith, nat_tests, last, t)

parted : (es : List WrittenEntry) (k : ℕ) (d : WrittenEntry) → k < length es → es ≡ take k es ++ get_or es k d ∷ drop (k + 1) es
parted es k d lt = sym (take-append-drop k es) ∙ ap (λ r. take k es ++ r) (rw add-one (drop-cons es k d lt))

module _ (n m : ℕ) (default : List Bool) (es : List WrittenEntry) (k : ℕ) (d : WrittenEntry) (lt : k < length es) (b : ArrayFields) (before : IsArrayOf n m default (take k es) b) where
  fit : (c : ArrayFields) (ws : List WrittenEntry) → IsArrayOf n m default ws c → AllByRecursion (IsEntry n m) c.entries
  fit c ws h = subst (λ x. AllByRecursion (IsEntry x m) c.entries) h.index (subst (λ x. AllByRecursion (IsEntry c.index x) c.entries) h.element h.array.entries)

  next : (a : ArrayFields) → IsArrayOf n m default es a → NextEntry n m b.entries a.entries (get_or es k d)
  next a h =
      next_entry n m b.entries a.entries (get_or es k d) (drop (k + 1) es) (fit b (take k es) before) (fit a es h)
      (h.more ∙ parted es k d lt ∙ ap (λ x. x ++ get_or es k d ∷ drop (k + 1) es) (sym before.more))

  -- where the next entry is none
  pub no_entry : ((e : Entry) → IsEntry n m e → written_entry e ≡ get_or es k d → ⊥) → (a : ArrayFields) → IsArrayOf n m default es a → ⊥
  no_entry none a h = let x = next a h in none x.e x.fits x.says

  -- where its index is not above the others
  pub not_above : (f : Entry) → IsEntry n m f → written_entry f ≡ get_or es k d → (AllByRecursion (λ (x : Entry). x.0.value < f.0.value) b.entries → ⊥) → (a : ArrayFields) → IsArrayOf n m default es a → ⊥
  not_above f fits says none a h =
      let x = next a h in
      let same = entry_back n m x.e f x.fits fits (x.says ∙ sym says) in
      let rising = rising_before b.entries x.e x.rest (subst AreRising x.all h.array.rising) in
      none (subst (λ (e : Entry). AllByRecursion (λ (y : Entry). y.0.value < e.0.value) b.entries) same rising)

  entered_last : (xs : List Entry) (f : Entry) → AllByRecursion (λ (x : Entry). x.0.value < f.0.value) xs → entered xs f ≡ xs ++ f ∷ []
  entered_last [] f h = refl
  entered_last (x ∷ xs) f h =
      let other : eqb x.0.value f.0.value ≡ false = ne_eqb x.0.value f.0.value (λ q. absurd (omega (arith, h.0, q))) in
      let below : nat_lt f.0.value x.0.value ≡ false = grind (arith, nat_tests, h.0) in
      rw (other, below) (ap (λ zs. x ∷ zs) (entered_last xs f h.1))

  -- where it is
  pub entry_taken : (f : Entry) (new : ArrayFields) → IsEntry n m f → written_entry f ≡ get_or es k d → AllByRecursion (λ (x : Entry). x.0.value < f.0.value) b.entries → new ≡ with_element b f.0 f.1 → IsArrayOf n m default (take (k + 1) es) new
  entry_taken f new fits says above e = subst (IsArrayOf n m default (take (k + 1) es)) (sym e) (record {
    index = before.index;
    element = before.element;
    array = record {
      index = before.array.index;
      element = before.array.element;
      default = before.array.default;
      entries = entered_all f (IsEntry b.index b.default.width) b.entries (subst (λ x. IsEntry x b.default.width f) (sym before.index) (subst (λ x. IsEntry n x f) (sym before.element) fits)) before.array.entries;
      rising = entered_rising f b.entries before.array.rising;
    };
    first = before.first;
    more =
        ap (map written_entry) (entered_last b.entries f above) ∙ map-append written_entry b.entries (f ∷ []) ∙ ap₂ (λ xs x. xs ++ x ∷ []) before.more says ∙ sym (take_more es k d lt);
  })

-- no entry is there yet
pub no_entries : (n m : ℕ) (default : List Bool) (es : List WrittenEntry) (w : WordValue) (new : ArrayFields) → IsWidth n → IsWidth m → IsOfWidth m w → digits_of w ≡ default → new ≡ constant_array n w → IsArrayOf n m default (take 0 es) new
no_entries n m default es w new a b fits says e = subst (IsArrayOf n m default (take 0 es)) (sym e) (record {
  index = refl;
  element = fits.width;
  array = record { index = a; element = subst IsWidth (sym fits.width) b; default = record { width = refl; fits = word_fits m w fits }; entries = tt; rising = tt };
  first = says;
  more = refl;
})

pub all_entries : (n m : ℕ) (default : List Bool) (es : List WrittenEntry) (k : ℕ) (a : ArrayFields) → length es ≤ k → IsArrayOf n m default (take k es) a → IsArrayOf n m default es a
all_entries n m default es k a le h = subst (λ ws. IsArrayOf n m default ws a) (take_all k es le) h

-- where the default is none
pub no_default : (n m : ℕ) (default : List Bool) (es : List WrittenEntry) → ((w : WordValue) → IsOfWidth m w → digits_of w ≡ default → ⊥) → (a : ArrayFields) → IsArrayOf n m default es a → ⊥
no_default n m default es none a h = none a.default (subst (λ x. IsOfWidth x a.default) h.element h.array.default) h.first

-- ---- as a value

module _ (default : List Bool) (es : List WrittenEntry) where
  pub array_is : (n m : ℕ) (a : ArrayFields) → IsArrayOf n m default es a → IsOfKind (sort.Array n m) (held.Array a) × (written_value (held.Array a) ≡ Some (written.Array default es))
  array_is n m a h = ((ap₂ sort.Array (sym h.index) (sym h.element), h.array), ap₂ (λ x y. Some (written.Array x y)) h.first h.more)

  array_at : (n m : ℕ) (a : ArrayFields) → IsOfKind (sort.Array n m) (held.Array a) → written_value (held.Array a) ≡ Some (written.Array default es) → IsArrayOf n m default es a
  array_at n m a k e =
      let s : sort.Array n m ≡ sort.Array a.index a.default.width = k.0 in
      let p : a.index ≡ n = cc in
      let q : a.default.width ≡ m = cc in
      let f : Some (written.Array (digits_of a.default) (map written_entry a.entries)) ≡ Some (written.Array default es) = e in
      let x : digits_of a.default ≡ default = cc in
      let y : map written_entry a.entries ≡ es = cc in
      record { index = p; element = q; array = k.1; first = x; more = y }

  -- what is written so is an array
  is_array : (s : Sort) (v : Value) → IsOfKind s v → written_value v ≡ Some (written.Array default es) → (a : ArrayFields) × (v ≡ held.Array a)
  is_array s (held.Bool b) k e = let f : ⊥ = cc in absurd f
  is_array s (held.Word w) k e = let f : ⊥ = cc in absurd f
  is_array s (held.Array a) k e = (a, refl)
  is_array s (held.Fun t) k e = absurd k

  pub no_array : (n m : ℕ) → ((a : ArrayFields) → IsArrayOf n m default es a → ⊥) → (v : Value) → IsOfKind (sort.Array n m) v → written_value v ≡ Some (written.Array default es) → ⊥
  no_array n m none v k e =
      let x = is_array (sort.Array n m) v k e in
      none x.0 (array_at n m x.0 (subst (IsOfKind (sort.Array n m)) x.1 k) (ap written_value (sym x.1) ∙ e))

  pub no_width_of_array : (n m : ℕ) → (IsWidth n × IsWidth m → ⊥) → (v : Value) → IsOfKind (sort.Array n m) v → written_value v ≡ Some (written.Array default es) → ⊥
  no_width_of_array n m none v k e =
      no_array n m (λ a h. none (subst IsWidth h.index h.array.index, subst IsWidth h.element h.array.element)) v k e

  -- of no other sort is a value written so
  pub no_sort_of_arrays : (s : Sort) → ((n m : ℕ) → s ≡ sort.Array n m → ⊥) → (v : Value) → IsOfKind s v → written_value v ≡ Some (written.Array default es) → ⊥
  no_sort_of_arrays s none v k e =
      let x = is_array s v k e in
      let kind : IsOfKind s (held.Array x.0) = subst (IsOfKind s) x.1 k in
      none x.0.index x.0.default.width kind.0

-- ---- a word

-- a word has as many digits as its width
pub no_word : (n : ℕ) (w : WordValue) (digits : List Bool) → (length digits ≡ n → ⊥) → IsOfWidth n w → digits_of w ≡ digits → ⊥
no_word n w digits other h e = other (sym (ap length e) ∙ binary_length w.width w.value ∙ h.width)

pub word_is : (n x : ℕ) (digits : List Bool) (w : WordValue) → length digits ≡ n → x < 2 ^ length digits → binary (length digits) x ≡ digits → w ≡ word n x → IsOfWidth n w × (digits_of w ≡ digits)
word_is n x digits w k small says e =
    subst (λ v. IsOfWidth n v × (digits_of v ≡ digits)) (sym e)
    (record { width = refl; fits = subst (λ m. x < 2 ^ m) k small }, ap (λ m. binary m x) (sym k) ∙ says)
