-- Values read at sorts.
use Rattle.std.proofs.Common.{◌≡◌, ℕ, ◌<◌, ◌%◌, ◌^◌, List, [], ◌∷◌, map, refl, ap, sym, ◌∙◌, subst, Option, Some, None, Result, Ok, Err}
use Rattle.std.specs.Prelude.{OnOk, OnErr}
use Rattle.std.specs.List.{AllByRecursion}
use Rattle.smt_words.specs.Words.{WordValue, word}
use Rattle.smt_terms.specs.declared.sort.Sort.{Sort}
use Rattle.smt_terms.specs.declared.sort.Sort.TheVariants as sort
use Rattle.smt_terms.specs.Values.{reduced, VArray, no_value, default_of, read_at}
use Rattle.smt_values.specs.declared.value.Value.{Value}
use Rattle.smt_values.specs.declared.value.Value.TheVariants as held
use Rattle.smt_values.specs.Held.{meaning, Suits}
use Rattle.smt_values.specs.Arrays.{Entry, ArrayFields, entry_at, element_of, pair_of, element_at, array_value, IsArray, IsEntry, IsOfWidth, entered}
use Rattle.smt_values.proofs.Entries.{entry_holds, entered_all, entered_rising, element_by_entry}
use Rattle.std.proofs.Math.Nat.{mod-eq_of_lt}

-- the element of the entry of an index
pub element_is : (a : ArrayFields) → IsArray a → (i : ℕ) (e : Entry) → Some e ≡ entry_at a.entries i → e.1 ≡ word a.default.width (element_at a i)
element_is a h i e g =
    let own = entry_holds (IsEntry a.index a.default.width) a.entries h.entries i e (sym g) in
    let width : e.1.width ≡ a.default.width = own.1.width in
    let value : e.1.value ≡ element_at a i = ap (element_of a.default.value) g ∙ sym (element_by_entry a.default.value a.entries i) in
    (λ j. record { width = width j; value = value j })

-- the default, at an index without an entry
pub default_is : (a : ArrayFields) (i : ℕ) → None ≡ entry_at a.entries i → a.default ≡ word a.default.width (element_at a i)
default_is a i g =
    let value : a.default.value ≡ element_at a i = ap (element_of a.default.value) g ∙ sym (element_by_entry a.default.value a.entries i) in
    (λ j. record { width = a.default.width; value = value j })

-- an array with one more entry is one
pub entered_array : (n : ℕ) (d : WordValue) (es : List Entry) (i x : WordValue) → IsArray (record { index = n; default = d; entries = es }) → IsOfWidth n i → IsOfWidth d.width x → IsArray (record { index = n; default = d; entries = entered es (i, x) })
entered_array n d es i x h at with = record {
  index = h.index;
  element = h.element;
  default = h.default;
  entries = entered_all (i, x) (IsEntry n d.width) es (at, with) h.entries;
  rising = entered_rising (i, x) es h.rising;
}

pub kept_array : {A E : Type 0} (n : ℕ) (d : WordValue) (es : List Entry) (i x : WordValue) (new : List Entry) (r : Result A E) → IsArray (record { index = n; default = d; entries = es }) → IsOfWidth n i → IsOfWidth d.width x → OnOk r (new ≡ entered es (i, x)) → OnErr r (new ≡ es) → IsArray (record { index = n; default = d; entries = new })
kept_array n d es i x new (Ok u) h at with ok err = subst (λ l. IsArray (record { index = n; default = d; entries = l })) (sym ok) (entered_array n d es i x h at with)
kept_array n d es i x new (Err e) h at with ok err = subst (λ l. IsArray (record { index = n; default = d; entries = l })) (sym err) h

-- ---- reading

pub element_below : (n d : ℕ) → d < 2 ^ n → (k : ℕ) (es : List Entry) → AllByRecursion (IsEntry k n) es → (i : ℕ) → element_of d (entry_at es i) < 2 ^ n
element_below n d lt k es h i = go (entry_at es i) refl where
  go : (o : Option Entry) → entry_at es i ≡ o → element_of d o < 2 ^ n
  go None e = lt
  go (Some f) e = (entry_holds (IsEntry k n) es h i f e).1.fits

entries_read : (k n : ℕ) (es : List Entry) → AllByRecursion (IsEntry k n) es → map pair_of es ≡ map (reduced (2 ^ n)) (map pair_of es)
entries_read k n [] h = refl
entries_read k n (e ∷ es) h =
    let value : e.1.value ≡ e.1.value % 2 ^ n = sym (mod-eq_of_lt h.0.1.fits) in
    let rest = entries_read k n es h.1 in
    (λ j. (e.0.value, value j) ∷ rest j)

-- an array is read as itself at its own sort
own_read : (a : ArrayFields) → IsArray a → array_value a ≡ read_at (sort.Array a.index a.default.width) (array_value a)
own_read a h =
    let default : a.default.value ≡ a.default.value % 2 ^ a.default.width = sym (mod-eq_of_lt h.default.fits) in
    let entries = entries_read a.index a.default.width a.entries h.entries in
    (λ j. VArray a.index a.default.width (record { default = default j; entries = entries j }))

-- so at each sort that is its own
pub array_read : (n m : ℕ) (a : ArrayFields) → IsArray a → a.index ≡ n → a.default.width ≡ m → array_value a ≡ read_at (sort.Array n m) (array_value a)
array_read n m a h p q = own_read a h ∙ ap (λ k. read_at (sort.Array k a.default.width) (array_value a)) p ∙ ap (λ k. read_at (sort.Array n k) (array_value a)) q

-- a sort's default is what a value that is not set is read as
pub default_read : (s : Sort) → default_of s ≡ read_at s no_value
default_read sort.Bool = refl
default_read (sort.Word n) = refl
default_read (sort.Array n m) = refl

-- the same where the sort and the value are known to be of an array
pub array_value_read : (s : Sort) (v : Value) (n m : ℕ) (a b : ArrayFields) → s ≡ sort.Array n m → v ≡ held.Array a → IsArray a → b ≡ a → Suits s (Some v) → array_value b ≡ read_at s (meaning v)
array_value_read s v n m a b p q h e suits =
    let fits : Suits (sort.Array n m) (Some (held.Array a)) = rw (p, q) at suits in
    rw (p, q, e) (array_read n m a h fits.0 fits.1)
