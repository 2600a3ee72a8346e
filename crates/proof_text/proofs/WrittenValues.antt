-- Values are read exactly.
use Rattle.std.proofs.Common.{◌≡◌, ℕ, Bool, true, false, ◌&&◌, cond, List, [], ◌∷◌, ◌++◌, map, length, refl, sym, ap, ap₂, subst, ◌∙◌, arith, eqb, codes, Option, Some, None}
use Rattle.std.proofs.lemmas.Bool.{and_parts, eqb-true}
use Rattle.std.proofs.lemmas.List.{length-map}
use Rattle.std.specs.List.{flat_map, AllByRecursion}
use Rattle.std.specs.Str.{bytes_eq}
use Rattle.proof_text.specs.declared.list.WrittenScalar.{WrittenScalar}
use Rattle.proof_text.specs.declared.list.WrittenScalar.TheVariants as scalar
use Rattle.proof_text.specs.declared.list.WrittenEntry.{WrittenEntry}
use Rattle.proof_text.specs.declared.line.WrittenValue.{WrittenValue}
use Rattle.proof_text.specs.declared.line.WrittenValue.TheVariants as value
use Rattle.proof_text.specs.Lines.{digit_of, digits_text, scalar_text, entry_words, value_words, IsDigits, IsScalar, IsEntry, IsValue}
use Rattle.proof_text.specs.Reading.{◌>>=◌, ended, digit_in, digits_of, binary_of, word_of, scalar_of, scalars_of, entry_of, entries_of, array_of, function_of, plain_value, plain_of, value_of}
use Rattle.proof_text.proofs.Literals.{bind_some, each_reads, each_says, ended_says, same_text}

-- ---- digits

digit_reads : (d : Bool) → Unit {0} → digit_in (digit_of d) ≡ Some d
digit_reads true u = refl
digit_reads false u = refl

digit_says : (b : ℕ) (d : Bool) → digit_in b ≡ Some d → (b ≡ digit_of d) × Unit {0}
digit_says b d e = digit_chosen (eqb b 48) (eqb b 49) b d refl refl e
  where
    digit_chosen : (p q : Bool) (b : ℕ) (d : Bool) → eqb b 48 ≡ p → eqb b 49 ≡ q → cond p (Some false) (cond q (Some true) None) ≡ Some d → (b ≡ digit_of d) × Unit {0}
    digit_chosen true q b d k l e = (eqb-true b 48 k ∙ (let z : false ≡ d = cc in ap digit_of z), tt)
    digit_chosen false true b d k l e = (eqb-true b 49 l ∙ (let z : true ≡ d = cc in ap digit_of z), tt)
    digit_chosen false false b d k l e = absurd (let z : ⊥ = cc in z)

all_units : (ds : List Bool) → AllByRecursion (λ (d : Bool). Unit {0}) ds
all_units [] = tt
all_units (d ∷ ds) = (tt, all_units ds)

digits_read : (ds : List Bool) → digits_of (map digit_of ds) ≡ Some ds
digits_read ds = each_reads digit_in digit_of (λ x. Unit {0}) digit_reads ds (all_units ds)

binary_reads : (ds : List Bool) → IsDigits ds → binary_of (digits_text ds) ≡ Some ds
binary_reads [] h = absurd (omega arith)
binary_reads (d ∷ ds) h = digits_read (d ∷ ds)

binary_by : (q : Bool) (a b c : ℕ) (bs : List ℕ) (ds : List Bool) → (eqb a 35 && eqb b 98) ≡ q → cond q (digits_of (c ∷ bs)) None ≡ Some ds → (a ∷ b ∷ c ∷ bs ≡ digits_text ds) × IsDigits ds
binary_by true a b c bs ds k e =
    let p = and_parts (eqb a 35) (eqb b 98) k in
    let first : a ≡ 35 = eqb-true a 35 p.0 in
    let second : b ≡ 98 = eqb-true b 98 p.1 in
    let s = each_says digit_in digit_of (λ x. Unit {0}) digit_says (c ∷ bs) ds e in
    let long : length (c ∷ bs) ≡ length ds = ap length s.0 ∙ length-map ds digit_of in
    (rw (first, second) (ap (λ vs. 35 ∷ 98 ∷ vs) s.0), omega arith)
binary_by false a b c bs ds k e = absurd (let z : ⊥ = cc in z)

binary_says : (w : List ℕ) (ds : List Bool) → binary_of w ≡ Some ds → (w ≡ digits_text ds) × IsDigits ds
binary_says [] ds e = absurd (let z : ⊥ = cc in z)
binary_says (a ∷ []) ds e = absurd (let z : ⊥ = cc in z)
binary_says (a ∷ b ∷ []) ds e = absurd (let z : ⊥ = cc in z)
binary_says (a ∷ b ∷ c ∷ bs) ds e = binary_by (eqb a 35 && eqb b 98) a b c bs ds refl e

-- ---- truth values and words

scalar_reads : (v : WrittenScalar) → IsScalar v → scalar_of (scalar_text v) ≡ Some v
scalar_reads (scalar.Bool true) h = refl
scalar_reads (scalar.Bool false) h = refl
scalar_reads (scalar.Word []) h = absurd (omega arith)
scalar_reads (scalar.Word (d ∷ ds)) h = rw (digits_read (d ∷ ds)) refl

word_says : (w : List ℕ) (v : WrittenScalar) → word_of w ≡ Some v → (w ≡ scalar_text v) × IsScalar v
word_says w v e =
    let b = bind_some (binary_of w) (λ ds. Some (scalar.Word ds)) v e in
    let same : scalar.Word b.0 ≡ v = let q = b.2 in cc in
    subst (λ (x : WrittenScalar). (w ≡ scalar_text x) × IsScalar x) same (binary_says w b.0 b.1)

scalar_by : (p q : Bool) (w : List ℕ) (v : WrittenScalar) → bytes_eq w (codes "true") ≡ p → bytes_eq w (codes "false") ≡ q
    → cond p (Some (scalar.Bool true)) (cond q (Some (scalar.Bool false)) (word_of w)) ≡ Some v → (w ≡ scalar_text v) × IsScalar v
scalar_by true q w v k l e =
    let same : scalar.Bool true ≡ v = cc in
    subst (λ (x : WrittenScalar). (w ≡ scalar_text x) × IsScalar x) same (same_text w (codes "true") k, tt)
scalar_by false true w v k l e =
    let same : scalar.Bool false ≡ v = cc in
    subst (λ (x : WrittenScalar). (w ≡ scalar_text x) × IsScalar x) same (same_text w (codes "false") l, tt)
scalar_by false false w v k l e = word_says w v e

scalar_says : (w : List ℕ) (v : WrittenScalar) → scalar_of w ≡ Some v → (w ≡ scalar_text v) × IsScalar v
scalar_says w v e = scalar_by (bytes_eq w (codes "true")) (bytes_eq w (codes "false")) w v refl refl e

-- ---- arrays

entries_read : (es : List WrittenEntry) → AllByRecursion IsEntry es → entries_of (flat_map entry_words es) ≡ Some es
unfolding entries_of
entries_read [] all = refl
entries_read (e ∷ es) all = rw (binary_reads e.index all.0.index, binary_reads e.element all.0.element, entries_read es all.1) refl

entry_says : (w x : List ℕ) (e : WrittenEntry) → entry_of w x ≡ Some e → (w ∷ x ∷ [] ≡ entry_words e) × IsEntry e
entry_says w x e k =
    let b = bind_some (binary_of w) (λ i. binary_of x >>= λ y. Some (record { index = i; element = y })) e k in
    let d = bind_some (binary_of x) (λ y. Some (record { index = b.0; element = y })) e b.2 in
    let same : record { index = b.0; element = d.0 } ≡ e = let q = d.2 in cc in
    let s = binary_says w b.0 b.1 in
    let t = binary_says x d.0 d.1 in
    subst (λ (y : WrittenEntry). (w ∷ x ∷ [] ≡ entry_words y) × IsEntry y) same
    (ap₂ (λ u v. u ∷ v ∷ []) s.0 t.0, record { index = s.1; element = t.1 })

entries_say : (ws : List (List ℕ)) (es : List WrittenEntry) → entries_of ws ≡ Some es → (ws ≡ flat_map entry_words es) × AllByRecursion IsEntry es
unfolding entries_of
entries_say [] es k =
    let same : [] ≡ es = cc in
    subst (λ (ys : List WrittenEntry). ([] ≡ flat_map entry_words ys) × AllByRecursion IsEntry ys) same (refl, tt)
entries_say (w ∷ []) es k = absurd (let z : ⊥ = cc in z)
entries_say (w ∷ x ∷ ws) es k =
    let b = bind_some (entry_of w x) (λ y. entries_of ws >>= λ ys. Some (y ∷ ys)) es k in
    let d = bind_some (entries_of ws) (λ ys. Some (b.0 ∷ ys)) es b.2 in
    let same : b.0 ∷ d.0 ≡ es = let q = d.2 in cc in
    let one = entry_says w x b.0 b.1 in
    let rest = entries_say ws d.0 d.1 in
    subst (λ (ys : List WrittenEntry). (w ∷ x ∷ ws ≡ flat_map entry_words ys) × AllByRecursion IsEntry ys) same
    (ap (λ vs. vs ++ ws) one.0 ∙ ap (λ vs. entry_words b.0 ++ vs) rest.0, (one.1, rest.1))

-- ---- values

pub value_reads : (v : WrittenValue) → IsValue v → value_of (value_words v) ≡ Some v
value_reads (value.Bool true) h = refl
value_reads (value.Bool false) h = refl
value_reads (value.Word []) h = absurd (omega arith)
value_reads (value.Word (d ∷ ds)) h = rw (digits_read (d ∷ ds)) refl
value_reads (value.Array ds es) h = rw (binary_reads ds h.0, entries_read es h.1) refl
value_reads (value.Fun d vs) h = rw (scalar_reads d h.0, each_reads scalar_of scalar_text IsScalar scalar_reads vs h.1) refl

pub record IsReadValue (ws : List (List ℕ)) (v : WrittenValue) : Type 0 where
  pub words : ws ≡ value_words v
  pub fits : IsValue v

array_says : (ws : List (List ℕ)) (v : WrittenValue) → array_of ws ≡ Some v → IsReadValue (codes "a" ∷ ws) v
array_says [] v e = absurd (let z : ⊥ = cc in z)
array_says (w ∷ ws) v e =
    let b = bind_some (binary_of w) (λ d. entries_of ws >>= λ es. Some (value.Array d es)) v e in
    let d = bind_some (entries_of ws) (λ es. Some (value.Array b.0 es)) v b.2 in
    let same : value.Array b.0 d.0 ≡ v = let q = d.2 in cc in
    let s = binary_says w b.0 b.1 in
    let t = entries_say ws d.0 d.1 in
    subst (IsReadValue (codes "a" ∷ w ∷ ws)) same
    (record { words = ap₂ (λ x xs. codes "a" ∷ x ∷ xs) s.0 t.0; fits = (s.1, t.1) })

function_says : (ws : List (List ℕ)) (v : WrittenValue) → function_of ws ≡ Some v → IsReadValue (codes "f" ∷ ws) v
function_says [] v e = absurd (let z : ⊥ = cc in z)
function_says (w ∷ ws) v e =
    let b = bind_some (scalar_of w) (λ d. scalars_of ws >>= λ vs. Some (value.Fun d vs)) v e in
    let d = bind_some (scalars_of ws) (λ vs. Some (value.Fun b.0 vs)) v b.2 in
    let same : value.Fun b.0 d.0 ≡ v = let q = d.2 in cc in
    let s = scalar_says w b.0 b.1 in
    let t = each_says scalar_of scalar_text IsScalar scalar_says ws d.0 d.1 in
    subst (IsReadValue (codes "f" ∷ w ∷ ws)) same
    (record { words = ap₂ (λ x xs. codes "f" ∷ x ∷ xs) s.0 t.0; fits = (s.1, t.1) })

plain_words : (v : WrittenScalar) → scalar_text v ∷ [] ≡ value_words (plain_value v)
plain_words (scalar.Bool b) = refl
plain_words (scalar.Word ds) = refl

plain_fits : (v : WrittenScalar) → IsScalar v → IsValue (plain_value v)
plain_fits (scalar.Bool b) h = tt
plain_fits (scalar.Word ds) h = h

plain_says : (w : List ℕ) (ws : List (List ℕ)) (v : WrittenValue) → plain_of w ws ≡ Some v → IsReadValue (w ∷ ws) v
plain_says w ws v e =
    let b = bind_some (scalar_of w) (λ s. ended (plain_value s) ws) v e in
    let q = ended_says (plain_value b.0) v ws b.2 in
    let s = scalar_says w b.0 b.1 in
    subst (IsReadValue (w ∷ ws)) q.0
    (record { words = ap₂ (λ x xs. x ∷ xs) s.0 q.1 ∙ plain_words b.0; fits = plain_fits b.0 s.1 })

value_by : (p q : Bool) (w : List ℕ) (ws : List (List ℕ)) (v : WrittenValue) → bytes_eq w (codes "a") ≡ p → bytes_eq w (codes "f") ≡ q
    → cond p (array_of ws) (cond q (function_of ws) (plain_of w ws)) ≡ Some v → IsReadValue (w ∷ ws) v
value_by true q w ws v k l e = subst (λ (x : List ℕ). IsReadValue (x ∷ ws) v) (sym (same_text w (codes "a") k)) (array_says ws v e)
value_by false true w ws v k l e = subst (λ (x : List ℕ). IsReadValue (x ∷ ws) v) (sym (same_text w (codes "f") l)) (function_says ws v e)
value_by false false w ws v k l e = plain_says w ws v e

pub value_says : (ws : List (List ℕ)) (v : WrittenValue) → value_of ws ≡ Some v → IsReadValue ws v
value_says [] v e = absurd (let z : ⊥ = cc in z)
value_says (w ∷ ws) v e = value_by (bytes_eq w (codes "a")) (bytes_eq w (codes "f")) w ws v refl refl e
