-- The least index at which two arrays differ.
use Rattle.std.specs.Prelude.{◌≡◌, ℕ, ◌<◌, ◌^◌, ◌==◌, nat_le, Bool, true, false, not, ◌||◌, if◌then◌else◌, List, Option, Some, None, is_some}
use Rattle.smt_words.specs.Words.{WordValue, word}
use Rattle.smt_terms.specs.Values.{all_below, first_below}
use Rattle.smt_values.specs.Arrays.{Entry, ArrayFields, entry_at, element_at}

-- the two arrays agree at every index
abbrev pub agree : ArrayFields → ArrayFields → Bool
agree a b = all_below (λ i. element_at a i == element_at b i) (2 ^ a.index)

-- the least index at which they differ
abbrev pub first_difference : ArrayFields → ArrayFields → Option WordValue
first_difference a b = if agree a b then None else Some (word a.index (first_below (λ i. not (element_at a i == element_at b i)) (2 ^ a.index)))

-- ---- its parts

-- an index is held
abbrev pub holds : List Entry → ℕ → Bool
holds es i = is_some (entry_at es i)

-- one of two arrays holds an index
abbrev pub either_holds : ArrayFields → ArrayFields → ℕ → Bool
either_holds a b i = holds a.entries i || holds b.entries i

-- An index at which two arrays differ, and below which they agree wherever a test holds; or they agree wherever it holds.
abbrev pub IsFirstAmong : (ℕ → Bool) → ArrayFields → ArrayFields → Option WordValue → Type 0
IsFirstAmong q a b None = (i : ℕ) → i < 2 ^ a.index → q i ≡ true → element_at a i ≡ element_at b i
IsFirstAmong q a b (Some w) = (w.width ≡ a.index) × (w.value < 2 ^ a.index) × (element_at a w.value ≡ element_at b w.value → ⊥) × ((i : ℕ) → i < w.value → q i ≡ true → element_at a i ≡ element_at b i)

abbrev pub lesser : Option WordValue → Option WordValue → Option WordValue
lesser None b = b
lesser (Some x) None = Some x
lesser (Some x) (Some y) = if nat_le x.value y.value then Some x else Some y

-- the least index that neither array holds
abbrev pub IsGap : ArrayFields → ArrayFields → Option WordValue → Type 0
IsGap a b None = (i : ℕ) → i < 2 ^ a.index → either_holds a b i ≡ true
IsGap a b (Some w) = (w.width ≡ a.index) × (w.value < 2 ^ a.index) × (either_holds a b w.value ≡ false) × ((i : ℕ) → i < w.value → either_holds a b i ≡ true)
