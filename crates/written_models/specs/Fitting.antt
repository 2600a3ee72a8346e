-- What is entered of an array and of a table, where they are read at other widths and sorts.
use Rattle.std.specs.Prelude.{◌≡◌, ◌⊎◌, ℕ, ◌%◌, ◌^◌, Bool, true, false, ◌&&◌, List, [], ◌∷◌}
use Rattle.smt_words.specs.Words.{word}
use Rattle.smt_terms.specs.declared.sort.Sort.{Sort}
use Rattle.smt_terms.specs.declared.sort.Signature.{Signature}
use Rattle.smt_terms.specs.declared.scalar.Scalar.{Scalar}
use Rattle.smt_terms.specs.Same.{same_sort}
use Rattle.smt_terms.specs.Scalars.{scalar_value, scalar_sort}
use Rattle.smt_terms.specs.Values.{read_at}
use Rattle.smt_values.specs.declared.table.Row.{Row}
use Rattle.smt_values.specs.Arrays.{Entry, ArrayFields, with_element}
use Rattle.smt_values.specs.Tables.{TableFields, with_row}
use Rattle.smt_values.specs.Held.{value_of}
use Rattle.accepted_proof.specs.Models.{IsOfKind, AreOfKinds}

-- the index of the entry fits the width
abbrev pub HasIndex : ℕ → Entry → Type 0
HasIndex n e = e.0.value % 2 ^ n ≡ e.0.value

-- the array with an entry more, at these widths
abbrev pub entered_at : ℕ → ℕ → Entry → ArrayFields → ArrayFields
entered_at n m e a = with_element a (word n (e.0.value % 2 ^ n)) (word m (e.1.value % 2 ^ m))

-- truth values and words of these sorts, one by one
abbrev pub are_of : List Sort → List Scalar → Bool
are_of [] [] = true
are_of [] (x ∷ xs) = false
are_of (s ∷ ss) [] = false
are_of (s ∷ ss) (x ∷ xs) = same_sort s (scalar_sort x) && are_of ss xs

-- a row whose arguments are of the function's sorts is entered, with its value read at the function's
pub record EntersRow (g : Signature) (r : Row) (old new : TableFields) : Type 0 where
  pub value : Scalar
  pub fits : AreOfKinds g.args r.args
  pub kind : IsOfKind g.value (value_of value)
  pub reads : scalar_value value ≡ read_at g.value (scalar_value r.value)
  pub is : new ≡ with_row old r.args value

-- such a row is entered, and no other
abbrev pub IsRowEntered : Signature → Row → TableFields → TableFields → Type 0
IsRowEntered g r old new = EntersRow g r old new ⊎ ((are_of g.args r.args ≡ false) × (new ≡ old))
