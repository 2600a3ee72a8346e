-- The values of declarations that are written where an interpretation was found.
use Rattle.std.specs.Prelude.{◌≡◌, ℕ, List, map, slice_get, Option, Some}
use Rattle.std.specs.List.{AllByRecursion}
use Rattle.smt_terms.specs.declared.sort.Signature.{Signature}
use Rattle.smt_terms.specs.Values.{Interpretation}
use Rattle.smt_values.specs.declared.value.Value.{Value}
use Rattle.smt_values.specs.Held.{constant_of, function_of}
use Rattle.smt_build.specs.declared.symbols.LiveName.{LiveName}
use Rattle.written_models.specs.Reading.{IsReading}

-- the interpretation of the declarations by what is set for them
abbrev pub interpretation_by : (ℕ → Option Value) → Interpretation
interpretation_by set = record { constants = λ d. constant_of (set d); functions = λ d. function_of (set d) }

-- the value of a declaration, which is what is set for it, read at its signature
pub record IsDeclaredReading (signatures : List Signature) (found : ℕ → Option Value) (p : ℕ × Value) : Type 0 where
  pub signature : Signature
  pub declared : slice_get signatures p.0 ≡ Some signature
  pub is : IsReading signature (found p.0) p.1

-- each of these live declarations, with its value
pub record AreReadings (signatures : List Signature) (found : ℕ → Option Value) (live : List LiveName) (items : List (ℕ × Value)) : Type 0 where
  pub listed : map (λ (p : ℕ × Value). p.0) items ≡ map (λ (l : LiveName). l.declaration) live
  pub each : AllByRecursion (IsDeclaredReading signatures found) items
