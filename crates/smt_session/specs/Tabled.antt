-- The values of a model by declaration.
use Rattle.std.specs.Prelude.{◌≡◌, ℕ, Bool, true, false, List, All, Option, None, Some, slice_get}
use Rattle.std.specs.List.{flat_map}
use Rattle.smt_terms.specs.declared.sort.Signature.{Signature}
use Rattle.smt_values.specs.declared.value.Value.{Value}
use Rattle.smt_values.specs.Held.{set_for}
use Rattle.smt_build.specs.declared.symbols.LiveName.{LiveName}
use Rattle.script_state.specs.States.{StateValue}
use Rattle.proof_text.specs.declared.record.Record.{Record}
use Rattle.proof_text.specs.declared.record.Record.TheVariants.{Sat, Unsat, Unknown}
use Rattle.accepted_proof.specs.Answers.{definition_by}
use Rattle.accepted_proof.specs.Models.{value_for, IsOfSignature}

-- each declaration has the value in the table that is written for it
abbrev pub IsTable : List (ℕ × Value) → List (Option Value) → Type 0
IsTable values table = (d : ℕ) → set_for table d ≡ value_for values d

-- where the record has a model, the table has its values
abbrev pub IsTableOf : Option Record → List (Option Value) → Type 0
IsTableOf None table = Unit {0}
IsTableOf (Some (Sat values)) table = IsTable values table
IsTableOf (Some (Unsat p)) table = Unit {0}
IsTableOf (Some (Unknown d)) table = Unit {0}

-- where a table is made, it is that of the record
abbrev pub AreTabled : Option Record → Option (List (Option Value)) → Type 0
AreTabled shown None = Unit {0}
AreTabled shown (Some table) = IsTableOf shown table

-- each value is one that its declaration may have
abbrev pub AreOfSignatures : List Signature → List (ℕ × Value) → Type 0
AreOfSignatures signatures values = All (λ (p : ℕ × Value). IsOfSignature p.1 (slice_get signatures p.0)) values

-- where the record has a model, its values are such
abbrev pub IsSortedRecord : List Signature → Option Record → Type 0
IsSortedRecord signatures None = Unit {0}
IsSortedRecord signatures (Some (Sat values)) = AreOfSignatures signatures values
IsSortedRecord signatures (Some (Unsat p)) = Unit {0}
IsSortedRecord signatures (Some (Unknown d)) = Unit {0}

-- whether there is a model
abbrev pub is_model : Record → Bool
is_model (Sat values) = true
is_model (Unsat p) = false
is_model (Unknown d) = false

abbrev pub has_model : Option Record → Bool
has_model None = false
has_model (Some r) = is_model r

-- the live names in the order of their declarations, each with its value in the table
abbrev pub definitions_by : StateValue → List (Option Value) → List ℕ
definitions_by s table = flat_map (λ (l : LiveName). definition_by l.name (slice_get s.symbols.signatures l.declaration) (set_for table l.declaration)) s.symbols.live
