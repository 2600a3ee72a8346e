-- Values that are written for declarations, and how what is set for these reads.
use Rattle.std.specs.Prelude.{◌≡◌, true, List, [], All, Option}
use Rattle.smt_terms.specs.declared.sort.Sort.{Sort}
use Rattle.smt_terms.specs.declared.sort.Signature.{Signature}
use Rattle.smt_terms.specs.Ranks.{is_plain}
use Rattle.smt_terms.specs.Terms.{IsSort}
use Rattle.smt_terms.specs.Values as of
use Rattle.smt_values.specs.declared.value.Value.{Value}
use Rattle.smt_values.specs.Tables.{TableFields, table_value}
use Rattle.smt_values.specs.Held.{meaning, function, constant_of, function_of}
use Rattle.accepted_proof.specs.Models.{IsTableOf, IsOfArguments}
use Rattle.written_models.specs.Alike.{AreAlike, HaveSorts}

-- the signature of a constant, or of a function over Bools and words
pub record IsDeclarable (g : Signature) : Type 0 where
  pub value : IsSort g.value
  pub args : All (λ (a : Sort). (is_plain a ≡ true) × IsSort a) g.args
  pub plain : (g.args ≡ [] → ⊥) → is_plain g.value ≡ true

-- a table of the signature, which gives what the function that is set reads as
pub record IsTableReading (g : Signature) (o : Option Value) (t : TableFields) : Type 0 where
  pub table : IsTableOf g t
  pub values : (vs : List of.Value) → HaveSorts g.args vs → of.read_at g.value (function_of o vs) ≡ table_value t vs

-- a value that a declaration of this signature may have, which is what is set for it as it reads
pub record IsReading (g : Signature) (o : Option Value) (v : Value) : Type 0 where
  pub own : IsOfArguments g.args g v
  pub constant : g.args ≡ [] → AreAlike g.value (of.read_at g.value (constant_of o)) (meaning v)
  pub function : (g.args ≡ [] → ⊥) → (vs : List of.Value) → HaveSorts g.args vs → of.read_at g.value (function_of o vs) ≡ function v vs
