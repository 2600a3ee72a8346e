-- Values by what is written of them.
use Rattle.std.specs.Prelude.{◌≡◌, ℕ, Bool, List, map}
use Rattle.std.specs.List.{flat_map}
use Rattle.smt_terms.specs.declared.sort.Signature.{Signature}
use Rattle.smt_values.specs.Arrays.{ArrayFields, IsArray}
use Rattle.smt_values.specs.Tables.{TableFields}
use Rattle.proof_text.specs.declared.list.WrittenScalar.{WrittenScalar}
use Rattle.proof_text.specs.declared.list.WrittenEntry.{WrittenEntry}
use Rattle.proof_text.specs.Records.{digits_of, written_scalar, written_entry, row_scalars}
use Rattle.accepted_proof.specs.Models.{IsTableOf}

-- an array of these widths that is written so
pub record IsArrayOf (n m : ℕ) (default : List Bool) (entries : List WrittenEntry) (a : ArrayFields) : Type 0 where
  pub index : a.index ≡ n
  pub element : a.default.width ≡ m
  pub array : IsArray a
  pub first : digits_of a.default ≡ default
  pub more : map written_entry a.entries ≡ entries

-- a table of the function that is written so
pub record IsWrittenTable (g : Signature) (default : WrittenScalar) (values : List WrittenScalar) (t : TableFields) : Type 0 where
  pub table : IsTableOf g t
  pub first : written_scalar t.default ≡ default
  pub more : flat_map row_scalars t.rows ≡ values
