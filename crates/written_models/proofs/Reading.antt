-- Values of declarations, read at their signatures.
use Rattle.std.proofs.Common.{◌≡◌, true, List, map, refl, sym, ap, ◌∙◌, subst, Some, Result, Ok, Err}
use Rattle.std.specs.Prelude.{Option, IfOk}
use Rattle.std.proofs.lemmas.List.Elements.{recursion_from_All}
use Rattle.std.proofs.lemmas.Nat.{pow_pos}
use Rattle.std.proofs.Math.Nat.{mod-lt, mod-eq_of_lt}
use Rattle.smt_terms.specs.declared.sort.Sort.{Sort}
use Rattle.smt_terms.specs.declared.sort.Sort.TheVariants as sort
use Rattle.smt_terms.specs.declared.sort.Signature.{Signature}
use Rattle.smt_terms.specs.declared.scalar.Scalar.{Scalar}
use Rattle.smt_terms.specs.Ranks.{is_plain}
use Rattle.smt_terms.specs.Scalars.{scalar_value}
use Rattle.smt_terms.specs.Terms.{IsSort}
use Rattle.smt_terms.specs.Values as of
use Rattle.smt_terms.specs.Values.{read_at}
use Rattle.smt_values.specs.declared.value.Value.{Value}
use Rattle.smt_values.specs.declared.value.Value.TheVariants as held
use Rattle.smt_values.specs.Arrays.{array_value}
use Rattle.smt_values.specs.Tables.{TableFields, table_value}
use Rattle.smt_values.specs.Held.{meaning, function_of}
use Rattle.smt_values.proofs.Reading.{array_read}
use Rattle.accepted_proof.specs.Models.{IsOfKind, AreOfKinds, IsTableOf}
use Rattle.written_models.specs.Reading.{IsDeclarable, IsTableReading}
use Rattle.written_models.proofs.Rows.{scalars_of}

pub read_again : (s : Sort) (x : of.Value) → is_plain s ≡ true → read_at s (read_at s x) ≡ read_at s x
read_again sort.Bool (of.VBool b) p = refl
read_again sort.Bool (of.VWord n x) p = refl
read_again sort.Bool (of.VArray n m a) p = refl
read_again (sort.Word n) (of.VBool b) p = ap (of.VWord n) (mod-eq_of_lt (pow_pos n))
read_again (sort.Word n) (of.VWord m x) p = ap (of.VWord n) (mod-eq_of_lt (mod-lt x (pow_pos n)))
read_again (sort.Word n) (of.VArray k m a) p = ap (of.VWord n) (mod-eq_of_lt (pow_pos n))
read_again (sort.Array n m) x p = let q : ⊥ = cc in absurd q

-- a value of the kind of a sort is read as it is
pub kind_read : (s : Sort) (v : Value) → IsOfKind s v → read_at s (meaning v) ≡ meaning v
kind_read s (held.Bool b) h = ap (λ r. read_at r (of.VBool b)) h
kind_read s (held.Word w) h = ap (λ r. read_at r (of.VWord w.width w.value)) h.0 ∙ ap (of.VWord w.width) (mod-eq_of_lt h.1.2)
kind_read s (held.Array a) h = ap (λ r. read_at r (array_value a)) h.0 ∙ sym (array_read a.index a.default.width a h.1 refl refl)
kind_read s (held.Fun t) h = absurd h

-- a table that was set
pub table_reading : {E : Type 0} (g : Signature) (o : Option Value) (from : TableFields) (r : Result TableFields E) → IsDeclarable g → o ≡ Some (held.Fun from) → IfOk r (λ t. IsTableOf g t)
    → IfOk r (λ t. (args : List Scalar) → AreOfKinds g.args args → read_at g.value (table_value from (map scalar_value args)) ≡ table_value t (map scalar_value args)) → IfOk r (λ t. IsTableReading g o t)
table_reading g o from (Err e) d set own values = tt
table_reading g o from (Ok t) d set own values = record {
  table = own;
  values = λ vs sorted.
      (let xs = scalars_of g.args vs (recursion_from_All (λ (a : Sort). (is_plain a ≡ true) × IsSort a) g.args d.args) sorted in
      let reads : read_at g.value (function_of o vs) ≡ read_at g.value (table_value from vs) = ap (λ p. read_at g.value (function_of p vs)) set in
      reads ∙ subst (λ ys. read_at g.value (table_value from ys) ≡ table_value t ys) xs.1 (values xs.0 xs.2));
}
