-- The texts and the values of a table are those of its model.
use Rattle.std.proofs.Common.{◌≡◌, ℕ, true, false, List, [], ◌∷◌, ◌++◌, map, Option, Some, None, refl, sym, ap, ◌∙◌, subst, inr}
use Rattle.std.specs.Prelude.{codes, slice_get}
use Rattle.std.specs.List.{flat_map}
use Rattle.std.proofs.lemmas.List.Elements.{recursion_from_All}
use Rattle.smt_values.specs.declared.value.Value.{Value}
use Rattle.smt_values.specs.Held.{set_for}
use Rattle.smt_values.specs.Held as held
use Rattle.smt_terms.specs.declared.node.Node.{Node}
use Rattle.smt_terms.specs.declared.sort.Signature.{Signature}
use Rattle.smt_build.specs.declared.symbols.LiveName.{LiveName}
use Rattle.smt_eval.specs.Evaluated.{AreSuited}
use Rattle.script_state.specs.States.{StateValue, IsState}
use Rattle.script_state.specs.declared.answer.Asked.{Asked}
use Rattle.proof_text.specs.declared.record.Record.{Record}
use Rattle.proof_text.specs.declared.record.Record.TheVariants.{Sat, Unsat, Unknown}
use Rattle.accepted_proof.specs.Answers.{asked_text, definition_by, definitions_text, list_text, model_text, values_text}
use Rattle.accepted_proof.specs.Models.{value_for, IsOfSignature}
use Rattle.accepted_proof.proofs.Valuing.{same_interpretation, are_suited, value_among}
use Rattle.smt_session.specs.Tabled.{IsTable, IsTableOf, AreOfSignatures, IsSortedRecord, has_model, definitions_by}

each_definition : (signatures : List Signature) (values : List (ℕ × Value)) (table : List (Option Value)) → IsTable values table → (live : List LiveName)
    → flat_map (λ (l : LiveName). definition_by l.name (slice_get signatures l.declaration) (set_for table l.declaration)) live
    ≡ flat_map (λ (l : LiveName). definition_by l.name (slice_get signatures l.declaration) (value_for values l.declaration)) live
each_definition signatures values table h [] = refl
each_definition signatures values table h (l ∷ live) =
    let here = ap (definition_by l.name (slice_get signatures l.declaration)) (h l.declaration) in
    let rest = each_definition signatures values table h live in
    rw (here, rest) refl

pub definitions_same : (s : StateValue) (values : List (ℕ × Value)) (table : List (Option Value)) → IsTable values table → definitions_by s table ≡ definitions_text s values
definitions_same s values table h = each_definition s.symbols.signatures values table h s.symbols.live

-- where there is no model, there is no text
pub no_model : (s : StateValue) (o : Option Record) → has_model o ≡ false → [] ≡ model_text s o
no_model s None e = refl
no_model s (Some (Sat values)) e = let f : ⊥ = cc in absurd f
no_model s (Some (Unsat p)) e = refl
no_model s (Some (Unknown d)) e = refl

pub no_values : (nodes : List Node) (asked : List Asked) (o : Option Record) → has_model o ≡ false → [] ≡ values_text nodes asked o
no_values nodes asked None e = refl
no_values nodes asked (Some (Sat values)) e = let f : ⊥ = cc in absurd f
no_values nodes asked (Some (Unsat p)) e = refl
no_values nodes asked (Some (Unknown d)) e = refl

pub model_of : (o : Option Record) → has_model o ≡ true → (values : List (ℕ × Value)) × (o ≡ Some (Sat values))
model_of None e = let f : ⊥ = cc in absurd f
model_of (Some (Sat values)) e = (values, refl)
model_of (Some (Unsat p)) e = let f : ⊥ = cc in absurd f
model_of (Some (Unknown d)) e = let f : ⊥ = cc in absurd f

-- where a record has a model, and a table its values
module _ (o : Option Record) (values : List (ℕ × Value)) (table : List (Option Value)) (has : o ≡ Some (Sat values)) (tabled : IsTableOf o table) where
  is_table : IsTable values table
  is_table = subst (λ r. IsTableOf r table) has tabled

  -- the table suits the terms, where the values are of the declarations' signatures
  pub table_suits : (s : StateValue) → IsState s → IsSortedRecord s.symbols.signatures o → AreSuited s.terms.nodes table
  table_suits s is sorted =
      let each : AreOfSignatures s.symbols.signatures values = subst (IsSortedRecord s.symbols.signatures) has sorted in
      let listed = recursion_from_All (λ (p : ℕ × Value). IsOfSignature p.1 (slice_get s.symbols.signatures p.0)) values each in
      are_suited s is table (λ d v e. inr (value_among (λ x n. IsOfSignature x (slice_get s.symbols.signatures n)) values d v listed (sym (is_table d) ∙ e)))

  pub model_same : (s : StateValue) → codes "(" ++ 10 ∷ [] ++ definitions_by s table ++ codes ")" ++ 10 ∷ [] ≡ model_text s o
  model_same s =
      ap (λ x. codes "(" ++ 10 ∷ [] ++ x ++ codes ")" ++ 10 ∷ []) (definitions_same s values table is_table)
      ∙ sym (ap (model_text s) has)

  pub values_same : (nodes : List Node) (asked : List Asked) (items : List (List ℕ)) → items ≡ map (asked_text nodes (held.interpretation_of table)) asked → list_text items ≡ values_text nodes asked o
  values_same nodes asked items e =
      ap list_text (e ∙ ap (λ M. map (asked_text nodes M) asked) (same_interpretation table values is_table))
      ∙ sym (ap (values_text nodes asked) has)
