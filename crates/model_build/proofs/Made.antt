-- The interpretation of a draft that has all terms and all accesses.
use Rattle.std.proofs.Common.{◌≡◌, ℕ, Bool, List, length, Option, Some, refl, sym, ap, ◌∙◌, subst}
use Rattle.std.specs.Prelude.{map, Contains}
use Rattle.smt_terms.specs.declared.sort.Sort.{Sort}
use Rattle.smt_terms.specs.declared.sort.Sort.TheVariants as sort
use Rattle.smt_terms.specs.declared.node.Node.{Node}
use Rattle.smt_terms.specs.Nodes.{node_at}
use Rattle.smt_terms.specs.Bits.{TermBits, image_in}
use Rattle.smt_terms.specs.Terms.{sort_of, IsTermList}
use Rattle.smt_terms.specs.Values as of
use Rattle.smt_terms.specs.Values.{HasSort, VArray, read_at, Interpretation}
use Rattle.smt_terms.proofs.Evaluating.{value_is_evaluation}
use Rattle.smt_values.specs.declared.value.Value.{Value}
use Rattle.smt_values.specs.declared.value.Value.TheVariants as held_value
use Rattle.smt_values.specs.Arrays.{array_value, elements_of}
use Rattle.smt_values.specs.Held.{set_for, constant_of, function_of, interpretation_of}
use Rattle.smt_values.proofs.Reading.{array_read}
use Rattle.theory_terms.specs.declared.shape.Shape.{Shape}
use Rattle.theory_terms.specs.declared.shape.Shape.TheVariants.{Applying, Declaring}
use Rattle.theory_terms.specs.Shapes.{IsPlain, shape_at}
use Rattle.theory_terms.proofs.Shapes.{FactsOf, facts}
use Rattle.term_reach.proofs.Tables.{at_contained}
use Rattle.std.proofs.lemmas.Option.{slice_get_within}
use Rattle.access_tables.specs.Ready.{IsOwn}
use Rattle.access_tables.specs.Built.{HasWords}
use Rattle.access_tables.specs.Encoded.{HaveBits}
use Rattle.access_tables.specs.Held.{TableValue, assigned_value, table_word}
use Rattle.access_tables.specs.Modeled.{IsFrom}
use Rattle.access_tables.proofs.Choosing.{read_same}
use Rattle.access_tables.proofs.Encoded.{value_sort}
use Rattle.model_build.specs.Drafts.{HoldsValue, HoldsShape, IsFilled, HasElements}
use Rattle.model_build.proofs.Accesses.{all_filled}

module _
    (nodes : List Node) (terms : IsTermList nodes) (bits : List TermBits) (f : ℕ → Bool) (table : TableValue) (have : HaveBits nodes bits (Contains table.terms))
    (draft values : List (Option Value)) (same : (d : ℕ) → set_for values d ≡ set_for draft d)
    (all : HasElements nodes bits f table (length table.terms) (length table.rows) draft) where
  abbrev Own : ℕ → Type 0
  Own t = IsOwn (Contains table.terms) (image_in bits) t

  held : (t : ℕ) (k : Shape) → Own t → shape_at nodes t ≡ k → HoldsShape (IsFilled nodes (assigned_value nodes bits f) table (length table.rows)) nodes (assigned_value nodes bits f) draft t k
  held t k h e =
      let at = at_contained table.terms t h.0 in
      subst (HoldsShape (IsFilled nodes (assigned_value nodes bits f) table (length table.rows)) nodes (assigned_value nodes bits f) draft t) e (all at.0 t (slice_get_within table.terms at.0 t at.1) at.1 h.1)

  fact : (t : ℕ) (k : Shape) → shape_at nodes t ≡ k → FactsOf (interpretation_of values) (sort_of nodes) (of.value (interpretation_of values) nodes) t (node_at nodes t) k
  fact t k e = subst (FactsOf (interpretation_of values) (sort_of nodes) (of.value (interpretation_of values) nodes) t (node_at nodes t)) e
      (facts (interpretation_of values) nodes (of.value (interpretation_of values) nodes) terms (value_is_evaluation (interpretation_of values) nodes terms) t)

  constant_value : (t d : ℕ) (q : Sort) → Own t → sort_of nodes t ≡ q → IsPlain q → HoldsValue draft d (assigned_value nodes bits f t) → read_at q ((interpretation_of values).constants d) ≡ assigned_value nodes bits f t
  constant_value t d q h s p w =
      let is : (interpretation_of values).constants d ≡ assigned_value nodes bits f t = ap constant_of (same d ∙ w.1) ∙ w.2 in
      let sorted : HasSort q (assigned_value nodes bits f t) = subst (λ r. HasSort r (assigned_value nodes bits f t)) s (value_sort nodes terms bits f (Contains table.terms) have t h.0 (subst IsPlain (sym s) p)) in
      ap (read_at q) is ∙ read_same q (assigned_value nodes bits f t) p sorted

  constant : (t d : ℕ) (q : Sort) → Own t → shape_at nodes t ≡ Declaring d q → IsPlain q → read_at q ((interpretation_of values).constants d) ≡ assigned_value nodes bits f t
  constant t d sort.Bool h e p = constant_value t d sort.Bool h (fact t (Declaring d sort.Bool) e).sort p (held t (Declaring d sort.Bool) h e)
  constant t d (sort.Word n) h e p = constant_value t d (sort.Word n) h (fact t (Declaring d (sort.Word n)) e).sort p (held t (Declaring d (sort.Word n)) h e)
  constant t d (sort.Array n m) h e p = absurd p

  application : (t d : ℕ) → Own t → shape_at nodes t ≡ Applying d → read_at (sort_of nodes t) ((interpretation_of values).functions d (map (assigned_value nodes bits f) (node_at nodes t).args)) ≡ assigned_value nodes bits f t
  application t d h e =
      let w = held t (Applying d) h e in
      let p = (fact t (Applying d) e).plain in
      let is : (interpretation_of values).functions d (map (assigned_value nodes bits f) (node_at nodes t).args) ≡ assigned_value nodes bits f t =
      ap (λ o. function_of o (map (assigned_value nodes bits f) (node_at nodes t).args)) (same d ∙ w.set) ∙ ap (function_of (Some (held_value.Fun w.table))) (sym w.are) ∙ w.is in
      ap (read_at (sort_of nodes t)) is ∙ read_same (sort_of nodes t) (assigned_value nodes bits f t) p (value_sort nodes terms bits f (Contains table.terms) have t h.0 p)

  array : (t d n m : ℕ) → Own t → shape_at nodes t ≡ Declaring d (sort.Array n m) → HasWords n m (read_at (sort.Array n m) ((interpretation_of values).constants d)) (table_word nodes bits f table t)
  array t d n m h e =
      let w = held t (Declaring d (sort.Array n m)) h e in
      let is : (interpretation_of values).constants d ≡ array_value w.array = ap constant_of (same d ∙ w.set) in
      let read : read_at (sort.Array n m) ((interpretation_of values).constants d) ≡ array_value w.array = ap (read_at (sort.Array n m)) is ∙ sym (array_read n m w.array w.well w.index w.element) in
      let shown : array_value w.array ≡ VArray n m (elements_of w.array) = rw (w.index, w.element) refl in
      (elements_of w.array, read ∙ shown, λ k lt. all_filled nodes (assigned_value nodes bits f) table t w.array w.is k)

  pub made : IsFrom nodes bits f table (interpretation_of values)
  made = record { constants = constant; functions = application; arrays = array }
