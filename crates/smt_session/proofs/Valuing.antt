-- The values of terms in a model.
use Rattle.std.proofs.Common.{◌≡◌, ℕ, zero, suc, ◌+◌, ◌<◌, false, List, [], ◌∷◌, ◌++◌, codes, length, map, take, get_or, sym, ap, ◌∙◌, subst, arith}
use Rattle.std.specs.Prelude.{All}
use Rattle.std.proofs.lemmas.List.{length-map, get_or-map}
use Rattle.std.proofs.lemmas.List.Elements.{All-map}
use Rattle.smt_terms.specs.declared.node.Node.{Node}
use Rattle.smt_terms.specs.Terms.{sort_of}
use Rattle.smt_terms.specs.Values.{Interpretation, value}
use Rattle.smt_values.specs.declared.value.Value.{Value}
use Rattle.smt_values.specs.Held.{meaning}
use Rattle.smt_eval.specs.Evaluated.{held_value, is_table}
use Rattle.smt_eval.specs.Asked.{AreValuesOf}
use Rattle.smt_eval.proofs.Evaluating.{sort_plain}
use Rattle.script_state.specs.declared.answer.Asked.{Asked}
use Rattle.accepted_proof.specs.Answers.{asked_text, meaning_text}
use Rattle.smt_session.proofs.Listing.{mapped_more}

-- ---- the texts

abbrev term_asked : Asked → ℕ
term_asked a = a.term

pub terms_held : (n : ℕ) (asked : List Asked) (terms slice : List ℕ) → terms ≡ map term_asked asked → slice ≡ terms → All (λ (a : Asked). a.term < n) asked → All (λ t. t < n) slice
terms_held n asked terms slice e same h = subst (All (λ t. t < n)) (sym (same ∙ e)) (All-map (λ t. t < n) term_asked asked h)

module _ (nodes : List Node) (M : Interpretation) (asked : List Asked) (terms slice : List ℕ) (found : List Value)
    (all : terms ≡ map term_asked asked) (given : slice ≡ terms) (are : AreValuesOf M nodes slice found) where
  place : (k : ℕ) → k < length asked → k < length slice
  place k lt = subst (λ m. k < m) (sym (ap length (given ∙ all) ∙ length-map asked term_asked)) lt

  pub found_within : (k : ℕ) → k < length asked → k < length found
  found_within k lt = subst (λ m. k < m) (sym are.count) (place k lt)

  pub found_plain : (k : ℕ) (v : Value) → k < length asked → v ≡ held_value found k → is_table v ≡ false
  found_plain k v lt e = ap is_table e ∙ sort_plain (sort_of nodes (get_or slice k 0)) (held_value found k) (are.sorted k (place k lt))

  -- one text more
  pub item_more : (items more : List (List ℕ)) (k : ℕ) (a : Asked) (v : Value) (item : List ℕ) → k < length asked → a ≡ get_or asked k a → v ≡ held_value found k
      → item ≡ codes "(" ++ a.text ++ codes " " ++ meaning_text (meaning v) ++ codes ")" → items ≡ map (asked_text nodes M) (take k asked) → more ≡ items ++ item ∷ []
      → more ≡ map (asked_text nodes M) (take (k + 1) asked)
  item_more items more k a v item lt at here text before e =
      let term : get_or slice k 0 ≡ a.term = ap (λ ts. get_or ts k 0) (given ∙ all) ∙ get_or-map term_asked asked k a 0 lt ∙ ap term_asked (sym at) in
      let means : meaning v ≡ value M nodes a.term =
      ap meaning here ∙ are.means k (place k lt) ∙ ap (value M nodes) term in
      let own : item ≡ asked_text nodes M a = text ∙ ap (λ x. codes "(" ++ a.text ++ codes " " ++ meaning_text x ++ codes ")") means in
      mapped_more (asked_text nodes M) asked items more k a item lt at before own e

pub read_held : (values : List Value) (k : ℕ) (v d : Value) → k < length values → v ≡ get_or values k d → v ≡ held_value values k
read_held [] k v d lt e = absurd (omega (arith, lt))
read_held (x ∷ values) zero v d lt e = e
read_held (x ∷ values) (suc k) v d lt e = read_held values k v d (omega (arith, lt)) e
