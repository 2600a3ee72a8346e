-- The terms that a check is about.
use Rattle.std.proofs.Common.{◌≡◌, ℕ, ◌<◌, true, List, ◌++◌, length, map, sym, subst}
use Rattle.std.specs.Prelude.{All}
use Rattle.std.proofs.lemmas.List.Elements.{All-from_recursion, recursion_from_All, All-weaker}
use Rattle.smt_terms.specs.Evaluations.{has_no_witness}
use Rattle.scope_selectors.specs.declared.live.Live.{Live}
use Rattle.smt_build.specs.Scoped.{is_over}
use Rattle.smt_build.proofs.Scoped.{over_has_no_witness}
use Rattle.script_state.specs.declared.answer.Asked.{Asked}
use Rattle.script_state.specs.States.{StateValue, IsState, IsAssumption, assumptions, roots_of, roots}
use Rattle.cnf_base.proofs.Lists.{each_append, each_map}

abbrev term_of : Live → ℕ
term_of a = a.term

abbrev term_asked : Asked → ℕ
term_asked a = a.term

-- each of them is so where each assertion and each assumption is
all_roots : (P : ℕ → Type 0) (live : List Live) (assumed : List Asked) → All (λ (a : Live). P a.term) live → All (λ (a : Asked). P a.term) assumed → All P (roots_of live assumed)
all_roots P live assumed h k =
    All-from_recursion P (map term_of live ++ map term_asked assumed)
    (each_append P (map term_of live) (map term_asked assumed)
    (each_map term_of P live (recursion_from_All (λ (a : Live). P a.term) live h))
    (each_map term_asked P assumed (recursion_from_All (λ (a : Asked). P a.term) assumed k)))

module _ (s : StateValue) (is : IsState s) where
  -- they are terms
  pub all_held : All (λ t. t < length s.terms.nodes) (roots s)
  all_held =
      all_roots (λ t. t < length s.terms.nodes) s.scopes.live (assumptions s) is.held
      (All-weaker (IsAssumption s.terms.nodes s.symbols.live) (λ (a : Asked). a.term < length s.terms.nodes) (λ a h. h.held) (assumptions s) is.assumed)

  -- no witness stands in them
  pub all_scripted : All (λ t. has_no_witness s.terms.nodes t ≡ true) (roots s)
  all_scripted =
      all_roots (λ t. has_no_witness s.terms.nodes t ≡ true) s.scopes.live (assumptions s)
      (All-weaker (λ (a : Live). is_over s.symbols.live s.terms.nodes a.term ≡ true) (λ (a : Live). has_no_witness s.terms.nodes a.term ≡ true) (λ a h. over_has_no_witness s.symbols.live s.terms.nodes a.term h) s.scopes.live is.closed.terms)
      (All-weaker (IsAssumption s.terms.nodes s.symbols.live) (λ (a : Asked). has_no_witness s.terms.nodes a.term ≡ true) (λ a h. over_has_no_witness s.symbols.live s.terms.nodes a.term h.closed) (assumptions s) is.assumed)

  pub roots_held : (found : List ℕ) → found ≡ roots s → All (λ t. t < length s.terms.nodes) found
  roots_held found e = subst (All (λ t. t < length s.terms.nodes)) (sym e) all_held
