-- Which clauses are refutations.
use Rattle.std.proofs.Common.{◌≡◌, ℕ, Bool, true, false, MatchBool, List, Option, Some, None, refl, sym, ap, ap₂, ◌∙◌, inl, inr, eq-eqb}
use Rattle.std.specs.Prelude.{◌||◌, ◌⊎◌}
use Rattle.std.specs.List.{list_any, list_all}
use Rattle.std.proofs.lemmas.List.Elements.{All-from_recursion, recursion_from_All, All-weaker}
use Rattle.std.proofs.lemmas.List.Folds.{Any-from_list_any, list_any-from_Any}
use Rattle.std.proofs.lemmas.List.Sums.{AllPass-from_list_all, list_all-from_AllPass}
use Rattle.std.specs.Cmp.{unsigned_Decides}
use Rattle.std.proofs.lemmas.Bool.{or_cases, or_left, or_right}
use Rattle.cnf_base.specs.Literals.{Literal, negated, code_of}
use Rattle.cnf_base.proofs.Codes.{code_of-injective}
use Rattle.smt_terms.specs.Bits.{bits_in}
use Rattle.scope_selectors.specs.declared.live.Live.{Live}
use Rattle.script_state.specs.declared.answer.Asked.{Asked}
use Rattle.script_state.specs.States.{StateValue, assumptions}
use Rattle.proof_log.specs.Logs.{Asserted, state_of, clause_at}
use Rattle.proof_log.specs.Stored.{literal_of, selector_in}
use Rattle.faded_log.specs.Faded.{FadedValue}
use Rattle.faded_log.proofs.Weaving.{IsKeptHere}
use Rattle.accepted_proof.specs.Turns.{IsAgainst, IsAgainstAssumed, IsAgainstOne, IsRefutation}
use Rattle.check_cubes.specs.Searches.{only}
use Rattle.check_cubes.proofs.Searched.{only_found}
use Rattle.proof_checker.specs.Checkers.{is_code, is_against, is_against_bit}

-- a literal has the code of the negation of another
code_found : (o : Option Literal) (k : Literal) → is_code o (code_of k) ≡ true → (m : Literal) × (o ≡ Some m) × (k ≡ negated m)
code_found None k e = let f : ⊥ = cc in absurd f
code_found (Some m) k e = (m, refl, sym (code_of-injective (negated m) k ((unsigned_Decides (code_of (negated m)) (code_of k)).0 e)))

code_there : (o : Option Literal) (k m : Literal) → o ≡ Some m → k ≡ negated m → is_code o (code_of k) ≡ true
code_there o k m e n = ap (λ x. is_code x (code_of k)) e ∙ eq-eqb (code_of (negated m)) (code_of k) (ap code_of (sym n))

record IsAsserted (o : Option Asserted) (m : Literal) : Type 0 where
  pub asserted : Asserted
  pub some : o ≡ Some asserted
  pub literal : m ≡ asserted.literal

asserted_found : (o : Option Asserted) (m : Literal) → literal_of o ≡ Some m → IsAsserted o m
asserted_found None m e = let f : ⊥ = cc in absurd f
asserted_found (Some r) m e = record { asserted = r; some = refl; literal = let q : m ≡ r.literal = cc in q }

module _ (s : StateValue) (log : FadedValue) (kept : IsKeptHere s.terms.nodes log) where
  abbrev is_selected : Literal → Bool
  is_selected k = list_any (λ a. is_against log.base.selectors a (code_of k)) s.scopes.live

  abbrev is_assumed : Literal → Bool
  is_assumed k = list_any (λ a. is_against_bit log.base.bits a (code_of k)) (assumptions s)

  abbrev is_blamed : Literal → Bool
  is_blamed k = is_selected k || is_assumed k

  selected_found : (k : Literal) → is_selected k ≡ true → IsAgainst s s.terms.nodes log.entries k
  selected_found k e =
      let any = Any-from_list_any (λ a. is_against log.base.selectors a (code_of k)) s.scopes.live e in
      let a : Live = any.1 in
      let code = code_found (selector_in log.base.selectors a.assertion) k any.4 in
      let made = asserted_found ((state_of s.terms.nodes log.entries).selectors a.assertion) code.0 (sym (kept.selectors a.assertion) ∙ code.1) in
      record { assertion = a; live = (any.0, any.2, any.3); selector = made.asserted; made = made.some; negation = code.2 ∙ ap negated made.literal }

  selected_there : (k : Literal) → IsAgainst s s.terms.nodes log.entries k → is_selected k ≡ true
  selected_there k h =
      let selector : selector_in log.base.selectors h.assertion.assertion ≡ Some h.selector.literal = kept.selectors h.assertion.assertion ∙ ap literal_of h.made in
      let code = code_there (selector_in log.base.selectors h.assertion.assertion) k h.selector.literal selector h.negation in
      list_any-from_Any (λ a. is_against log.base.selectors a (code_of k)) s.scopes.live (h.live.0, h.assertion, h.live.1, h.live.2, code)

  assumed_found : (k : Literal) → is_assumed k ≡ true → IsAgainstAssumed s s.terms.nodes log.entries k
  assumed_found k e =
      let any = Any-from_list_any (λ a. is_against_bit log.base.bits a (code_of k)) (assumptions s) e in
      let a : Asked = any.1 in
      let code = code_found (only (bits_in log.base.bits a.term)) k any.4 in
      record { assumption = a; assumed = (any.0, any.2, any.3); bit = code.0; bits = sym (kept.bits a.term) ∙ only_found (bits_in log.base.bits a.term) code.0 code.1; negation = code.2 }

  assumed_there : (k : Literal) → IsAgainstAssumed s s.terms.nodes log.entries k → is_assumed k ≡ true
  assumed_there k h =
      let bit : only (bits_in log.base.bits h.assumption.term) ≡ Some h.bit = ap only (kept.bits h.assumption.term ∙ h.bits) in
      let code = code_there (only (bits_in log.base.bits h.assumption.term)) k h.bit bit h.negation in
      list_any-from_Any (λ a. is_against_bit log.base.bits a (code_of k)) (assumptions s) (h.assumed.0, h.assumption, h.assumed.1, h.assumed.2, code)

  against_by : (k : Literal) → (is_selected k ≡ true) ⊎ (is_assumed k ≡ true) → IsAgainstOne s s.terms.nodes log.entries k
  against_by k (inl e) = inl (selected_found k e)
  against_by k (inr e) = inr (assumed_found k e)

  against_found : (k : Literal) → is_blamed k ≡ true → IsAgainstOne s s.terms.nodes log.entries k
  against_found k e = against_by k (or_cases (is_selected k) (is_assumed k) e)

  against_there : (k : Literal) → IsAgainstOne s s.terms.nodes log.entries k → is_blamed k ≡ true
  against_there k (inl h) = or_left (is_selected k) (is_assumed k) (selected_there k h)
  against_there k (inr h) = or_right (is_selected k) (is_assumed k) (assumed_there k h)

  -- a clause of literals that are blamed
  pub is_refuted : (p : ℕ) (clause : List Literal) → clause_at log.clauses (record { pos = p; part = 0 }) ≡ Some clause → list_all is_blamed clause ≡ true → IsRefutation s s.terms.nodes log.entries p
  is_refuted p clause e all = record {
    clause = clause;
    stands = ap (λ rows. clause_at rows (record { pos = p; part = 0 })) (sym kept.clauses) ∙ e;
    against = recursion_from_All (IsAgainstOne s s.terms.nodes log.entries) clause (All-weaker (λ k. is_blamed k ≡ true) (IsAgainstOne s s.terms.nodes log.entries) against_found clause (AllPass-from_list_all is_blamed clause all));
  }

  -- another clause
  pub not_refuted : (p : ℕ) (clause : List Literal) → clause_at log.clauses (record { pos = p; part = 0 }) ≡ Some clause → list_all is_blamed clause ≡ false → IsRefutation s s.terms.nodes log.entries p → ⊥
  not_refuted p clause e all h =
      let at : clause_at log.clauses (record { pos = p; part = 0 }) ≡ Some h.clause = ap (λ rows. clause_at rows (record { pos = p; part = 0 })) kept.clauses ∙ h.stands in
      let same : h.clause ≡ clause = cc in
      let each = All-weaker (IsAgainstOne s s.terms.nodes log.entries) (λ k. is_blamed k ≡ true) against_there h.clause (All-from_recursion (IsAgainstOne s s.terms.nodes log.entries) h.clause h.against) in
      let told : list_all is_blamed clause ≡ true = ap (list_all is_blamed) (sym same) ∙ list_all-from_AllPass is_blamed h.clause each in
      let f : ⊥ = cc in f

  -- no clause
  pub no_refuted : (p : ℕ) → clause_at log.clauses (record { pos = p; part = 0 }) ≡ None → IsRefutation s s.terms.nodes log.entries p → ⊥
  no_refuted p e h =
      let at : clause_at log.clauses (record { pos = p; part = 0 }) ≡ Some h.clause = ap (λ rows. clause_at rows (record { pos = p; part = 0 })) kept.clauses ∙ h.stands in
      let f : ⊥ = cc in f

  -- the literals of a clause are tested one by one
  pub refutation_told : (p : ℕ) (clause : List Literal) (live : List Live) (asked : List Asked) (first test : ℕ → Bool) (b : Bool) → live ≡ s.scopes.live → asked ≡ assumptions s
      → ((q : ℕ) → first q ≡ list_any (λ a. is_against log.base.selectors a q) live) → ((q : ℕ) → test q ≡ (first q || list_any (λ a. is_against_bit log.base.bits a q) asked))
      → clause_at log.clauses (record { pos = p; part = 0 }) ≡ Some clause → b ≡ list_all (λ l. test (code_of l)) clause
      → MatchBool b (IsRefutation s s.terms.nodes log.entries p) (IsRefutation s s.terms.nodes log.entries p → ⊥)
  refutation_told p clause live asked first test b same assumed firsts tests e told =
      let agree = λ (l : Literal).
      tests (code_of l)
      ∙ ap₂ (λ x y. x || y) (firsts (code_of l) ∙ ap (λ ls. list_any (λ a. is_against log.base.selectors a (code_of l)) ls) same) (ap (λ ls. list_any (λ a. is_against_bit log.base.bits a (code_of l)) ls) assumed) in
      let all : b ≡ list_all is_blamed clause = told ∙ ap (λ (f : Literal → Bool). list_all f clause) (λ i l. agree l i) in
      go b (sym all)
    where
      go : (b : Bool) → list_all is_blamed clause ≡ b → MatchBool b (IsRefutation s s.terms.nodes log.entries p) (IsRefutation s s.terms.nodes log.entries p → ⊥)
      go true h = is_refuted p clause e h
      go false h = not_refuted p clause e h
