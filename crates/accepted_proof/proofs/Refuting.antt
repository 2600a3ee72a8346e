-- A refutation leaves no model of what its clause blames.
use Rattle.std.proofs.Common.{◌≡◌, ℕ, ◌<◌, Bool, true, false, List, [], ◌∷◌, ◌++◌, length, get_or, refl, sym, ap, ◌∙◌, subst, inl, inr, Option, Some}
use Rattle.std.specs.Prelude.{◌||◌, not, is_some, All, filter, slice_get, if◌then◌else◌, ◌==◌}
use Rattle.std.specs.List.{AllByRecursion}
use Rattle.std.proofs.Math.Bool.{or-true}
use Rattle.std.proofs.lemmas.Bool.{false≢true, eq-eqb}
use Rattle.std.proofs.lemmas.List.Elements.{All-contains, All-cons, All-head, All-nil, All-tail}
use Rattle.cnf_base.specs.Literals.{Literal, negated, code_of}
use Rattle.cnf_base.specs.Clauses.{lit_true, clause_true}
use Rattle.smt_terms.specs.declared.sort.Sort.{Sort}
use Rattle.smt_terms.specs.declared.sort.Sort.TheVariants as sort
use Rattle.smt_terms.specs.Values.{Interpretation, is_true, value}
use Rattle.smt_terms.proofs.Evaluating.{value_longer}
use Rattle.bit_blast.specs.Meanings.{AreBitsOf}
use Rattle.scope_selectors.specs.declared.live.Live.{Live}
use Rattle.scope_selectors.specs.Cores.{stands}
use Rattle.scope_selectors.specs.Scopes.{ScopesValue}
use Rattle.script_state.specs.declared.answer.Asked.{Asked}
use Rattle.script_state.specs.States.{StateValue, IsAssumption, all_asked, assumptions}
use Rattle.proof_log.specs.declared.entry.Entry.{Entry}
use Rattle.proof_log.specs.Logs.{LogState, state_of}
use Rattle.proof_log.specs.Meanings.{meaning}
use Rattle.proof_log.proofs.Sound.{log_is_sound}
use Rattle.proof_log.proofs.Ordered.{log_is_ordered}
use Rattle.accepted_proof.specs.Models.{Holds, HoldsAssumed, IsModel, HasNoModel}
use Rattle.accepted_proof.specs.Turns.{IsAgainst, IsAgainstAssumed, IsAgainstOne, IsRefutation, with_steps, AreStepsOf}
use Rattle.accepted_proof.specs.Cores.{negation_stands, bit_stands, is_blamed, is_blamed_assumption, is_in_core, IsCore, AreUnsatAssumptions}
use Rattle.accepted_proof.proofs.Following.{refutation_in}
use Rattle.accepted_proof.proofs.Reaching.{IsReached, Stay, reached_by_steps, steps_stay}

-- ---- clauses

negated_false : (f : ℕ → Bool) (l : Literal) → lit_true f l ≡ true → lit_true f (negated l) ≡ false
negated_false f l h = go l.positive (f l.variable) h where
  go : (p b : Bool) → (if p then b else not b) ≡ true → (if not p then b else not b) ≡ false
  go true true e = refl
  go true false e = absurd (false≢true e)
  go false true e = absurd (false≢true e)
  go false false e = refl

-- a clause of false literals is false
none_true : (f : ℕ → Bool) (clause : List Literal) → AllByRecursion (λ l. lit_true f l ≡ false) clause → clause_true f clause ≡ false
none_true f [] h = refl
none_true f (l ∷ ls) h = rw (h.0, none_true f ls h.1) refl

-- each literal of a clause stands in it
stands_here : (l : Literal) (ls : List Literal) → stands (l ∷ ls) l ≡ true
stands_here l ls = rw (eq-eqb (code_of l) (code_of l) refl) refl

stands_behind : (k : Literal) (ls c : List Literal) → AllByRecursion (λ l. stands ls l ≡ true) c → AllByRecursion (λ l. stands (k ∷ ls) l ≡ true) c
stands_behind k ls [] h = tt
stands_behind k ls (l ∷ c) h = (ap (λ b. (code_of k == code_of l) || b) h.0 ∙ or-true (code_of k == code_of l), stands_behind k ls c h.1)

all_stand : (clause : List Literal) → AllByRecursion (λ l. stands clause l ≡ true) clause
all_stand [] = tt
all_stand (l ∷ ls) = (stands_here l ls, stands_behind l ls ls (all_stand ls))

-- what holds of the elements that pass a test holds of each that passes it
passed_by : {X : Type 0} (test : X → Bool) (P : X → Type 0) (xs : List X) → All P (filter test xs) → All (λ x. test x ≡ true → P x) xs
passed_by test P [] h = All-nil (λ x. test x ≡ true → P x)
passed_by test P (x ∷ xs) h = go (passed_by test P xs) (test x) refl h where
  go : (All P (filter test xs) → All (λ y. test y ≡ true → P y) xs) → (b : Bool) → test x ≡ b → All P (if b then x ∷ filter test xs else filter test xs) → All (λ y. test y ≡ true → P y) (x ∷ xs)
  go behind true e k = All-cons (λ y. test y ≡ true → P y) x xs (λ f. All-head P x (filter test xs) k) (behind (All-tail P x (filter test xs) k))
  go behind false e k = All-cons (λ y. test y ≡ true → P y) x xs (λ f. absurd (false≢true (sym e ∙ f))) (behind k)

some_known : (a b : ℕ) → ◌≡◌ {A = Option ℕ} (Some a) (Some b) → a ≡ b
some_known a b e = cc

-- ---- what a clause blames

module _ (s : StateValue) (log : List Entry) (reached : IsReached s log) where
  abbrev has : LogState
  has = state_of s.terms.nodes log

  module _ (M : Interpretation) where
    abbrev meant : ℕ → Bool
    meant = meaning M s.terms.nodes log

    -- the selector of a live assertion that is true is true
    against_false : (l : Literal) → (h : IsAgainst s s.terms.nodes log l) → Holds s.terms.nodes M h.assertion → lit_true meant l ≡ false
    against_false l h truth =
        let sound = log_is_sound s.terms.nodes log reached.state.terms reached.steps in
        let ordered = log_is_ordered s.terms.nodes log reached.state.terms reached.steps in
        let made = reached.selectors h.assertion.assertion h.selector.term (ordered.selectors h.assertion.assertion h.selector h.made).2 in
        let known = All-contains (λ (a : Live). slice_get s.scopes.terms a.assertion ≡ Some a.term) s.scopes.live h.assertion reached.state.scopes.known h.live in
        let term : h.selector.term ≡ h.assertion.term = some_known _ _ (sym made ∙ known) in
        let selected : lit_true meant h.selector.literal ≡ true = sound.selectors M h.assertion.assertion h.selector h.made ∙ ap (λ t. is_true (value M s.terms.nodes t)) term ∙ truth in
        subst (λ k. lit_true meant k ≡ false) (sym h.negation) (negated_false meant h.selector.literal selected)

    -- and so is the bit of an assumption that is true
    assumed_false : (l : Literal) → (h : IsAgainstAssumed s s.terms.nodes log l) → HoldsAssumed s.terms.nodes M h.assumption → lit_true meant l ≡ false
    assumed_false l h truth =
        let sound = log_is_sound s.terms.nodes log reached.state.terms reached.steps in
        let one = All-contains (IsAssumption s.terms.nodes s.symbols.live) (assumptions s) h.assumption reached.state.assumed h.assumed in
        let bits : AreBitsOf meant sort.Bool (h.bit ∷ []) (value M s.terms.nodes h.assumption.term) = subst (λ (x : Sort). AreBitsOf meant x (h.bit ∷ []) (value M s.terms.nodes h.assumption.term)) one.truth (sound.bits M h.assumption.term (h.bit ∷ []) h.bits) in
        let same : h.bit ≡ bits.0 = cc in
        let selected : lit_true meant h.bit ≡ true = ap (lit_true meant) same ∙ sym (ap is_true bits.2) ∙ truth in
        subst (λ k. lit_true meant k ≡ false) (sym h.negation) (negated_false meant h.bit selected)

    -- where all is true that the clause blames, none of its literals is
    module _ (clause : List Literal)
        (asserted : All (λ (a : Live). is_blamed has clause a ≡ true → Holds s.terms.nodes M a) s.scopes.live)
        (assumed : All (λ (a : Asked). is_blamed_assumption has clause a ≡ true → HoldsAssumed s.terms.nodes M a) (assumptions s)) where
      one_false : (l : Literal) → stands clause l ≡ true → IsAgainstOne s s.terms.nodes log l → lit_true meant l ≡ false
      one_false l e (inl h) =
          let blamed : is_blamed has clause h.assertion ≡ true = ap (negation_stands clause) h.made ∙ ap (stands clause) (sym h.negation) ∙ e in
          against_false l h (All-contains (λ (a : Live). is_blamed has clause a ≡ true → Holds s.terms.nodes M a) s.scopes.live h.assertion asserted h.live blamed)
      one_false l e (inr h) =
          let blamed : is_blamed_assumption has clause h.assumption ≡ true = ap (bit_stands clause) h.bits ∙ ap (stands clause) (sym h.negation) ∙ e in
          assumed_false l h (All-contains (λ (a : Asked). is_blamed_assumption has clause a ≡ true → HoldsAssumed s.terms.nodes M a) (assumptions s) h.assumption assumed h.assumed blamed)

      all_false : (c : List Literal) → AllByRecursion (λ l. stands clause l ≡ true) c → AllByRecursion (IsAgainstOne s s.terms.nodes log) c → AllByRecursion (λ l. lit_true meant l ≡ false) c
      all_false [] e h = tt
      all_false (l ∷ ls) e h = (one_false l e.0 h.0, all_false ls e.1 h.1)

  module _ (p : ℕ) (h : IsRefutation s s.terms.nodes log p) (M : Interpretation) where
    none_blamed : All (λ (a : Live). is_blamed has h.clause a ≡ true → Holds s.terms.nodes M a) s.scopes.live → All (λ (a : Asked). is_blamed_assumption has h.clause a ≡ true → HoldsAssumed s.terms.nodes M a) (assumptions s) → ⊥
    none_blamed asserted assumed =
        let sound = log_is_sound s.terms.nodes log reached.state.terms reached.steps in
        let none = all_false M h.clause asserted assumed h.clause (all_stand h.clause) h.against in
        false≢true (sym (none_true (meant M) h.clause none) ∙ sound.clauses (record { pos = p; part = 0 }) h.clause h.stands M)

    refuted_here : IsModel s M → ⊥
    refuted_here model = none_blamed (λ k d lt e. model.asserted k d lt) (λ k d lt e. model.assumed k d lt)

  -- ---- cores

  -- what is blamed is in the core
  in_core : (clause : List Literal) (a : Live) → is_blamed has clause a ≡ true → is_in_core has clause a ≡ true
  in_core clause a e = ap (λ b. not (is_some a.name) || b) e ∙ or-true (not (is_some a.name))

  pub core_refuted : (p : ℕ) → (h : IsRefutation s s.terms.nodes log p) → IsCore s has h.clause
  core_refuted p h M asserted assumed =
      let all = passed_by (is_in_core has h.clause) (Holds s.terms.nodes M) s.scopes.live asserted in
      none_blamed p h M (λ k d lt e. all k d lt (in_core h.clause (get_or s.scopes.live k d) e)) (λ k d lt e. assumed k d lt)

  pub assumptions_refuted : (p : ℕ) → (h : IsRefutation s s.terms.nodes log p) → AreUnsatAssumptions s has h.clause
  assumptions_refuted p h M asserted assumed =
      none_blamed p h M (λ k d lt e. asserted k d lt) (passed_by (is_blamed_assumption has h.clause) (HoldsAssumed s.terms.nodes M) (assumptions s) assumed)

-- ---- checks

-- a model stays one over more terms
model_longer : (s new : StateValue) (M : Interpretation) → Stay s new → All (λ (a : Live). a.term < length s.terms.nodes) s.scopes.live → All (IsAssumption s.terms.nodes s.symbols.live) (assumptions s) → IsModel s M → IsModel new M
model_longer s new M stay held plain model = record {
  asserted = subst (λ (v : ScopesValue). All (Holds new.terms.nodes M) v.live) (sym stay.scopes) asserted;
  assumed = subst (λ (o : Option (List Asked)). All (HoldsAssumed new.terms.nodes M) (all_asked o)) (sym stay.assumed) assumed;
} where
  asserted : All (Holds new.terms.nodes M) s.scopes.live
  asserted k d lt = rw stay.nodes (ap is_true (value_longer M s.terms.nodes stay.behind (get_or s.scopes.live k d).term (held k d lt)) ∙ model.asserted k d lt)

  assumed_held : (k : ℕ) (d : Asked) → k < length (assumptions s) → (get_or (assumptions s) k d).term < length s.terms.nodes
  assumed_held k d lt = let one : IsAssumption s.terms.nodes s.symbols.live (get_or (assumptions s) k d) = plain k d lt in one.held

  assumed : All (HoldsAssumed new.terms.nodes M) (assumptions s)
  assumed k d lt = rw stay.nodes (ap is_true (value_longer M s.terms.nodes stay.behind (get_or (assumptions s) k d).term (assumed_held k d lt)) ∙ model.assumed k d lt)

-- where the steps of a check end with a refutation, the live assertions have no model under the assumptions
pub refuted : (s : StateValue) (log steps : List Entry) (p : ℕ) → IsReached s log → AreStepsOf s log steps → IsRefutation s (with_steps s steps).terms.nodes (log ++ steps) p → HasNoModel s
refuted s log steps p reached are refutation M model =
    let new = with_steps s steps in
    let stay = steps_stay s steps in
    let here = refutation_in s new (sym stay.scopes) (sym stay.assumed) new.terms.nodes (log ++ steps) p refutation in
    refuted_here new (log ++ steps) (reached_by_steps s log steps reached are) p here M (model_longer s new M stay reached.state.held reached.state.assumed model)
