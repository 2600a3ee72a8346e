-- An interpretation that a search found is a model.
use Rattle.std.proofs.Common.{◌≡◌, ℕ, zero, suc, Bool, true, false, not, ◌||◌, List, [], ◌∷◌, ◌++◌, length, map, get_or, Some, refl, sym, ap, ◌∙◌, subst, arith}
use Rattle.std.specs.Prelude.{Contains, slice_get}
use Rattle.std.proofs.lemmas.List.Elements.{Contains-append_left, Contains-append_right, Contains-get_or}
use Rattle.cnf_base.specs.Literals.{Literal, positive_of}
use Rattle.cnf_base.specs.Clauses.{lit_true, clause_true}
use Rattle.cnf_base.specs.declared.clause.ClauseId.{ClauseId}
use Rattle.cnf_base.proofs.Lists.{slice_get-push, Contains-map}
use Rattle.cnf_base.proofs.Options.{same_found}
use Rattle.smt_terms.specs.declared.node.Node.{Node}
use Rattle.smt_terms.specs.Bits.{bits_in}
use Rattle.smt_terms.specs.Values.{Interpretation, is_true, value}
use Rattle.scope_selectors.specs.declared.live.Live.{Live}
use Rattle.script_state.specs.declared.answer.Asked.{Asked}
use Rattle.script_state.specs.States.{StateValue, assumptions, roots}
use Rattle.proof_log.specs.declared.entry.Entry.{Entry}
use Rattle.proof_log.specs.declared.entry.Entry.TheVariants as step
use Rattle.proof_log.specs.Assigned.{IsTrueAt}
use Rattle.proof_log.specs.Logs.{Asserted, LogState, start, clause_in, clause_at, entry_at, IsSelector, selector_clause, selector_after, state_from, state_of, IsLog}
use Rattle.proof_log.specs.Stored.{LogValue, IsKept, Stands}
use Rattle.proof_log.proofs.Ordered.{steps_length}
use Rattle.proof_log.proofs.Staying.{Holds, state_from-append, steps_parts, steps_hold}
use Rattle.proof_log.proofs.Standing.{stands_over, value_here}
use Rattle.accepted_proof.specs.Models.{IsModel}
use Rattle.written_models.specs.Found.{IsSelected, IsFound}

-- ---- the log before a step and behind it

record Parts (log : List Entry) (p : ℕ) (e : Entry) : Type 0 where
  pub before : List Entry
  pub more : List Entry
  pub whole : log ≡ before ++ e ∷ more
  pub place : p ≡ suc (length before)

parts : (log : List Entry) (p : ℕ) (e : Entry) → entry_at log p ≡ Some e → Parts log p e
parts log zero e h = let q : ⊥ = cc in absurd q
parts [] (suc p) e h = let q : ⊥ = cc in absurd q
parts (x ∷ log) (suc zero) e h = let q : x ≡ e = cc in record { before = []; more = log; whole = ap (λ y. y ∷ log) q; place = refl }
parts (x ∷ log) (suc (suc p)) e h =
    let k = parts log (suc p) e h in
    record { before = x ∷ k.before; more = k.more; whole = ap (λ l. x ∷ l) k.whole; place = ap suc k.place }

-- a clause of the last position, by its name
last_clause : (rows : List (List (List Literal))) (row : List (List Literal)) (k : ℕ) → clause_at (rows ++ row ∷ []) (record { pos = length rows; part = k }) ≡ slice_get row k
last_clause rows row k = ap (λ o. clause_in o k) (slice_get-push rows row)

-- ---- selectors

-- a selector that is true implies its bit
implied : (p q : Bool) → (not p || (q || false)) ≡ true → p ≡ true → q ≡ true
implied true true h e = refl
implied true false h e = h
implied false q h e = let r : ⊥ = cc in absurd r

-- the bit of the term of a selector is true where the selector and its clause are
record HasTrueBit (log : LogValue) (v : ℕ → Bool) (t : ℕ) : Type 0 where
  pub bit : Literal
  pub bits : bits_in log.bits t ≡ Some (bit ∷ [])
  pub holds : lit_true v bit ≡ true

module _ (nodes : List Node) (log : LogValue) (kept : IsKept nodes log) (v : ℕ → Bool) (a t p : ℕ) (e : entry_at log.entries p ≡ Some (step.Selector a t)) (clauses : IsTrueAt log v p)
    (r : Asserted) (made : (state_of nodes log.entries).selectors a ≡ Some r) (holds : lit_true v r.literal ≡ true) where
  k : Parts log.entries p (step.Selector a t)
  k = parts log.entries p (step.Selector a t) e

  abbrev s : LogState
  s = state_of nodes k.before

  split : IsSelector nodes s a t × Holds s (state_of nodes log.entries) × Holds (selector_after s a t (s.bits t)) (state_of nodes log.entries)
  split =
      let whole : IsLog nodes (k.before ++ step.Selector a t ∷ k.more) = subst (IsLog nodes) k.whole kept.steps in
      let apart = steps_parts nodes start k.before (step.Selector a t ∷ k.more) whole in
      let all : state_of nodes log.entries ≡ state_from nodes s (step.Selector a t ∷ k.more) = ap (state_of nodes) k.whole ∙ state_from-append nodes start k.before (step.Selector a t ∷ k.more) in
      (apart.1.0, subst (Holds s) (sym all) (steps_hold nodes s (step.Selector a t ∷ k.more) apart.1), subst (Holds (selector_after s a t (s.bits t))) (sym all) (steps_hold nodes (selector_after s a t (s.bits t)) k.more apart.1.1))

  abbrev i : IsSelector nodes s a t
  i = split.0

  behind : Holds (selector_after s a t (Some (i.bit ∷ []))) (state_of nodes log.entries)
  behind = subst (λ o. Holds (selector_after s a t o) (state_of nodes log.entries)) i.encoded split.2

  abbrev own : Asserted
  own = record { literal = positive_of s.next; term = t }

  same : own ≡ r
  same = same_found ((state_of nodes log.entries).selectors a) own r (behind.selectors a own (value_here s.selectors a own)) made

  clause : clause_true v (selector_clause s.next i.bit) ≡ true
  clause =
      let row : List (List Literal) = selector_clause s.next i.bit ∷ [] in
      let id : ClauseId = record { pos = length s.clauses; part = 0 } in
      let place : p ≡ length s.clauses = k.place ∙ sym (steps_length nodes start k.before ∙ omega arith) in
      let there : clause_at log.clauses id ≡ Some (selector_clause s.next i.bit) = ap (λ x. clause_at x id) kept.clauses ∙ behind.clauses id (selector_clause s.next i.bit) (last_clause s.clauses row 0) in
      clauses 0 (selector_clause s.next i.bit) (ap (λ q. clause_at log.clauses (record { pos = q; part = 0 })) place ∙ there)

  bit_holds : HasTrueBit log v r.term
  bit_holds =
      let chosen : v s.next ≡ true = subst (λ (x : Asserted). lit_true v x.literal ≡ true) (sym same) holds in
      subst (λ (x : Asserted). HasTrueBit log v x.term) same (record {
        bit = i.bit;
        bits = kept.bits t ∙ split.1.bits t (i.bit ∷ []) i.encoded;
        holds = implied (v s.next) (lit_true v i.bit) clause chosen;
      })

selected_bit : (nodes : List Node) (log : LogValue) (v : ℕ → Bool) (a : Live) → Stands nodes log → IsSelected nodes log v a → HasTrueBit log v a.term
selected_bit nodes log v a stands h =
    subst (HasTrueBit log v) h.term (bit_holds nodes log (stands_over nodes log stands) v a.assertion h.step.0 h.place h.step.1 h.clauses h.selector h.made h.holds)

-- ---- the model

abbrev term_of : Live → ℕ
term_of a = a.term

abbrev term_asked : Asked → ℕ
term_asked a = a.term

module _ (s : StateValue) (log : LogValue) (v : ℕ → Bool) (M : Interpretation) (stands : Stands s.terms.nodes log) (found : IsFound s log v M) where
  true_with : (t : ℕ) → Contains (roots s) t → HasTrueBit log v t → is_true (value M s.terms.nodes t) ≡ true
  true_with t in_it h = ap is_true (found.values t h.bit in_it h.bits) ∙ h.holds

  pub found_model : IsModel s M
  found_model = record {
    asserted = λ k a lt.
        (let live = s.scopes.live in
        let x = get_or live k a in
        let in_it = Contains-append_left (map term_of live) (map term_asked (assumptions s)) (term_of x) (Contains-map term_of live x (Contains-get_or live k a lt)) in
        true_with (term_of x) in_it (selected_bit s.terms.nodes log v x stands (found.selected k a lt)));
    assumed = λ k a lt.
        (let asked = assumptions s in
        let x = get_or asked k a in
        let g = found.given k a lt in
        let in_it = Contains-append_right (map term_of s.scopes.live) (map term_asked asked) (term_asked x) (Contains-map term_asked asked x (Contains-get_or asked k a lt)) in
        true_with (term_asked x) in_it (record { bit = g.bit; bits = g.bits; holds = g.holds }));
  }
