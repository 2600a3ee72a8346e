-- The record of the check that stands is a model, or a refutation, of what is live and what is assumed.
use Rattle.std.proofs.Common.{◌≡◌, ℕ, List, [], ◌∷◌, ◌++◌, refl, sym, ap, ◌∙◌, subst, inl, inr, Option, Some, None, append-nil}
use Rattle.std.specs.Prelude.{◌⊎◌, All}
use Rattle.smt_terms.specs.Terms.{TermsValue}
use Rattle.smt_terms.specs.Values.{Interpretation}
use Rattle.smt_values.specs.declared.value.Value.{Value}
use Rattle.scope_selectors.specs.Scopes.{ScopesValue}
use Rattle.script_state.specs.declared.answer.Answer.{Answer}
use Rattle.script_state.specs.declared.answer.Answer.TheVariants as answer
use Rattle.script_state.specs.declared.answer.Asked.{Asked}
use Rattle.script_state.specs.declared.answer.Verdict.{Verdict}
use Rattle.script_state.specs.declared.answer.Verdict.TheVariants as verdict
use Rattle.script_state.specs.Readings.{Reading}
use Rattle.script_state.specs.States.{StateValue, IsState, all_asked, no_state}
use Rattle.script_state.specs.Steps.{Step, step, settled}
use Rattle.script_state.proofs.Cases.{of_step}
use Rattle.proof_log.specs.declared.entry.Entry.{Entry}
use Rattle.proof_log.specs.Logs.{state_of}
use Rattle.proof_text.specs.declared.record.Record.{Record}
use Rattle.proof_text.specs.declared.record.Record.TheVariants as shown
use Rattle.accepted_proof.specs.Models.{Holds, HoldsAssumed, interpretation_of, IsWrittenModel}
use Rattle.accepted_proof.specs.Searching.{Limits}
use Rattle.accepted_proof.specs.Turns.{Turn, HasProof, IsTurn, AreTurns, IsRefutation, with_steps, concluded_by, state_after}
use Rattle.accepted_proof.specs.Answers.{last_shown}
use Rattle.accepted_proof.specs.Right.{HasModel, IsPrinted, ArePrinted}
use Rattle.accepted_proof.specs.Cores.{refuting_clause}
use Rattle.accepted_proof.proofs.Following.{model_in, refutation_in, same_assumed, same_scopes, shown_on}
use Rattle.accepted_proof.proofs.Reaching.{IsReached, reached_by_command, reached_first}
use Rattle.accepted_proof.proofs.Answering.{reached_by_turn}
use Rattle.accepted_proof.proofs.Good.{states_keep}
use Rattle.accepted_proof.proofs.Refuting.{core_refuted, assumptions_refuted}

-- the last check has a record of this verdict, which is one of what is live and assumed now
abbrev StandsBy : Option Verdict → StateValue → List Entry → Option Record → Type 0
StandsBy None s log last = Unit {0}
StandsBy (Some verdict.Sat) s log last = HasModel s last
StandsBy (Some verdict.Unsat) s log last = (p : ℕ) × (last ≡ Some (shown.Unsat p)) × IsRefutation s s.terms.nodes log p
StandsBy (Some verdict.Unknown) s log last = Unit {0}

abbrev Stands : StateValue → List Entry → Option Record → Type 0
Stands s log last = StandsBy s.standing s log last

-- ---- commands

-- all but the options is the same
record IsSame (s u : StateValue) : Type 0 where
  pub symbols : s.symbols ≡ u.symbols
  pub terms : s.terms ≡ u.terms
  pub scopes : s.scopes ≡ u.scopes
  pub assumed : s.assumed ≡ u.assumed
  pub standing : u.standing ≡ s.standing

-- what is printed is asked for where a check stands that has it
abbrev IsAnswered : Answer → Option Verdict → Type 0
IsAnswered answer.Model o = o ≡ Some verdict.Sat
IsAnswered (answer.Values asked) o = o ≡ Some verdict.Sat
IsAnswered answer.Core o = o ≡ Some verdict.Unsat
IsAnswered answer.Assumptions o = o ≡ Some verdict.Unsat
IsAnswered answer.Done o = Unit {0}
IsAnswered (answer.Refused e) o = Unit {0}
IsAnswered answer.Check o = Unit {0}
IsAnswered (answer.Says text) o = Unit {0}
IsAnswered answer.Exit o = Unit {0}

-- once the command is answered, no check stands, or all that it was made of does
record Falls (s : StateValue) (to : Step) : Type 0 where
  pub check : ((settled s to.0 to.1).standing ≡ None) ⊎ IsSame s (settled s to.0 to.1)
  pub answered : IsAnswered to.0 s.standing

same_as : (s : StateValue) → IsSame s s
same_as s = record { symbols = refl; terms = refl; scopes = refl; assumed = refl; standing = refl }

falls : (s : StateValue) (r : Reading) → Falls s (step s r)
falls s r = of_step s (Falls s) (record {
  refused = λ e. record { check = inr (same_as s); answered = tt };
  kept = record { check = inr (same_as s); answered = tt };
  checked = λ fit. record { check = inl refl; answered = tt };
  declared = λ n es d w e. record { check = inl refl; answered = tt };
  named = λ n es w e. record { check = inl refl; answered = tt };
  defined = λ n es w t e. record { check = inl refl; answered = tt };
  asserted = λ name x t v w e o. record { check = inl refl; answered = tt };
  assumed = λ tokens es asked w e fit. record { check = inl refl; answered = tt };
  said = λ x. record { check = inr (same_as s); answered = tt };
  set = λ o. record { check = inr (record { symbols = refl; terms = refl; scopes = refl; assumed = refl; standing = refl }); answered = tt };
  begun = λ n v e. record { check = inl refl; answered = tt };
  ended = λ n v e. record { check = inl refl; answered = tt };
  emptied = λ o. record { check = inl refl; answered = tt };
  modelled = λ a b. record { check = inr (same_as s); answered = a };
  valued = λ tokens es asked w e a b. record { check = inr (same_as s); answered = a };
  refuted = λ a b. record { check = inr (same_as s); answered = a };
  refuted_assumed = λ asked a b c. record { check = inr (same_as s); answered = a };
}) r (λ e. record { check = inr (same_as s); answered = tt })

same_model : (s u : StateValue) (values : List (ℕ × Value)) → IsSame s u → IsWrittenModel s values → IsWrittenModel u values
same_model s u values e h = model_in s u values e.symbols (record { asserted = asserted; assumed = assumed }) h where
  M : Interpretation
  M = interpretation_of values

  asserted : All (Holds u.terms.nodes M) u.scopes.live
  asserted =
      subst (λ (v : TermsValue). All (Holds v.nodes M) u.scopes.live) e.terms
      (subst (λ (v : ScopesValue). All (Holds s.terms.nodes M) v.live) e.scopes h.model.asserted)

  assumed : All (HoldsAssumed u.terms.nodes M) (all_asked u.assumed)
  assumed =
      subst (λ (v : TermsValue). All (HoldsAssumed v.nodes M) (all_asked u.assumed)) e.terms
      (subst (λ (o : Option (List Asked)). All (HoldsAssumed s.terms.nodes M) (all_asked o)) e.assumed h.model.assumed)

same_refutation : (s u : StateValue) (log : List Entry) (p : ℕ) → IsSame s u → IsRefutation s s.terms.nodes log p → IsRefutation u u.terms.nodes log p
same_refutation s u log p e h = subst (λ (v : TermsValue). IsRefutation u v.nodes log p) e.terms (refutation_in s u e.scopes e.assumed s.terms.nodes log p h)

stands_same : (o : Option Verdict) (s u : StateValue) (log : List Entry) (last : Option Record) → IsSame s u → StandsBy o s log last → StandsBy o u log last
stands_same None s u log last e h = tt
stands_same (Some verdict.Sat) s u log last e h = (h.0, h.1, same_model s u h.0 e h.2)
stands_same (Some verdict.Unsat) s u log last e h = (h.0, h.1, same_refutation s u log h.0 e h.2)
stands_same (Some verdict.Unknown) s u log last e h = tt

stands_on : (s u : StateValue) (log : List Entry) (last : Option Record) → (u.standing ≡ None) ⊎ IsSame s u → Stands s log last → Stands u log last
stands_on s u log last (inl e) h = subst (λ o. StandsBy o u log last) (sym e) tt
stands_on s u log last (inr e) h = subst (λ o. StandsBy o u log last) (sym e.standing) (stands_same s.standing s u log last e h)

-- ---- checks

-- no steps and no record
unchecked : (state : List Entry → Option Record → StateValue) (log steps : List Entry) (o last : Option Record) → (steps ≡ []) × (o ≡ None) → Stands (state [] None) log last → Stands (state steps o) (log ++ steps) (last_shown last o)
unchecked state log steps o last e h =
    subst (λ x. Stands (state x o) (log ++ x) (last_shown last o)) (sym e.0)
    (subst (λ x. Stands (state [] x) (log ++ []) (last_shown last x)) (sym e.1)
    (subst (λ l. Stands (state [] None) l last) (sym (append-nil log)) h))

stands_after : (limits : Limits) (a : Answer) (old s : StateValue) (log steps : List Entry) (o last : Option Record) → IsState s → HasProof limits a s log steps o → Stands (settled old a s) log last → Stands (settled old a (concluded_by (with_steps s steps) o)) (log ++ steps) (last_shown last o)
stands_after limits answer.Done old s log steps o last is h k = unchecked (λ x r. concluded_by (with_steps s x) r) log steps o last h k
stands_after limits (answer.Refused e) old s log steps o last is h k = unchecked (λ x r. concluded_by (with_steps s x) r) log steps o last h k
stands_after limits (answer.Says text) old s log steps o last is h k = unchecked (λ x r. concluded_by (with_steps s x) r) log steps o last h k
stands_after limits answer.Model old s log steps o last is h k = unchecked (λ x r. concluded_by (with_steps s x) r) log steps o last h k
stands_after limits (answer.Values asked) old s log steps o last is h k = unchecked (λ x r. old) log steps o last h k
stands_after limits answer.Core old s log steps o last is h k = unchecked (λ x r. concluded_by (with_steps s x) r) log steps o last h k
stands_after limits answer.Assumptions old s log steps o last is h k = unchecked (λ x r. concluded_by (with_steps s x) r) log steps o last h k
stands_after limits answer.Exit old s log steps o last is h k = unchecked (λ x r. concluded_by (with_steps s x) r) log steps o last h k
stands_after limits answer.Check old s log steps None last is h k = absurd h
stands_after limits answer.Check old s log steps (Some (shown.Unsat p)) last is h k =
    let new = with_steps s steps in
    (p, refl, refutation_in s (concluded_by new (Some (shown.Unsat p))) (sym (same_scopes s steps)) (sym (same_assumed s steps)) new.terms.nodes (log ++ steps) p h.1)
stands_after limits answer.Check old s log steps (Some (shown.Unknown d)) last is h k = tt
stands_after limits answer.Check old s log steps (Some (shown.Sat values)) last is h k =
    let m = shown_on IsState states_keep limits s log steps (with_steps s steps).terms.nodes (log ++ steps) (shown.Sat values) is h.0 h.1 in
    (values, refl, record { listed = m.1.listed; sorted = m.1.sorted; model = record { asserted = m.1.model.asserted; assumed = m.1.model.assumed } })

-- ---- turns

module _ (s : StateValue) (log : List Entry) (last : Option Record) (reached : IsReached s log) (h : Stands s log last) where
  has_model : s.standing ≡ Some verdict.Sat → HasModel s last
  has_model e = subst (λ o. StandsBy o s log last) e h

  has_refutation : s.standing ≡ Some verdict.Unsat → (p : ℕ) × (last ≡ Some (shown.Unsat p)) × IsRefutation s s.terms.nodes log p
  has_refutation e = subst (λ o. StandsBy o s log last) e h

  printed : (a : Answer) → IsAnswered a s.standing → IsPrinted s log last a
  printed answer.Model e = has_model e
  printed (answer.Values asked) e = has_model e
  printed answer.Core e =
      let r = has_refutation e in
      (r.2.clause, ap (refuting_clause (state_of s.terms.nodes log)) r.1 ∙ r.2.stands, core_refuted s log reached r.0 r.2)
  printed answer.Assumptions e =
      let r = has_refutation e in
      (r.2.clause, ap (refuting_clause (state_of s.terms.nodes log)) r.1 ∙ r.2.stands, assumptions_refuted s log reached r.0 r.2)
  printed answer.Done e = tt
  printed (answer.Refused x) e = tt
  printed (answer.Says text) e = tt
  printed answer.Exit e = tt
  printed answer.Check e = tt

-- what a turn prints is right, and the record of its check stands
module _ (limits : Limits) (s : StateValue) (log : List Entry) (last : Option Record) (t : Turn) (reached : IsReached s log) (h : Stands s log last) (turn : IsTurn limits s log t) where
  -- the command is one that is answered so
  one : Falls s (t.answer, (step s t.says).1)
  one = subst (λ a. Falls s (a, (step s t.says).1)) (sym turn.answer) (falls s t.says)

  turn_printed : IsPrinted s log last t.answer
  turn_printed = printed s log last reached h t.answer one.answered

  turn_stands : Stands (state_after s t) (log ++ t.steps) (last_shown last t.shown)
  turn_stands =
      let new = (step s t.says).1 in
      stands_after limits t.answer s new log t.steps t.shown last (reached_by_command s log t.says reached).state turn.proof
      (stands_on s (settled s t.answer new) log last one.check h)

turns_printed : (limits : Limits) (turns : List Turn) (s : StateValue) (log : List Entry) (last : Option Record) → IsReached s log → Stands s log last → AreTurns limits s log turns → ArePrinted s log last turns
turns_printed limits [] s log last reached h are = tt
turns_printed limits (t ∷ ts) s log last reached h are = (
  turn_printed limits s log last t reached h are.0,
  turns_printed limits ts (state_after s t) (log ++ t.steps) (last_shown last t.shown) (reached_by_turn limits s log t reached are.0) (turn_stands limits s log last t reached h are.0) are.1,
)

pub first_turns_printed : (limits : Limits) (turns : List Turn) → AreTurns limits no_state [] turns → ArePrinted no_state [] None turns
first_turns_printed limits turns are = turns_printed limits turns no_state [] None reached_first tt are
