-- States and logs that turns lead to.
use Rattle.std.proofs.Common.{◌≡◌, ℕ, List, [], ◌∷◌, ◌++◌, refl, sym, ap, ◌∙◌, subst, ⊎_elim, arith, append_assoc, append-nil, Option, Some, None}
use Rattle.std.specs.Prelude.{Contains, slice_get}
use Rattle.std.proofs.lemmas.List.Elements.{Contains-append_cases}
use Rattle.script_state.specs.Readings.{Reading}
use Rattle.smt_terms.specs.declared.node.Node.{Node}
use Rattle.smt_terms.specs.Terms.{TermsValue, IsTermList}
use Rattle.script_state.specs.States.{StateValue, IsState, no_state}
use Rattle.script_state.specs.Steps.{step}
use Rattle.script_state.proofs.Asserting.{grown_state, standing_state}
use Rattle.script_state.proofs.Keeping.{step_goes_on}
use Rattle.script_state.proofs.Leveling.{first_state}
use Rattle.proof_log.specs.declared.entry.Entry.{Entry}
use Rattle.proof_log.specs.declared.entry.Entry.TheVariants as entry
use Rattle.proof_log.specs.Logs.{start, state_of, IsStep, IsLog}
use Rattle.proof_log.specs.Faults.{IsValid, terms_after}
use Rattle.proof_log.proofs.Staying.{log_over, steps_append}
use Rattle.proof_log.proofs.Settled.{valid_stands}
use Rattle.proof_text.specs.declared.record.Record.{Record}
use Rattle.accepted_proof.specs.Turns.{IsOfScript, with_step, with_steps, AreStepsOf, concluded_by, verdict_of}
use Rattle.accepted_proof.proofs.Good.{step_grows, step_list}
use Rattle.cnf_base.proofs.Lists.{Contains-one}

-- A state, a log over its terms, and selectors that mean the terms of their assertions.
pub record IsReached (s : StateValue) (log : List Entry) : Type 0 where
  pub state : IsState s
  pub steps : IsLog s.terms.nodes log
  pub selectors : (a t : ℕ) → Contains log (entry.Selector a t) → slice_get s.scopes.terms a ≡ Some t

-- a log is one over more terms
longer_log : (nodes more others : List Node) → IsTermList nodes → (log : List Entry) → others ≡ nodes ++ more → IsLog nodes log → IsLog others log
longer_log nodes more others terms log e h = subst (λ ns. IsLog ns log) (sym e) (log_over nodes more terms log h).steps

-- a command
pub reached_by_command : (s : StateValue) (log : List Entry) (says : Reading) → IsReached s log → IsReached (step s says).1 log
reached_by_command s log says h =
    let on = step_goes_on s h.state says in
    record {
      state = on.state;
      steps = longer_log s.terms.nodes on.keeps.behind (step s says).1.terms.nodes h.state.terms log on.keeps.nodes h.steps;
      selectors = λ a t c. on.keeps.assertions a t (h.selectors a t c);
    }

-- a check that stands
pub reached_by_record : (s : StateValue) (log : List Entry) (shown : Option Record) → IsReached s log → IsReached (concluded_by s shown) log
reached_by_record s log None h = h
reached_by_record s log (Some r) h = record { state = standing_state s (Some (verdict_of r)) h.state; steps = h.steps; selectors = h.selectors }

-- ---- steps of checks

pub terms_longer : (v : TermsValue) (e : Entry) → (more : List Node) × ((terms_after v e).nodes ≡ v.nodes ++ more)
terms_longer v (entry.Node n) = (n ∷ [], refl)
terms_longer v e = ([], sym (append-nil v.nodes))

module _ (s : StateValue) (log : List Entry) (h : IsReached s log) where
  log_by_step : (e : Entry) → IsValid s.terms (state_of s.terms.nodes log) e → IsLog (terms_after s.terms e).nodes (log ++ e ∷ [])
  log_by_step e valid =
      let more = terms_longer s.terms e in
      let over = log_over s.terms.nodes more.0 h.state.terms log h.steps in
      let stands : IsStep (s.terms.nodes ++ more.0) (state_of s.terms.nodes log) e = subst (λ ns. IsStep ns (state_of s.terms.nodes log) e) more.1 (valid_stands s.terms (state_of s.terms.nodes log) e valid) in
      let next : IsStep (s.terms.nodes ++ more.0) (state_of (s.terms.nodes ++ more.0) log) e = subst (λ r. IsStep (s.terms.nodes ++ more.0) r e) (sym over.state) stands in
      subst (λ ns. IsLog ns (log ++ e ∷ [])) (sym more.1) (steps_append (s.terms.nodes ++ more.0) start log (e ∷ []) over.steps (next, tt))

  selector_by_step : (e : Entry) → IsOfScript s e → (a t : ℕ) → Contains (e ∷ []) (entry.Selector a t) → slice_get s.scopes.terms a ≡ Some t
  selector_by_step e of a t c =
      let same : e ≡ entry.Selector a t = Contains-one e (entry.Selector a t) c in
      let of_script : IsOfScript s (entry.Selector a t) = subst (IsOfScript s) same of in
      of_script

  pub reached_by_step : (e : Entry) → IsValid s.terms (state_of s.terms.nodes log) e → IsOfScript s e → IsReached (with_step s e) (log ++ e ∷ [])
  reached_by_step e valid of = record {
    state = grown_state s (terms_after s.terms e) (step_grows s log e valid of) h.state (step_list s log e h.state valid);
    steps = log_by_step e valid;
    selectors = λ a t c. ⊎_elim (h.selectors a t) (selector_by_step e of a t) (Contains-append_cases log (e ∷ []) (entry.Selector a t) c);
  }

pub reached_by_steps : (s : StateValue) (log steps : List Entry) → IsReached s log → AreStepsOf s log steps → IsReached (with_steps s steps) (log ++ steps)
reached_by_steps s log [] h are = subst (IsReached s) (sym (append-nil log)) h
reached_by_steps s log (e ∷ es) h are =
    subst (IsReached (with_steps (with_step s e) es)) (append_assoc log (e ∷ []) es)
    (reached_by_steps (with_step s e) (log ++ e ∷ []) es (reached_by_step s log h e are.0 are.1) are.3)

-- what steps leave as it was, and the terms before them
pub record Stay (old new : StateValue) : Type 0 where
  pub behind : List Node
  pub nodes : new.terms.nodes ≡ old.terms.nodes ++ behind
  pub scopes : new.scopes ≡ old.scopes
  pub symbols : new.symbols ≡ old.symbols
  pub assumed : new.assumed ≡ old.assumed

pub steps_stay : (s : StateValue) (steps : List Entry) → Stay s (with_steps s steps)
steps_stay s [] = record { behind = []; nodes = sym (append-nil s.terms.nodes); scopes = refl; symbols = refl; assumed = refl }
steps_stay s (e ∷ es) =
    let here = terms_longer s.terms e in
    let rest = steps_stay (with_step s e) es in
    record {
      behind = here.0 ++ rest.behind;
      nodes = rest.nodes ∙ ap (λ ns. ns ++ rest.behind) here.1 ∙ append_assoc s.terms.nodes here.0 rest.behind;
      scopes = rest.scopes;
      symbols = rest.symbols;
      assumed = rest.assumed;
    }

-- ---- where a script begins

pub reached_first : IsReached no_state []
reached_first = record {
  state = first_state;
  steps = tt;
  selectors = λ a t c. let past = c.1 in absurd (omega (arith, past));
}
