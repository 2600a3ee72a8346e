-- Commands, steps and ends of checks lead from states to states, and steps keep the models of the live assertions.
use Rattle.std.proofs.Common.{◌≡◌, ℕ, ◌<◌, List, [], ◌∷◌, ◌++◌, length, get_or, sym, ap, ◌∙◌}
use Rattle.smt_terms.specs.Terms.{IsTermList, with_node}
use Rattle.smt_terms.specs.Values.{Interpretation, is_true, value}
use Rattle.smt_terms.proofs.Evaluating.{value_longer}
use Rattle.scope_selectors.specs.declared.live.Live.{Live}
use Rattle.smt_build.specs.Building.{Grows}
use Rattle.smt_build.proofs.Growth.{grows_none, made_grows}
use Rattle.script_state.specs.declared.answer.Asked.{Asked}
use Rattle.script_state.specs.States.{StateValue, IsState, IsAssumption, assumptions}
use Rattle.smt_build.proofs.Longer.{list_made}
use Rattle.script_state.proofs.Asserting.{grown_state, standing_state}
use Rattle.script_state.proofs.Keeping.{step_state}
use Rattle.proof_log.specs.declared.entry.Entry.{Entry}
use Rattle.proof_log.specs.declared.entry.Entry.TheVariants as entry
use Rattle.proof_log.specs.Logs.{state_of}
use Rattle.proof_log.specs.Faults.{IsValid, terms_after}
use Rattle.std.specs.Prelude.{Some}
use Rattle.accepted_proof.specs.Models.{IsModel}
use Rattle.accepted_proof.specs.Turns.{IsOfScript, with_step, with_steps, AreStepsOf}
use Rattle.accepted_proof.proofs.Following.{Keeping}

pub step_grows : (s : StateValue) (log : List Entry) (e : Entry) → IsValid s.terms (state_of s.terms.nodes log) e → IsOfScript s e → Grows s.symbols.signatures s.terms (terms_after s.terms e)
step_grows s log (entry.Node n) valid of = made_grows s.symbols.signatures s.terms n of (length s.terms.nodes) (with_node s.terms n) valid.made
step_grows s log e valid of = grows_none s.symbols.signatures s.terms

pub step_list : (s : StateValue) (log : List Entry) (e : Entry) → IsState s → IsValid s.terms (state_of s.terms.nodes log) e → IsTermList (terms_after s.terms e).nodes
step_list s log (entry.Node n) is valid = list_made s.terms (with_node s.terms n) n (length s.terms.nodes) valid.made is.terms
step_list s log e is valid = is.terms

good_step : (s : StateValue) (log : List Entry) (e : Entry) → IsState s → IsValid s.terms (state_of s.terms.nodes log) e → IsOfScript s e → IsState (with_step s e)
good_step s log e is valid of = grown_state s (terms_after s.terms e) (step_grows s log e valid of) is (step_list s log e is valid)

good_steps : (s : StateValue) (log steps : List Entry) → IsState s → AreStepsOf s log steps → IsState (with_steps s steps)
good_steps s log [] is are = is
good_steps s log (e ∷ es) is are = good_steps (with_step s e) (log ++ e ∷ []) es (good_step s log e is are.0 are.1) are.3

same_value : (s : StateValue) (log : List Entry) (e : Entry) (M : Interpretation) (t : ℕ) → IsValid s.terms (state_of s.terms.nodes log) e → IsOfScript s e → t < length s.terms.nodes → is_true (value M (terms_after s.terms e).nodes t) ≡ is_true (value M s.terms.nodes t)
same_value s log e M t valid of lt =
    let grows = step_grows s log e valid of in
    ap (λ ns. is_true (value M ns t)) grows.nodes ∙ ap is_true (value_longer M s.terms.nodes grows.behind t lt)

module _ (s : StateValue) (log : List Entry) (e : Entry) (M : Interpretation) (is : IsState s) (valid : IsValid s.terms (state_of s.terms.nodes log) e) (of : IsOfScript s e) where
  asserted_held : (k : ℕ) (d : Live) → k < length s.scopes.live → (get_or s.scopes.live k d).term < length s.terms.nodes
  asserted_held k d lt = is.held k d lt

  assumed_held : (k : ℕ) (d : Asked) → k < length (assumptions s) → (get_or (assumptions s) k d).term < length s.terms.nodes
  assumed_held k d lt = let one : IsAssumption s.terms.nodes s.symbols.live (get_or (assumptions s) k d) = is.assumed k d lt in one.held

  model_step : IsModel s M → IsModel (with_step s e) M
  model_step h = record {
    asserted = λ k d lt. same_value s log e M (get_or s.scopes.live k d).term valid of (asserted_held k d lt) ∙ h.asserted k d lt;
    assumed = λ k d lt. same_value s log e M (get_or (assumptions s) k d).term valid of (assumed_held k d lt) ∙ h.assumed k d lt;
  }

  model_back : IsModel (with_step s e) M → IsModel s M
  model_back h = record {
    asserted = λ k d lt. sym (same_value s log e M (get_or s.scopes.live k d).term valid of (asserted_held k d lt)) ∙ h.asserted k d lt;
    assumed = λ k d lt. sym (same_value s log e M (get_or (assumptions s) k d).term valid of (assumed_held k d lt)) ∙ h.assumed k d lt;
  }

model_steps : (s : StateValue) (log steps : List Entry) (M : Interpretation) → IsState s → AreStepsOf s log steps → IsModel s M → IsModel (with_steps s steps) M
model_steps s log [] M is are h = h
model_steps s log (e ∷ es) M is are h = model_steps (with_step s e) (log ++ e ∷ []) es M (good_step s log e is are.0 are.1) are.3 (model_step s log e M is are.0 are.1 h)

models_back : (s : StateValue) (log steps : List Entry) (M : Interpretation) → IsState s → AreStepsOf s log steps → IsModel (with_steps s steps) M → IsModel s M
models_back s log [] M is are h = h
models_back s log (e ∷ es) M is are h = model_back s log e M is are.0 are.1 (models_back (with_step s e) (log ++ e ∷ []) es M (good_step s log e is are.0 are.1) are.3 h)

pub states_keep : Keeping IsState
states_keep = record {
  commands = λ s says is. step_state s says is;
  steps = good_steps;
  ends = λ s v is. standing_state s (Some v) is;
  models = model_steps;
  back = models_back;
}
