-- The steps of a check lead from state to state.
use Rattle.std.proofs.Common.{◌≡◌, ℕ, List, [], ◌∷◌, ◌++◌, Some, refl, sym, ap, ◌∙◌, subst, inl, inr, ⊎_elim, append_assoc, append-nil}
use Rattle.std.specs.Prelude.{Option, slice_get, IsSome}
use Rattle.std.specs.List.{AllByRecursion}
use Rattle.std.proofs.lemmas.List.Elements.{Contains-append_left}
use Rattle.cnf_base.proofs.Lists.{each_append}
use Rattle.smt_terms.specs.declared.node.Op.{Op}
use Rattle.smt_terms.specs.declared.node.Op.TheVariants as op
use Rattle.smt_terms.specs.declared.node.Node.{Node}
use Rattle.smt_terms.specs.Nodes.{node_at}
use Rattle.smt_build.specs.Names.{SymbolsValue}
use Rattle.scope_selectors.specs.Scopes.{ScopesValue}
use Rattle.script_state.specs.declared.answer.Asked.{Asked}
use Rattle.script_state.specs.States.{StateValue, IsState, roots}
use Rattle.proof_log.specs.declared.entry.Entry.{Entry}
use Rattle.proof_log.specs.declared.entry.Entry.TheVariants as step
use Rattle.proof_log.specs.Logs.{state_of}
use Rattle.proof_log.specs.Faults.{IsGiven, IsValid}
use Rattle.proof_log.specs.Stored.{LogValue, Stands}
use Rattle.proof_text.specs.Entries.{entry_line}
use Rattle.accepted_proof.specs.Turns.{IsOfScript, AreStepsOf, with_step, with_steps}
use Rattle.accepted_proof.proofs.Following.{same_assumed, same_scopes, same_symbols}
use Rattle.accepted_proof.proofs.Good.{states_keep, step_grows}
use Rattle.smt_session.specs.Growing.{AreStepsFor, Grows, IsStepFor, LeadsTo}
use Rattle.smt_session.specs.Planning.{Prepares}
use Rattle.smt_session.specs.Sessions.{IsSession}
use Rattle.smt_session.specs.Thorough.{IsUsed, IsWatching}
use Rattle.smt_session.proofs.Going.{more_steps}
use Rattle.smt_session.proofs.Reasons.{simplified_append, simplified_bare}
use Rattle.smt_session.proofs.Turning.{are_steps, same_after}

-- ---- lists of steps

pub with_append : (s : StateValue) (a b : List Entry) → with_steps s (a ++ b) ≡ with_steps (with_steps s a) b
with_append s [] b = refl
with_append s (e ∷ a) b = with_append (with_step s e) a b

pub steps_append : (s : StateValue) (log a b : List Entry) → AreStepsOf s log a → AreStepsOf (with_steps s a) (log ++ a) b → AreStepsOf s log (a ++ b)
steps_append s log [] b h k = subst (λ l. AreStepsOf s l b) (append-nil log) k
steps_append s log (e ∷ a) b h k = (h.0, h.1, h.2, steps_append (with_step s e) (log ++ e ∷ []) a b h.3 (subst (λ l. AreStepsOf (with_steps (with_step s e) a) l b) (sym (append_assoc log (e ∷ []) a)) k))

-- the terms behind the steps begin with those before
pub nodes_led : (s : StateValue) (log es : List Entry) → AreStepsOf s log es → (behind : List Node) × ((with_steps s es).terms.nodes ≡ s.terms.nodes ++ behind)
nodes_led s log [] h = ([], sym (append-nil s.terms.nodes))
nodes_led s log (e ∷ es) h =
    let one = step_grows s log e h.0 h.1 in
    let rest = nodes_led (with_step s e) (log ++ e ∷ []) es h.3 in
    (one.behind ++ rest.0, rest.1 ∙ ap (λ l. l ++ rest.0) one.nodes ∙ append_assoc s.terms.nodes one.behind rest.0)

-- what the steps name of the script is as the script has it behind them too
scripted : (s : StateValue) (symbols : SymbolsValue) (scopes : ScopesValue) (log es : List Entry) → AreStepsOf s log es → s.symbols ≡ symbols → s.scopes ≡ scopes → (t : StateValue) → t.symbols ≡ symbols → t.scopes ≡ scopes → AllByRecursion (IsOfScript t) es
scripted s symbols scopes log [] h e f t g k = tt
scripted s symbols scopes log (x ∷ es) h e f t g k = (one x h.1, scripted (with_step s x) symbols scopes (log ++ x ∷ []) es h.3 e f t g k)
  where
    one : (x : Entry) → IsOfScript s x → IsOfScript t x
    one (step.Node n) i = subst (λ (v : SymbolsValue). IsOfScript (record { symbols = v; terms = s.terms; scopes = s.scopes; options = s.options; standing = s.standing; assumed = s.assumed }) (step.Node n)) (e ∙ sym g) i
    one (step.Selector a u) i = subst (λ (v : ScopesValue). slice_get v.terms a ≡ Some u) (f ∙ sym k) i
    one x i = tt

limit_one : (s : StateValue) (e : Entry) → (with_step s e).terms.limit ≡ s.terms.limit
limit_one s (step.Node n) = refl
limit_one s e = refl

-- there may be as many terms as before
pub limit_led : (s : StateValue) (es : List Entry) → (with_steps s es).terms.limit ≡ s.terms.limit
limit_led s [] = refl
limit_led s (e ∷ es) = limit_led (with_step s e) es ∙ limit_one s e

-- ---- one state leads to another

pub behind_of : (s s' : StateValue) (old new : LogValue) → LeadsTo s old s' new → (behind : List Node) × (s'.terms.nodes ≡ s.terms.nodes ++ behind)
behind_of s s' old new l =
    let n = nodes_led s old.entries l.added l.steps in
    (n.0, ap (λ (x : StateValue). x.terms.nodes) l.state ∙ n.1)

abbrev pub leads_none : (s : StateValue) (l : LogValue) → Stands s.terms.nodes l → LeadsTo s l s l
leads_none s l h = record { added = []; entries = sym (append-nil l.entries); steps = tt; state = refl; stands = h }

abbrev pub leads_more : (s t u : StateValue) (a b c : LogValue) → LeadsTo s a t b → LeadsTo t b u c → LeadsTo s a u c
leads_more s t u a b c g h = record {
  added = g.added ++ h.added;
  entries = h.entries ∙ ap (λ x. x ++ h.added) g.entries ∙ append_assoc a.entries g.added h.added;
  steps = steps_append s a.entries g.added h.added g.steps (subst (λ l. AreStepsOf (with_steps s g.added) l h.added) g.entries (subst (λ x. AreStepsOf x b.entries h.added) g.state h.steps));
  state = h.state ∙ ap (λ x. with_steps x h.added) g.state ∙ sym (with_append s g.added h.added);
  stands = h.stands;
}

-- steps that make no term
abbrev pub grows_leads : (s : StateValue) (old new : LogValue) → Grows s old new → LeadsTo s old s new
grows_leads s old new g = record {
  added = g.added;
  entries = g.entries;
  steps = are_steps s old new g;
  state = sym (same_after s g.added g.still);
  stands = g.stands;
}

-- the state, where this is asserted and this is assumed
abbrev pub state_with : StateValue → ScopesValue → Option (List Asked) → StateValue
state_with s x a = record { symbols = s.symbols; terms = s.terms; scopes = x; options = s.options; standing = s.standing; assumed = a }

-- a check stays about the same terms
pub roots_led : (s s' : StateValue) (old new : LogValue) → LeadsTo s old s' new → roots s' ≡ roots s
roots_led s s' old new l = ap roots l.state ∙ (λ i. roots (state_with s (same_scopes s l.added i) (same_assumed s l.added i)))

-- more steps before the search
abbrev pub prepares_more : (s t : StateValue) (old mid new : LogValue) → Prepares s old t mid → Grows t mid new → Prepares s old t new
prepares_more s t old mid new p g = record {
  leads = leads_more s t t old mid new p.leads (grows_leads t mid new g);
  wanted = λ k le lt.
      ⊎_elim
      (λ (w : IsWatching s.terms.nodes (roots s) (node_at t.terms.nodes k)). inl w)
      (λ (u : IsUsed t.terms.nodes p.leads.added k). inr (record { by = u.by; among = Contains-append_left p.leads.added g.added (step.Rewrite u.by) u.among; is = u.is }))
      (p.wanted k le lt);
  simple = simplified_append t.terms old.entries p.leads.added g.added p.simple (simplified_bare t.terms (old.entries ++ p.leads.added) g.added g.bare);
}

-- ---- one step

node_lined : (o : Op) (args : List ℕ) → (IsGiven o → ⊥) → IsSome (entry_line (step.Node (record { op = o; args = args })))
node_lined (op.Constant d s) args n = absurd (n tt)
node_lined (op.Param k s) args n = absurd (n tt)
node_lined o args n = refl

pub step_lined : (s : StateValue) (log : List Entry) (e : Entry) → IsValid s.terms (state_of s.terms.nodes log) e → IsSome (entry_line e)
step_lined s log (step.Node n) i = node_lined n.op n.args i.operator
step_lined s log e i = refl

abbrev pub leads_one : (s s' : StateValue) (old new : LogValue) (e : Entry) → IsValid s.terms (state_of s.terms.nodes old.entries) e → IsOfScript s e → s' ≡ with_step s e → new.entries ≡ old.entries ++ e ∷ [] → Stands s'.terms.nodes new → LeadsTo s old s' new
leads_one s s' old new e valid of state entries stands = record {
  added = e ∷ [];
  entries = entries;
  steps = (valid, of, step_lined s old.entries e valid, tt);
  state = state;
  stands = stands;
}

-- ---- sessions

for_script : (s t : StateValue) (log es : List Entry) → AllByRecursion (IsOfScript s) es → AreStepsOf t log es → AreStepsFor s es
for_script s t log [] h l = tt
for_script s t log (e ∷ es) h l = ((h.0, l.2), for_script s (with_step t e) (log ++ e ∷ []) es h.1 l.3)

pub led_steps : (s s' : StateValue) (old new : LogValue) → AreStepsFor s old.entries → LeadsTo s old s' new → AreStepsFor s' new.entries
led_steps s s' old new each l =
    let symbols : s'.symbols ≡ s.symbols = ap (λ (x : StateValue). x.symbols) l.state ∙ same_symbols s l.added in
    let scopes : s'.scopes ≡ s.scopes = ap (λ (x : StateValue). x.scopes) l.state ∙ same_scopes s l.added in
    subst (AreStepsFor s') (sym l.entries)
    (each_append (IsStepFor s') old.entries l.added
    (more_steps s s' old.entries (λ d r e. subst (λ (v : SymbolsValue). slice_get v.signatures d ≡ Some r) (sym symbols) e) (λ a t e. subst (λ (v : ScopesValue). slice_get v.terms a ≡ Some t) (sym scopes) e) each)
    (for_script s' s old.entries l.added (scripted s s.symbols s.scopes old.entries l.added l.steps refl refl s' symbols scopes) l.steps))

pub session_led : (s s' : StateValue) (old new : LogValue) → IsSession s old → LeadsTo s old s' new → IsSession s' new
session_led s s' old new h l = record {
  state = subst IsState (sym l.state) (states_keep.steps s old.entries l.added h.state l.steps);
  stands = l.stands;
  each = led_steps s s' old new h.each l;
}
