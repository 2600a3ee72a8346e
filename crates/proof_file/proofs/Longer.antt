-- An index is one of a longer log over more terms.
use Rattle.std.proofs.Common.{◌≡◌, ℕ, zero, suc, ◌<◌, ◌≤◌, List, [], ◌∷◌, ◌++◌, length, length-append, take, drop, Some, refl, sym, ap, ◌∙◌, subst, ⊎_elim, arith}
use Rattle.std.specs.Prelude.{Contains, slice_get}
use Rattle.std.proofs.lemmas.Bool.{cases_lt}
use Rattle.std.proofs.lemmas.List.{take-append-drop}
use Rattle.cnf_base.specs.Literals.{Literal, negated}
use Rattle.cnf_base.specs.Assignments.{AreBelow}
use Rattle.cnf_base.proofs.Lists.{each_member}
use Rattle.cnf_base.specs.declared.clause.ClauseId.{ClauseId}
use Rattle.smt_terms.specs.declared.node.Node.{Node}
use Rattle.smt_terms.specs.Terms.{IsTermList}
use Rattle.proof_log.specs.declared.entry.Entry.{Entry}
use Rattle.proof_log.specs.declared.entry.Entry.TheVariants as step
use Rattle.proof_log.specs.Logs.{Asserted, LogState, start, AreSteps, IsLog, IsStep, after, entry_at, state_from, state_of}
use Rattle.proof_log.specs.Meanings.{StaysLog}
use Rattle.proof_log.proofs.Staying.{state_from-append, steps_parts, steps_hold, log_stays, log_over}
use Rattle.proof_log.proofs.Placed.{later_at}
use Rattle.proof_log.proofs.Selecting.{log_selects}
use Rattle.proof_file.specs.Indexed.{StaleIndex, IsSelectorOf, RestsOn, IsIndexOf}
use Rattle.proof_file.proofs.Selectors.{asserted, made_from, found_at, has_selector}
use Rattle.proof_file.proofs.Noted.{entry_within}

-- ---- the front of a log

front_step : (log more : List Entry) (p : ℕ) → p < length log → slice_get (log ++ more) p ≡ slice_get log p
front_step [] more p lt = absurd (omega (arith, lt))
front_step (e ∷ log) more zero lt = refl
front_step (e ∷ log) more (suc p) lt = front_step log more p (omega (arith, lt))

front_entry : (log more : List Entry) (p : ℕ) → p ≤ length log → entry_at (log ++ more) p ≡ entry_at log p
front_entry log more zero le = refl
front_entry log more (suc p) le = front_step log more p (omega (arith, le))

-- ---- a chain speaks of variables that there are

chain_below : (nodes : List Node) (s : LogState) (log : List Entry) (p : ℕ) (c : List Literal) (hints : List ClauseId) → AreSteps nodes s log → slice_get log p ≡ Some (step.Chain c hints)
    → (l : Literal) → Contains c l → l.variable < (state_from nodes s log).next
chain_below nodes s [] p c hints h g = let f : ⊥ = cc in absurd f
chain_below nodes s (d ∷ log) zero c hints h g = λ l k.
    let q : d ≡ step.Chain c hints = cc in
    let own : AreBelow s.next c = (subst (IsStep nodes s) q h.0).0 in
    let below : l.variable < s.next = each_member (λ (x : Literal). x.variable < s.next) c l own k in
    let le : s.next ≤ (state_from nodes s (d ∷ log)).next = (steps_hold nodes s (d ∷ log) h).next in
    omega (arith, below, le)
chain_below nodes s (d ∷ log) (suc p) c hints h g = chain_below nodes (after nodes s d) log p c hints h.1 g

entry_below : (nodes : List Node) (log : List Entry) (p : ℕ) (c : List Literal) (hints : List ClauseId) → IsLog nodes log → entry_at log p ≡ Some (step.Chain c hints)
    → (l : Literal) → Contains c l → l.variable < (state_of nodes log).next
entry_below nodes log zero c hints h g = let f : ⊥ = cc in absurd f
entry_below nodes log (suc p) c hints h g = chain_below nodes start log p c hints h g

-- ---- more steps

module _ (nodes : List Node) (log more : List Entry) (is : IsLog nodes (log ++ more)) where
  stays : StaysLog nodes log more
  stays = log_stays nodes log more is

  selector_stays : (a x : ℕ) → IsSelectorOf nodes log a x → IsSelectorOf nodes (log ++ more) a x
  selector_stays a x h = (h.0, stays.selectors a (asserted x h.0) h.1)

  rests_still : (a p : ℕ) → RestsOn nodes log a p → RestsOn nodes (log ++ more) a p
  rests_still a p r = record {
    selector = r.selector;
    made = stays.selectors a r.selector r.made;
    clause = r.clause;
    hints = r.hints;
    chain = front_entry log more p (entry_within log p (step.Chain r.clause r.hints) r.chain) ∙ r.chain;
    negation = r.negation;
  }

  -- a selector of a later step is a later variable
  later_selector : (a i : ℕ) (r : Asserted) → (state_of nodes (log ++ more)).selectors a ≡ Some r → slice_get more i ≡ Some (step.Selector a r.term) → (state_of nodes log).next ≤ r.literal.variable
  later_selector a i r e g =
      let rest : AreSteps nodes (state_of nodes log) more = (steps_parts nodes start log more is).1 in
      let front : AreSteps nodes (state_of nodes log) (take i more) =
      (steps_parts nodes (state_of nodes log) (take i more) (drop i more) (subst (AreSteps nodes (state_of nodes log)) (sym (take-append-drop i more)) rest)).0 in
      let low : (state_of nodes log).next ≤ (state_from nodes (state_of nodes log) (take i more)).next = (steps_hold nodes (state_of nodes log) (take i more) front).next in
      let made = made_from nodes (state_of nodes log) more i a r.term rest g in
      let two : Some r ≡ Some (asserted (state_from nodes (state_of nodes log) (take i more)).next r.term) =
      sym e ∙ ap (λ (t : LogState). t.selectors a) (state_from-append nodes start log more) ∙ made.0 in
      let it : r ≡ asserted (state_from nodes (state_of nodes log) (take i more)).next r.term = cc in
      let own : r.literal.variable ≡ (state_from nodes (state_of nodes log) (take i more)).next = ap (λ (q : Asserted). q.literal.variable) it in
      omega (arith, own, low)

  -- what rests on an assertion did so before
  rests_before : (a p : ℕ) → p ≤ length log → RestsOn nodes (log ++ more) a p → RestsOn nodes log a p
  rests_before a p le r = record {
    selector = r.selector;
    made = ⊎_elim
        (λ (lt : among.0 < length log).
        let k = has_selector nodes log stays.steps among.0 a r.selector.term (sym (front_step log more among.0 lt) ∙ at) in
        k.1.1 ∙ sym (stays.selectors a (asserted k.0 k.1.0) k.1.1) ∙ r.made)
        (λ (ge : length log ≤ among.0).
        let later = later_at log more (suc among.0) (step.Selector a r.selector.term) at (omega (arith, ge)) in
        let high = later_selector a later.0 r.selector r.made later.1 in
        let low = entry_below nodes log p r.clause r.hints stays.steps chain (negated r.selector.literal) r.negation in
        absurd (omega (arith, high, low)))
        (cases_lt among.0 (length log));
    clause = r.clause;
    hints = r.hints;
    chain = chain;
    negation = r.negation;
  }
    where
      among : Contains (log ++ more) (step.Selector a r.selector.term)
      among = (log_selects nodes (log ++ more) a r.selector r.made).1

      at : slice_get (log ++ more) among.0 ≡ Some (step.Selector a r.selector.term)
      at = found_at (log ++ more) (step.Selector a r.selector.term) among

      chain : entry_at log p ≡ Some (step.Chain r.clause r.hints)
      chain = sym (front_entry log more p le) ∙ r.chain

  index_longer : (v : StaleIndex) (places : ℕ → ℕ) → IsIndexOf v nodes log places → IsIndexOf v nodes (log ++ more) places
  index_longer v places h = record {
    within = let le = h.within in omega (arith, le, length-append log more);
    known = λ p a t lt g.
        let le = h.within in
        let k = h.known p a t lt (sym (front_step log more p (omega (arith, lt, le))) ∙ g) in
        (k.0, selector_stays a k.0 k.1, k.2);
    own = λ x a g. selector_stays a x (h.own x a g);
    placed = λ p ne. let le = h.placed p ne in omega (arith, le, length-append log more);
    each = λ a p c. rests_still a p (h.each a p c);
    every = λ a p r ne. h.every a p (rests_before a p (h.placed p ne) r) ne;
    watched = h.watched;
  }

-- ---- more terms

module _ (nodes others : List Node) (log : List Entry) (same : state_of nodes log ≡ state_of others log) where
  rests_over : (a p : ℕ) → RestsOn nodes log a p → RestsOn others log a p
  rests_over a p r = record {
    selector = r.selector;
    made = ap (λ (s : LogState). s.selectors a) (sym same) ∙ r.made;
    clause = r.clause;
    hints = r.hints;
    chain = r.chain;
    negation = r.negation;
  }

  selector_over : (a x : ℕ) → IsSelectorOf nodes log a x → IsSelectorOf others log a x
  selector_over a x h = (h.0, ap (λ (s : LogState). s.selectors a) (sym same) ∙ h.1)

index_over : (nodes others : List Node) (log : List Entry) → state_of nodes log ≡ state_of others log → (v : StaleIndex) (places : ℕ → ℕ) → IsIndexOf v nodes log places → IsIndexOf v others log places
index_over nodes others log same v places h = record {
  within = h.within;
  known = λ p a t lt g. let k = h.known p a t lt g in (k.0, selector_over nodes others log same a k.0 k.1, k.2);
  own = λ x a g. selector_over nodes others log same a x (h.own x a g);
  placed = h.placed;
  each = λ a p c. rests_over nodes others log same a p (h.each a p c);
  every = λ a p r ne. h.every a p (rests_over others nodes log (sym same) a p r) ne;
  watched = h.watched;
}

pub longer : (v : StaleIndex) (nodes more : List Node) (log steps : List Entry) (places : ℕ → ℕ) → IsTermList nodes → IsLog nodes log → IsLog (nodes ++ more) (log ++ steps)
    → IsIndexOf v nodes log places → IsIndexOf v (nodes ++ more) (log ++ steps) places
longer v nodes more log steps places list old new h =
    index_longer (nodes ++ more) log steps new v places
    (index_over nodes (nodes ++ more) log (sym (log_over nodes more list log old).state) v places h)
