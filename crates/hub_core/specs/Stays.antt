-- What a pass may do it may still do after events of other passes.
use Rattle.std.proofs.Common.{◌≡◌, ℕ, ◌≤◌, Bool, true, false, List, [], ◌∷◌, ◌++◌, Option, Some, None, refl, sym, ap, ◌∙◌, subst, append-nil}
use Rattle.std.specs.Prelude.{◌==◌, ◌&&◌, if◌then◌else◌, IsSome}
use Rattle.std.proofs.lemmas.Bool.{eqb-true, eq-eqb}
use Rattle.cnf_base.specs.Literals.{Literal}
use Rattle.cnf_base.proofs.Agreeing.{AreBelow-more}
use Rattle.cnf_base.proofs.Options.{IsSome-from, some_value}
use Rattle.hint_chain.proofs.Growing.{IsChain-grows}
use Rattle.smt_terms.specs.declared.node.Node.{Node}
use Rattle.theory_terms.specs.declared.lemma.Lemma.{Lemma}
use Rattle.theory_lemmas.specs.Clauses.{clause_of}
use Rattle.theory_lemmas.proofs.Keeping.{clause_stays}
use Rattle.proof_log.specs.declared.entry.Entry.{Entry}
use Rattle.proof_log.specs.declared.entry.Entry.TheVariants as step
use Rattle.proof_log.specs.Logs.{LogState, start, state_of, IsPair, IsLemma}
use Rattle.proof_log.specs.Places.{place_of_pair}
use Rattle.proof_log.proofs.Equalities.{no_variable}
use Rattle.proof_log.proofs.Growing.{clause_more}
use Rattle.proof_log.proofs.Staying.{Holds, Holds-refl, Holds-then, equal_holds, lemma_holds, state_from-append}
use Rattle.shared_history.specs.Events.{of_pass}
use Rattle.cube_tree.specs.Closing.{first_of}
use Rattle.hub_core.specs.declared.events.Call.{Call}
use Rattle.hub_core.specs.declared.events.Call.TheVariants.{Define, PutLemma, PutChain, Claim, Close, Spend, Found}
use Rattle.hub_core.specs.declared.events.Event.{Event}
use Rattle.hub_core.specs.Hubs.{HubValue, HubView, opening, new_pair, has_next, with_open, claim_after, call_after, run_from, view_of, IsClosedAt, may, permitted, AreMade, IsHistory, by_of, event}

-- ---- the log grows

-- whatever the step is, what the log has stays
chain_holds : (nodes : List Node) (log : List Entry) (c : List Literal) (hints : List _) → Holds (state_of nodes log) (state_of nodes (log ++ step.Chain c hints ∷ []))
chain_holds nodes log c hints =
    let s = state_of nodes log in
    subst (Holds s) (sym (state_from-append nodes start log (step.Chain c hints ∷ [])))
    (record { next = suc_le s.next; clauses = clause_more s.clauses ((c ∷ []) ∷ []); bits = λ t b e. e; images = λ t h. refl; selectors = λ a r e. e; equals = λ t u l e. e })
  where
    suc_le : (n : ℕ) → n ≤ n
    suc_le n = (Holds-refl (record { next = n; bits = λ t. None; images = λ t. None; selectors = λ a. None; equals = λ t u. None; clauses = [] })).next

lemma_step : (nodes : List Node) (log : List Entry) (lemma : Lemma) → Holds (state_of nodes log) (state_of nodes (log ++ step.Lemma lemma ∷ []))
lemma_step nodes log lemma =
    let s = state_of nodes log in
    subst (Holds s) (sym (state_from-append nodes start log (step.Lemma lemma ∷ [])))
    (lemma_holds s (clause_of nodes (state_of nodes log).bits (state_of nodes log).equals lemma))

-- a pair that has a step gets no second one
pair_step : (nodes : List Node) (log : List Entry) (t u : ℕ) (o : Option ℕ) → place_of_pair log t u ≡ o → Holds (state_of nodes log) (state_of nodes (log ++ new_pair o t u))
pair_step nodes log t u (Some p) e = subst (λ l. Holds (state_of nodes log) (state_of nodes l)) (sym (append-nil log)) (Holds-refl (state_of nodes log))
pair_step nodes log t u None e =
    let s = state_of nodes log in
    subst (Holds s) (sym (state_from-append nodes start log (step.Equal t u ∷ [])))
    (equal_holds s t u ((state_of nodes log).bits t) ((state_of nodes log).bits u) (no_variable nodes log t u e))

claim_log : (v : HubView) (n : ℕ) (b : Bool) → (claim_after v n b).log ≡ v.log
claim_log v n true = refl
claim_log v n false = refl

pub call_holds : (law : HubValue) (v : HubView) (n : ℕ) (call : Call) → Holds (state_of law.nodes v.log) (state_of law.nodes (call_after law v n call).log)
call_holds law v n (Define t u) = pair_step law.nodes v.log t u (place_of_pair v.log t u) refl
call_holds law v n (PutLemma lemma) = lemma_step law.nodes v.log lemma
call_holds law v n (PutChain c hints) = chain_holds law.nodes v.log c hints
call_holds law v n Claim = subst (λ l. Holds (state_of law.nodes v.log) (state_of law.nodes l)) (sym (claim_log v n (has_next law v))) (Holds-refl (state_of law.nodes v.log))
call_holds law v n (Close c p) = Holds-refl (state_of law.nodes v.log)
call_holds law v n (Spend c) = Holds-refl (state_of law.nodes v.log)
call_holds law v n (Found c) = Holds-refl (state_of law.nodes v.log)

pub run_holds : (law : HubValue) (v : HubView) (es : List Event) → Holds (state_of law.nodes v.log) (state_of law.nodes (run_from law v es).log)
run_holds law v [] = Holds-refl (state_of law.nodes v.log)
run_holds law v (e ∷ es) =
    Holds-then (state_of law.nodes v.log) (state_of law.nodes (call_after law v e.pass e.call).log) (state_of law.nodes (run_from law (call_after law v e.pass e.call) es).log)
    (call_holds law v e.pass e.call) (run_holds law (call_after law v e.pass e.call) es)

pub run_from-append : (law : HubValue) (v : HubView) (es more : List Event) → run_from law v (es ++ more) ≡ run_from law (run_from law v es) more
run_from-append law v [] more = refl
run_from-append law v (e ∷ es) more = run_from-append law (call_after law v e.pass e.call) es more

pub are_made-append : (law : HubValue) (v : HubView) (es more : List Event) → AreMade law v es → AreMade law (run_from law v es) more → AreMade law v (es ++ more)
are_made-append law v [] more h k = k
are_made-append law v (e ∷ es) more h k = (h.0, are_made-append law (call_after law v e.pass e.call) es more h.1 k)

-- ---- what a pass has open

other_open : (f : ℕ → ℕ → Bool) (m c : ℕ) (b : Bool) (n d : ℕ) → (m == n) ≡ false → with_open f m c b n d ≡ f n d
other_open f m c b n d ne = go (n == m) refl
  where
    go : (q : Bool) → (n == m) ≡ q → with_open f m c b n d ≡ f n d
    go true e = let same = eqb-true n m e in let q : true ≡ false = sym (eq-eqb m n (sym same)) ∙ ne in let x : ⊥ = cc in absurd x
    go false e = ap (λ q. if q && (d == c) then b else f n d) e

claim_open : (v : HubView) (m : ℕ) (b : Bool) (n d : ℕ) → (m == n) ≡ false → (claim_after v m b).open_for n d ≡ v.open_for n d
claim_open v m true n d ne = other_open v.open_for m v.claimed true n d ne
claim_open v m false n d ne = refl

call_open : (law : HubValue) (v : HubView) (m : ℕ) (call : Call) (n d : ℕ) → (m == n) ≡ false → (call_after law v m call).open_for n d ≡ v.open_for n d
call_open law v m (Define t u) n d ne = refl
call_open law v m (PutLemma lemma) n d ne = refl
call_open law v m (PutChain c hints) n d ne = refl
call_open law v m Claim n d ne = claim_open v m (has_next law v) n d ne
call_open law v m (Close c p) n d ne = other_open v.open_for m c false n d ne
call_open law v m (Spend c) n d ne = other_open v.open_for m c false n d ne
call_open law v m (Found c) n d ne = other_open v.open_for m c false n d ne

-- where no event is the pass's own, the first is not, and no later one
none_own : (n : ℕ) (e : Event) (es : List Event) → of_pass by_of n (e ∷ es) ≡ [] → ((e.pass == n) ≡ false) × (of_pass by_of n es ≡ [])
none_own n e es h = go (e.pass == n) refl
  where
    go : (q : Bool) → (e.pass == n) ≡ q → ((e.pass == n) ≡ false) × (of_pass by_of n es ≡ [])
    go true k = let x : (e ∷ of_pass by_of n es) ≡ [] = subst (λ b. (if b then e ∷ of_pass by_of n es else of_pass by_of n es) ≡ []) k h in let y : ⊥ = cc in absurd y
    go false k = (k, subst (λ b. (if b then e ∷ of_pass by_of n es else of_pass by_of n es) ≡ []) k h)

pub run_open : (law : HubValue) (v : HubView) (es : List Event) (n d : ℕ) → of_pass by_of n es ≡ [] → (run_from law v es).open_for n d ≡ v.open_for n d
run_open law v [] n d none = refl
run_open law v (e ∷ es) n d none =
    let k = none_own n e es none in
    run_open law (call_after law v e.pass e.call) es n d k.1 ∙ call_open law v e.pass e.call n d k.0

-- ---- the law

pub closed_stays : (law : HubValue) (log log' : List Entry) (c p : ℕ) → Holds (state_of law.nodes log) (state_of law.nodes log') → IsClosedAt law log c p → IsClosedAt law log' c p
closed_stays law log log' c p x h = record { clause = h.clause; found = x.clauses (first_of p) h.clause h.found; closing = h.closing }

bits_stay : (f g : ℕ → Option (List Literal)) (t : ℕ) → ((x : ℕ) (b : List Literal) → f x ≡ Some b → g x ≡ Some b) → IsSome (f t) → IsSome (g t)
bits_stay f g t more h = let k = some_value (f t) h in IsSome-from (g t) k.0 (more t k.0 k.1)

pub pair_stays : (nodes : List Node) (s r : LogState) (t u : ℕ) → Holds s r → IsPair nodes s t u → IsPair nodes r t u
pair_stays nodes s r t u x h = record {
  lower = h.lower;
  term = h.term;
  sort = h.sort;
  left = bits_stay s.bits r.bits t x.bits h.left;
  right = bits_stay s.bits r.bits u x.bits h.right;
}

pub lemma_stays : (nodes : List Node) (s r : LogState) (lemma : Lemma) → Holds s r → IsLemma nodes s lemma → IsLemma nodes r lemma
lemma_stays nodes s r lemma x h = record { clause = h.clause; is = clause_stays s.bits r.bits s.equals r.equals x.bits x.equals nodes lemma h.clause h.is }

may_stays : (law : HubValue) (v w : HubView) (n : ℕ) (call : Call) → Holds (state_of law.nodes v.log) (state_of law.nodes w.log) → ((d : ℕ) → w.open_for n d ≡ v.open_for n d) → may law v n call → may law w n call
may_stays law v w n (Define t u) x o h = pair_stays law.nodes (state_of law.nodes v.log) (state_of law.nodes w.log) t u x h
may_stays law v w n (PutLemma lemma) x o h = lemma_stays law.nodes (state_of law.nodes v.log) (state_of law.nodes w.log) lemma x h
may_stays law v w n (PutChain c hints) x o h = (AreBelow-more _ _ x.next c h.0, IsChain-grows _ _ x.clauses c hints h.1)
may_stays law v w n Claim x o h = tt
may_stays law v w n (Close c p) x o h = (o c ∙ h.0, closed_stays law v.log w.log c p x h.1)
may_stays law v w n (Spend c) x o h = o c ∙ h
may_stays law v w n (Found c) x o h = o c ∙ h

pub stays_permitted : (law : HubValue) (history more : List Event) (n : ℕ) (call : Call) → of_pass by_of n more ≡ [] → permitted law history n call → permitted law (history ++ more) n call
stays_permitted law history more n call none h =
    let v = view_of law history in
    subst (λ w. may law w n call) (sym (run_from-append law (opening law) history more))
    (may_stays law v (run_from law v more) n call (run_holds law v more) (λ d. run_open law v more n d none) h)

-- ---- one event more

pub view_snoc : (law : HubValue) (history : List Event) (e : Event) → view_of law (history ++ e ∷ []) ≡ call_after law (view_of law history) e.pass e.call
view_snoc law history e = run_from-append law (opening law) history (e ∷ [])

pub history_snoc : (law : HubValue) (history : List Event) (n : ℕ) (call : Call) → IsHistory law history → permitted law history n call → IsHistory law (history ++ event n call ∷ [])
history_snoc law history n call h k = are_made-append law (opening law) history (event n call ∷ []) h (k, tt)
