-- The log of every history is one of valid steps.
use Rattle.std.proofs.Common.{◌≡◌, ℕ, Bool, true, false, not, List, length, arith, [], ◌∷◌, ◌++◌, Option, Some, None, refl, sym, ap, ◌∙◌, subst, inl, inr, ⊎_elim, append-nil}
use Rattle.std.specs.Prelude.{◌==◌, ◌&&◌, ◌⊎◌, ltb, if◌then◌else◌}
use Rattle.std.proofs.lemmas.Bool.{eqb-true, ltb-false}
use Rattle.smt_terms.specs.declared.node.Node.{Node}
use Rattle.proof_log.specs.declared.entry.Entry.{Entry}
use Rattle.proof_log.specs.declared.entry.Entry.TheVariants as step
use Rattle.proof_log.specs.Logs.{start, state_of, IsStep, IsPair, IsLog}
use Rattle.proof_log.specs.Places.{place_of_pair}
use Rattle.proof_log.specs.Boards.{IsAdded}
use Rattle.proof_log.specs.LemmaBoards.{Adds}
use Rattle.proof_log.proofs.Adding.{adds_same, adds_then, adds_one}
use Rattle.proof_log.proofs.Equalities.{no_variable}
use Rattle.proof_log.proofs.Ordered.{log_is_ordered}
use Rattle.proof_log.proofs.Sound.{log_is_sound}
use Rattle.proof_log.proofs.Standing.{stands_over}
use Rattle.proof_log.proofs.Staying.{Holds, steps_append}
use Rattle.hub_core.specs.declared.events.Call.{Call}
use Rattle.hub_core.specs.declared.events.Call.TheVariants.{Define, PutLemma, PutChain, Claim, Close, Spend, Found}
use Rattle.hub_core.specs.declared.events.Event.{Event}
use Rattle.hub_core.specs.Hubs.{IsDone, IsTold, IsAllTold, IsAccounted, AreClosed, IsSoundHistory, HubValue, HubView, IsOpening, opening, new_pair, has_next, set_at, claim_after, call_after, run_from, view_of, IsClosedAt, may, AreMade, IsHistory}
use Rattle.hub_core.specs.Stays.{call_holds, closed_stays}
use Rattle.hub_core.proofs.Accounts.{history_accounts}
use Rattle.std.proofs.lemmas.Option.{same_Some}

-- the log is valid and grew from the old one by chains, equalities and lemmas
pub record GoesOn (nodes : List Node) (old new : List Entry) : Type 0 where
  pub steps : IsLog nodes new
  pub grows : Adds old new

same_goes : (nodes : List Node) (log log' : List Entry) → log' ≡ log → IsLog nodes log → GoesOn nodes log log'
same_goes nodes log log' e h = subst (GoesOn nodes log) (sym e) (record { steps = h; grows = adds_same log })

one_goes : (nodes : List Node) (log : List Entry) (e : Entry) → IsAdded e → IsLog nodes log → IsStep nodes (state_of nodes log) e → GoesOn nodes log (log ++ e ∷ [])
one_goes nodes log e k h v = record { steps = steps_append nodes start log (e ∷ []) h (v, tt); grows = adds_one log e k }

pair_goes : (nodes : List Node) (log : List Entry) (t u : ℕ) (o : Option ℕ) → place_of_pair log t u ≡ o → IsLog nodes log → IsPair nodes (state_of nodes log) t u → GoesOn nodes log (log ++ new_pair o t u)
pair_goes nodes log t u (Some p) e h m = same_goes nodes log (log ++ []) (append-nil log) h
pair_goes nodes log t u None e h m = one_goes nodes log (step.Equal t u) refl h (record { pair = m; new = no_variable nodes log t u e })

claim_goes : (nodes : List Node) (v : HubView) (n : ℕ) (b : Bool) → IsLog nodes v.log → GoesOn nodes v.log (claim_after v n b).log
claim_goes nodes v n true h = same_goes nodes v.log v.log refl h
claim_goes nodes v n false h = same_goes nodes v.log v.log refl h

pub call_goes : (law : HubValue) (v : HubView) (n : ℕ) (call : Call) → IsLog law.nodes v.log → may law v n call → GoesOn law.nodes v.log (call_after law v n call).log
call_goes law v n (Define t u) h m = pair_goes law.nodes v.log t u (place_of_pair v.log t u) refl h m
call_goes law v n (PutLemma lemma) h m = one_goes law.nodes v.log (step.Lemma lemma) refl h m
call_goes law v n (PutChain c hints) h m = one_goes law.nodes v.log (step.Chain c hints) refl h m
call_goes law v n Claim h m = claim_goes law.nodes v n (has_next law v) h
call_goes law v n (Close c p) h m = same_goes law.nodes v.log v.log refl h
call_goes law v n (Spend c) h m = same_goes law.nodes v.log v.log refl h
call_goes law v n (Found c) h m = same_goes law.nodes v.log v.log refl h

pub run_goes : (law : HubValue) (v : HubView) (es : List Event) → IsLog law.nodes v.log → AreMade law v es → GoesOn law.nodes v.log (run_from law v es).log
run_goes law v [] h m = same_goes law.nodes v.log v.log refl h
run_goes law v (e ∷ es) h m =
    let one = call_goes law v e.pass e.call h m.0 in
    let rest = run_goes law (call_after law v e.pass e.call) es one.steps m.1 in
    record { steps = rest.steps; grows = adds_then _ _ _ one.grows rest.grows }

-- ---- what is closed

set_cases : {A : Type 0} (f : ℕ → A) (c : ℕ) (x : A) (d : ℕ) → ((d ≡ c) × (set_at f c x d ≡ x)) ⊎ (set_at f c x d ≡ f d)
set_cases f c x d = go (d == c) refl
  where
    go : (q : Bool) → (d == c) ≡ q → ((d ≡ c) × (set_at f c x d ≡ x)) ⊎ (set_at f c x d ≡ f d)
    go true e = inl (eqb-true d c e, ap (λ q. if q then x else f d) e)
    go false e = inr (ap (λ q. if q then x else f d) e)

close_closed : (law : HubValue) (v : HubView) (c p : ℕ) → IsClosedAt law v.log c p → AreClosed law v → (d q : ℕ) → set_at v.closed c (Some p) d ≡ Some q → IsClosedAt law v.log d q
close_closed law v c p h all d q e =
    ⊎_elim
    (λ k. let same = same_Some _ _ (sym k.1 ∙ e) in subst (λ (z : ℕ × ℕ). IsClosedAt law v.log z.0 z.1) (λ i. (sym k.0 i, same i)) h)
    (λ k. all d q (sym k ∙ e))
    (set_cases v.closed c (Some p) d)

claim_closed : (v : HubView) (n : ℕ) (b : Bool) → (claim_after v n b).closed ≡ v.closed
claim_closed v n true = refl
claim_closed v n false = refl

later_closed : (law : HubValue) (v w : HubView) → Holds (state_of law.nodes v.log) (state_of law.nodes w.log) → w.closed ≡ v.closed → AreClosed law v → AreClosed law w
later_closed law v w x same all c p e = closed_stays law v.log w.log c p x (all c p (ap (λ f. f c) (sym same) ∙ e))

call_closed : (law : HubValue) (v : HubView) (n : ℕ) (call : Call) → may law v n call → AreClosed law v → AreClosed law (call_after law v n call)
call_closed law v n (Define t u) m all = later_closed law v (call_after law v n (Define t u)) (call_holds law v n (Define t u)) refl all
call_closed law v n (PutLemma lemma) m all = later_closed law v (call_after law v n (PutLemma lemma)) (call_holds law v n (PutLemma lemma)) refl all
call_closed law v n (PutChain c hints) m all = later_closed law v (call_after law v n (PutChain c hints)) (call_holds law v n (PutChain c hints)) refl all
call_closed law v n Claim m all = later_closed law v (call_after law v n Claim) (call_holds law v n Claim) (claim_closed v n (has_next law v)) all
call_closed law v n (Close c p) m all = close_closed law v c p m.1 all
call_closed law v n (Spend c) m all = all
call_closed law v n (Found c) m all = all

pub run_closed : (law : HubValue) (v : HubView) (es : List Event) → AreMade law v es → AreClosed law v → AreClosed law (run_from law v es)
run_closed law v [] m all = all
run_closed law v (e ∷ es) m all = run_closed law (call_after law v e.pass e.call) es m.1 (call_closed law v e.pass e.call m.0 all)

-- ---- the theorem

pub history_is_sound : (law : HubValue) (history : List Event) → IsOpening law → IsHistory law history → IsSoundHistory law history
history_is_sound law history o h =
    let goes = run_goes law (opening law) history (stands_over law.nodes law.log o.stands).steps h in
    record {
      steps = goes.steps;
      grows = goes.grows;
      sound = log_is_sound law.nodes (view_of law history).log o.listed goes.steps;
      ordered = log_is_ordered law.nodes (view_of law history).log o.listed goes.steps;
      closed = run_closed law (opening law) history h (λ c p e. let f : ⊥ = cc in absurd f);
      accounted = history_accounts law history;
    }

-- ---- when all is told

not_open : (law : HubValue) (v : HubView) (c : ℕ) → AreClosed law v → IsDone law v → v.found ≡ false → IsAccounted v c → IsTold law v c
not_open law v c all d none h =
    ⊎_elim
    (λ p. let q : true ≡ false = sym p.1 ∙ d.none_open p.0 c in let f : ⊥ = cc in absurd f)
    (λ k.
    ⊎_elim
    (λ p. inl (p.0, p.1, all c p.0 p.1))
    (λ r. ⊎_elim (λ e. inr e) (λ e. let q : true ≡ false = sym e ∙ none in let f : ⊥ = cc in absurd f) r)
    k)
    h

pub done_history_tells : (law : HubValue) (history : List Event) → IsOpening law → IsHistory law history → IsDone law (view_of law history) → IsAllTold law (view_of law history)
done_history_tells law history o h d = go (view_of law history).found refl
  where
    go : (b : Bool) → (view_of law history).found ≡ b → IsAllTold law (view_of law history)
    go true e = inl e
    go false e =
        let v = view_of law history in
        let s = history_is_sound law history o h in
        let next : ltb (view_of law history).claimed (length law.cubes) ≡ false = sym (ap (λ b. not b && ltb v.claimed (length law.cubes)) e) ∙ d.none_left in
        let all = ltb-false v.claimed (length law.cubes) next in
        inr (λ c lt. not_open law v c s.closed d e (s.accounted c (omega (arith, lt, all))))
