-- A history that is put into the log that its hub was opened over.
use Rattle.std.proofs.Common.{◌≡◌, ℕ, ◌+◌, ◌<◌, Bool, true, false, List, [], ◌∷◌, ◌++◌, length, take, get_or, Some, None, refl, sym, ap, ◌∙◌, subst, inl, inr, ⊎_elim, arith, append-nil}
use Rattle.std.specs.Prelude.{◌⊎◌, ◌==◌, ◌≤◌, if◌then◌else◌, slice_get, slice_set}
use Rattle.std.proofs.Math.ListN.{length-set}
use Rattle.std.proofs.lemmas.Bool.{eqb-true, eq-eqb}
use Rattle.std.proofs.lemmas.List.{take_more}
use Rattle.std.proofs.lemmas.Option.{slice_get_within, get_or_from_slice_get, same_Some}
use Rattle.cnf_base.proofs.Lists.{slice_get-set_same, slice_get-set_other}
use Rattle.smt_terms.specs.declared.node.Node.{Node}
use Rattle.proof_log.specs.declared.entry.Entry.{Entry}
use Rattle.proof_log.specs.declared.entry.Entry.TheVariants as step
use Rattle.proof_log.specs.Logs.{state_of, IsEqual}
use Rattle.proof_log.specs.Places.{place_of_pair}
use Rattle.proof_log.specs.Stored.{LogValue, Stands, pair_place}
use Rattle.proof_log.proofs.Adding.{pair_is_new}
use Rattle.proof_log.proofs.Equalities.{held_is_place}
use Rattle.hub_core.specs.declared.events.Call.{Call}
use Rattle.hub_core.specs.declared.events.Call.TheVariants.{Define, PutLemma, PutChain, Claim, Close, Spend, Found}
use Rattle.hub_core.specs.declared.events.Event.{Event}
use Rattle.hub_core.specs.Hubs.{HubValue, HubView, has_next, set_at, claim_after, call_after, view_of, added, new_pair, event, may, permitted, IsHistory}
use Rattle.hub_core.specs.Stays.{view_snoc}
use Rattle.hub_core.proofs.Acts.{made_at}
use Rattle.cube_workers.specs.Histories.{MayPut, IsMadeBy, ArePlaces}

-- ---- steps

may_put : (law : HubValue) (v : HubView) (n : ℕ) (call : Call) → may law v n call → MayPut law.nodes v.log call
may_put law v n (Define t u) h = h
may_put law v n (PutLemma lemma) h = h
may_put law v n (PutChain c hints) h = h
may_put law v n Claim h = tt
may_put law v n (Close c p) h = tt
may_put law v n (Spend c) h = tt
may_put law v n (Found c) h = tt

-- the event's step is valid behind those of the events before it
pub may_put_at : (law : HubValue) (nodes : List Node) (old now : List Entry) (es : List Event) (i : ℕ) (e : Event) → law.nodes ≡ nodes → law.log.entries ≡ old → IsHistory law es → slice_get es i ≡ Some e → IsMadeBy (take i es) old now → MayPut nodes now e.call
may_put_at law nodes old now es i e same log made here is =
    let lt = slice_get_within es i e here in
    let at : get_or es i e ≡ e = get_or_from_slice_get es i e e here in
    let ok : may law (view_of law (take i es)) e.pass e.call = subst (λ (x : Event). permitted law (take i es) x.pass x.call) at (made_at law es i e lt made) in
    subst (λ n. MayPut n now e.call) same (subst (λ l. MayPut law.nodes l e.call) (sym (is law log)) (may_put law (view_of law (take i es)) e.pass e.call ok))

-- a pair that has its step, or may have it
pub pair_there : (nodes : List Node) (log : LogValue) (t u at : ℕ) (call : Call) → Stands nodes log → call ≡ Define t u → pair_place log.equals t u ≡ Some at → log.entries ≡ log.entries ++ added log.entries call
pair_there nodes log t u at call stands is held =
    let place : place_of_pair log.entries t u ≡ Some at = sym (held_is_place nodes log t u stands) ∙ held in
    sym (ap (λ c. log.entries ++ added log.entries c) is ∙ ap (λ o. log.entries ++ new_pair o t u) place ∙ append-nil log.entries)

pub pair_put : (nodes : List Node) (log : LogValue) (new : List Entry) (t u : ℕ) (call : Call) → Stands nodes log → call ≡ Define t u → pair_place log.equals t u ≡ None → new ≡ log.entries ++ step.Equal t u ∷ [] → new ≡ log.entries ++ added log.entries call
pair_put nodes log new t u call stands is none pushed =
    let place : place_of_pair log.entries t u ≡ None = sym (held_is_place nodes log t u stands) ∙ none in
    pushed ∙ sym (ap (λ c. log.entries ++ added log.entries c) is ∙ ap (λ o. log.entries ++ new_pair o t u) place)

pub pair_valid : (nodes : List Node) (log : LogValue) (t u : ℕ) (call : Call) → Stands nodes log → call ≡ Define t u → pair_place log.equals t u ≡ None → MayPut nodes log.entries call → IsEqual nodes (state_of nodes log.entries) t u
pair_valid nodes log t u call stands is none may = pair_is_new nodes log t u stands (subst (MayPut nodes log.entries) is may) none

claim_log : (v : HubView) (n : ℕ) (b : Bool) → (claim_after v n b).log ≡ v.log
claim_log v n true = refl
claim_log v n false = refl

-- what a call makes of the log
call_adds : (law : HubValue) (v : HubView) (n : ℕ) (call : Call) → (call_after law v n call).log ≡ v.log ++ added v.log call
call_adds law v n (Define t u) = refl
call_adds law v n (PutLemma lemma) = refl
call_adds law v n (PutChain c hints) = refl
call_adds law v n Claim = claim_log v n (has_next law v) ∙ sym (append-nil v.log)
call_adds law v n (Close c p) = sym (append-nil v.log)
call_adds law v n (Spend c) = sym (append-nil v.log)
call_adds law v n (Found c) = sym (append-nil v.log)

-- the first events, and one more
pub one_more : (es : List Event) (i : ℕ) (e : Event) → slice_get es i ≡ Some e → take (i + 1) es ≡ take i es ++ e ∷ []
one_more es i e here = take_more es i e (slice_get_within es i e here) ∙ ap (λ x. take i es ++ x ∷ []) (get_or_from_slice_get es i e e here)

-- the step of one event more was put
pub made_more : (old now new : List Entry) (es : List Event) (i : ℕ) (e : Event) → slice_get es i ≡ Some e → IsMadeBy (take i es) old now → new ≡ now ++ added now e.call → IsMadeBy (take (i + 1) es) old new
made_more old now new es i e here is more law log =
    more
    ∙ ap (λ l. l ++ added l e.call) (is law log)
    ∙ sym (call_adds law (view_of law (take i es)) e.pass e.call)
    ∙ ap (λ (v : HubView). v.log) (sym (view_snoc law (take i es) e))
    ∙ ap (λ l. (view_of law l).log) (sym (one_more es i e here))

pub made_none : (old : List Entry) → IsMadeBy [] old old
made_none old law log = sym log

-- ---- places

claim_closed : (v : HubView) (n : ℕ) (b : Bool) → (claim_after v n b).closed ≡ v.closed
claim_closed v n true = refl
claim_closed v n false = refl

-- a call that closes no cube leaves those that are closed
call_closes_none : (law : HubValue) (v : HubView) (n : ℕ) (call : Call) → ((d q : ℕ) → call ≡ Close d q → ⊥) → (call_after law v n call).closed ≡ v.closed
call_closes_none law v n (Define t u) other = refl
call_closes_none law v n (PutLemma lemma) other = refl
call_closes_none law v n (PutChain c hints) other = refl
call_closes_none law v n Claim other = claim_closed v n (has_next law v)
call_closes_none law v n (Close c p) other = absurd (other c p refl)
call_closes_none law v n (Spend c) other = refl
call_closes_none law v n (Found c) other = refl

pub places_other : (law : HubValue) (seen : List Event) (n : ℕ) (call : Call) (places : List ℕ) → ((d q : ℕ) → call ≡ Close d q → ⊥) → ArePlaces law seen places → ArePlaces law (seen ++ event n call ∷ []) places
places_other law seen n call places other h c p lt e =
    h c p lt (ap (λ f. f c) (sym (call_closes_none law (view_of law seen) n call other)) ∙ ap (λ (v : HubView). v.closed c) (sym (view_snoc law seen (event n call))) ∙ e)

-- where a cube was closed last, at this place or before
closed_cases : (law : HubValue) (seen : List Event) (n d q c p : ℕ) → (view_of law (seen ++ event n (Close d q) ∷ [])).closed c ≡ Some p → ((c ≡ d) × (q ≡ p)) ⊎ (((c ≡ d) → ⊥) × ((view_of law seen).closed c ≡ Some p))
closed_cases law seen n d q c p e = go (c == d) refl
  where
    is : set_at (view_of law seen).closed d (Some q) c ≡ Some p
    is = ap (λ (v : HubView). v.closed c) (sym (view_snoc law seen (event n (Close d q)))) ∙ e

    go : (b : Bool) → (c == d) ≡ b → ((c ≡ d) × (q ≡ p)) ⊎ (((c ≡ d) → ⊥) × ((view_of law seen).closed c ≡ Some p))
    go true k = inl (eqb-true c d k, same_Some _ _ (ap (λ b. if b then Some q else (view_of law seen).closed c) (sym k) ∙ is))
    go false k = inr (
      λ same. let t : true ≡ false = sym (eq-eqb c d same) ∙ k in let f : ⊥ = cc in f,
      ap (λ b. if b then Some q else (view_of law seen).closed c) (sym k) ∙ is,
    )

same_length : (places : List ℕ) (d q : ℕ) → length (slice_set places d q) ≡ length places
same_length places d q = simp length-set

pub places_set : (law : HubValue) (seen : List Event) (n d q : ℕ) (call : Call) (places new : List ℕ) → call ≡ Close d q → d < length places → new ≡ slice_set places d q → ArePlaces law seen places → ArePlaces law (seen ++ event n call ∷ []) new
places_set law seen n d q call places new is lt set h c p within e =
    let long : length new ≡ length places = ap length set ∙ same_length places d q in
    ⊎_elim
    (λ (here : (c ≡ d) × (q ≡ p)). ap (λ l. slice_get l c) set ∙ ap (slice_get (slice_set places d q)) here.0 ∙ slice_get-set_same places d q lt ∙ ap Some here.1)
    (λ (other : ((c ≡ d) → ⊥) × ((view_of law seen).closed c ≡ Some p)). ap (λ l. slice_get l c) set ∙ slice_get-set_other places d c q other.0 ∙ h c p (omega (arith, within, long)) other.1)
    (closed_cases law seen n d q c p (ap (λ x. (view_of law (seen ++ event n x ∷ [])).closed c) (sym is) ∙ e))

pub places_past : (law : HubValue) (seen : List Event) (n d q : ℕ) (call : Call) (places : List ℕ) → call ≡ Close d q → length places ≤ d → ArePlaces law seen places → ArePlaces law (seen ++ event n call ∷ []) places
places_past law seen n d q call places is le h c p within e =
    ⊎_elim
    (λ (here : (c ≡ d) × (q ≡ p)). let same = here.0 in absurd (omega (arith, same, within, le)))
    (λ (other : ((c ≡ d) → ⊥) × ((view_of law seen).closed c ≡ Some p)). h c p within other.1)
    (closed_cases law seen n d q c p (ap (λ x. (view_of law (seen ++ event n x ∷ [])).closed c) (sym is) ∙ e))

-- one event more was looked at
pub places_more : (law : HubValue) (es : List Event) (i : ℕ) (e : Event) (places new : List ℕ) → slice_get es i ≡ Some e → ArePlaces law (take i es) places
    → ((seen : List Event) (n : ℕ) → ArePlaces law seen places → ArePlaces law (seen ++ event n e.call ∷ []) new) → ArePlaces law (take (i + 1) es) new
places_more law es i e places new here h more = subst (λ l. ArePlaces law l new) (sym (one_more es i e here)) (more (take i es) e.pass h)
