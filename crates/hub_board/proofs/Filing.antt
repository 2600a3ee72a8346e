-- The steps of events, and what is filed of them.
use Rattle.std.proofs.Common.{◌≡◌, ℕ, zero, suc, ◌+◌, ◌-◌, ◌<◌, ◌≤◌, Bool, true, false, List, [], ◌∷◌, ◌++◌, length, take, drop, Option, Some, None, refl, sym, ap, ◌∙◌, subst, inl, inr, ⊎_elim, arith, append_assoc, append-nil, length-append}
use Rattle.std.specs.Prelude.{◌⊎◌, ◌||◌, slice_get}
use Rattle.std.specs.List.{AllByRecursion}
use Rattle.std.proofs.lemmas.Bool.{cases_lt}
use Rattle.std.proofs.lemmas.List.{take-append-le, take_more, get_or-drop, length-drop}
use Rattle.std.proofs.lemmas.Option.{slice_get_within, slice_get-get_or, get_or_from_slice_get}
use Rattle.cnf_base.proofs.Lists.{slice_get-append_left, slice_get-push_cases, each_append}
use Rattle.proof_log.specs.declared.entry.Entry.{Entry}
use Rattle.proof_log.specs.Boards.{IsOfSearch}
use Rattle.hub_core.specs.Hubs.{HubValue, HubView, has_next, claim_after, call_after, run_from}
use Rattle.hub_core.specs.declared.events.Call.{Call}
use Rattle.hub_core.specs.declared.events.Call.TheVariants.{Define, PutLemma, PutChain, Claim, Close, Spend, Found}
use Rattle.hub_core.specs.declared.events.Event.{Event}
use Rattle.hub_board.specs.declared.table.Table.{Table}
use Rattle.hub_board.specs.Chains.{AddsChains, AddChains, chain_of, chains_of}
use Rattle.hub_board.specs.Filing.{tells_found, any_found, IsThere, AreRight, IsFiled}

-- ---- steps

pub steps-append : (es more : List Event) → chains_of (es ++ more) ≡ chains_of es ++ chains_of more
steps-append [] more = refl
steps-append (e ∷ es) more = ap (λ l. chain_of e.call ++ l) (steps-append es more) ∙ sym (append_assoc (chain_of e.call) (chains_of es) (chains_of more))

chain_is : (c : Call) → AllByRecursion IsOfSearch (chain_of c)
chain_is (Define t u) = tt
chain_is (PutLemma lemma) = tt
chain_is (PutChain c hints) = (refl, tt)
chain_is Claim = tt
chain_is (Close c p) = tt
chain_is (Spend c) = tt
chain_is (Found c) = tt

pub steps_chains : (es : List Event) → AllByRecursion IsOfSearch (chains_of es)
steps_chains [] = tt
steps_chains (e ∷ es) = each_append IsOfSearch (chain_of e.call) (chains_of es) (chain_is e.call) (steps_chains es)

claim_log : (v : HubView) (n : ℕ) (b : Bool) → (claim_after v n b).log ≡ v.log
claim_log v n true = refl
claim_log v n false = refl

call_log : (law : HubValue) (v : HubView) (n : ℕ) (call : Call) → AddsChains call → (call_after law v n call).log ≡ v.log ++ chain_of call
call_log law v n (Define t u) h = absurd h
call_log law v n (PutLemma lemma) h = absurd h
call_log law v n (PutChain c hints) h = refl
call_log law v n Claim h = claim_log v n (has_next law v) ∙ sym (append-nil v.log)
call_log law v n (Close c p) h = sym (append-nil v.log)
call_log law v n (Spend c) h = sym (append-nil v.log)
call_log law v n (Found c) h = sym (append-nil v.log)

-- the log is the old one and the steps of the events
pub run_log : (law : HubValue) (v : HubView) (es : List Event) → AddChains es → (run_from law v es).log ≡ v.log ++ chains_of es
run_log law v [] h = sym (append-nil v.log)
run_log law v (e ∷ es) h =
    run_log law (call_after law v e.pass e.call) es h.1
    ∙ ap (λ l. l ++ chains_of es) (call_log law v e.pass e.call h.0)
    ∙ append_assoc v.log (chain_of e.call) (chains_of es)

-- what is left of events that put chains alone
pub chains_left : (n : ℕ) (es : List Event) → AddChains es → AddChains (drop n es)
chains_left zero es h = h
chains_left (suc n) [] h = h
chains_left (suc n) (e ∷ es) h = chains_left n es h.1

-- ---- whether a model was found

or_assoc : (a b c : Bool) → ((a || b) || c) ≡ (a || (b || c))
or_assoc true b c = refl
or_assoc false b c = refl

or_false : (a : Bool) → a ≡ (a || false)
or_false true = refl
or_false false = refl

or_true : (a : Bool) → true ≡ (a || true)
or_true true = refl
or_true false = refl

claim_found : (v : HubView) (n : ℕ) (b : Bool) → (claim_after v n b).found ≡ v.found
claim_found v n true = refl
claim_found v n false = refl

call_found : (law : HubValue) (v : HubView) (n : ℕ) (call : Call) → (call_after law v n call).found ≡ (v.found || tells_found call)
call_found law v n (Define t u) = or_false v.found
call_found law v n (PutLemma lemma) = or_false v.found
call_found law v n (PutChain c hints) = or_false v.found
call_found law v n Claim = claim_found v n (has_next law v) ∙ or_false v.found
call_found law v n (Close c p) = or_false v.found
call_found law v n (Spend c) = or_false v.found
call_found law v n (Found c) = or_true v.found

pub run_found : (law : HubValue) (v : HubView) (es : List Event) → (run_from law v es).found ≡ (v.found || any_found es)
run_found law v [] = or_false v.found
run_found law v (e ∷ es) =
    run_found law (call_after law v e.pass e.call) es
    ∙ ap (λ b. b || any_found es) (call_found law v e.pass e.call)
    ∙ or_assoc v.found (tells_found e.call) (any_found es)

pub found-append : (es more : List Event) → any_found (es ++ more) ≡ (any_found es || any_found more)
found-append [] more = refl
found-append (e ∷ es) more = ap (λ b. tells_found e.call || b) (found-append es more) ∙ sym (or_assoc (tells_found e.call) (any_found es) (any_found more))

-- ---- rows

pub right_longer : (rows : List (Option Entry)) (steps more : List Entry) → AreRight rows steps → AreRight rows (steps ++ more)
right_longer rows steps more h i e q = let k = h i e q in slice_get-append_left steps more i (slice_get_within steps i e k) ∙ k

-- what is filed of some events is filed of them and more
pub filed_longer : (t : Table) (seen more : List Event) → IsFiled t seen → IsFiled t (seen ++ more)
filed_longer t seen more h =
    let same : take t.filed (seen ++ more) ≡ take t.filed seen = take-append-le t.filed seen more h.within in
    let long = length-append seen more in
    let w = h.within in
    record {
      within = omega (arith, w, long);
      next = h.next ∙ ap (λ l. length (chains_of l)) (sym same);
      found = h.found ∙ ap any_found (sym same);
      right = subst (AreRight t.rows.items) (sym (steps-append seen more)) (right_longer t.rows.items (chains_of seen) (chains_of more) h.right);
      full = h.full;
    }

-- one event more is filed
pub filed_more : (t t' : Table) (seen : List Event) (e : Event) → IsFiled t seen → slice_get seen t.filed ≡ Some e
    → t'.filed ≡ suc t.filed → t'.next ≡ t.next + length (chain_of e.call) → t'.found ≡ (t.found || tells_found e.call)
    → AreRight t'.rows.items (chains_of seen) → ((i : ℕ) → i < t'.next → IsThere t'.rows.items i) → IsFiled t' seen
filed_more t t' seen e h here filed next found right full =
    let lt : t.filed < length seen = slice_get_within seen t.filed e here in
    let plus : suc t.filed ≡ t.filed + 1 = omega arith in
    let is : take t'.filed seen ≡ take t.filed seen ++ e ∷ [] =
    ap (λ k. take k seen) (filed ∙ plus) ∙ take_more seen t.filed e lt ∙ ap (λ x. take t.filed seen ++ x ∷ []) (get_or_from_slice_get seen t.filed e e here) in
    let steps : chains_of (take t'.filed seen) ≡ chains_of (take t.filed seen) ++ chain_of e.call =
    ap chains_of is ∙ steps-append (take t.filed seen) (e ∷ []) ∙ ap (λ l. chains_of (take t.filed seen) ++ l) (append-nil (chain_of e.call)) in
    let was = h.next in
    let sum : length (chains_of (take t'.filed seen)) ≡ length (chains_of (take t.filed seen)) + length (chain_of e.call) = ap length steps ∙ length-append (chains_of (take t.filed seen)) (chain_of e.call) in
    record {
      within = omega (arith, lt, filed);
      next = omega (arith, next, was, sum);
      found = found ∙ ap (λ b. b || tells_found e.call) h.found ∙ ap (λ b. any_found (take t.filed seen) || b) (or_false (tells_found e.call)) ∙ sym (found-append (take t.filed seen) (e ∷ [])) ∙ ap any_found (sym is);
      right = right;
      full = full;
    }

-- the step that an event at this place adds stands behind those of the events before
pub step_here : (seen : List Event) (k : ℕ) (e : Event) (s : Entry) → slice_get seen k ≡ Some e → chain_of e.call ≡ s ∷ [] → slice_get (chains_of seen) (length (chains_of (take k seen))) ≡ Some s
step_here [] k e s q a = let f : ⊥ = cc in absurd f
step_here (x ∷ seen) zero e s q a =
    let same : x ≡ e = cc in
    ap (λ l. slice_get (l ++ chains_of seen) 0) (ap (λ (y : Event). chain_of y.call) same ∙ a)
step_here (x ∷ seen) (suc k) e s q a =
    ap (slice_get (chain_of x.call ++ chains_of seen)) (length-append (chain_of x.call) (chains_of (take k seen)))
    ∙ shifted (chain_of x.call) (chains_of seen) (length (chains_of (take k seen)))
    ∙ step_here seen k e s q a
  where
    shifted : (xs ys : List Entry) (i : ℕ) → slice_get (xs ++ ys) (length xs + i) ≡ slice_get ys i
    shifted [] ys i = ap (slice_get ys) (let k : 0 + i ≡ i = omega arith in k)
    shifted (x ∷ xs) ys i = ap (slice_get (x ∷ xs ++ ys)) (let k : suc (length xs) + i ≡ suc (length xs + i) = omega arith in k) ∙ shifted xs ys i

-- an element of what is left
pub left_element : {X : Type 0} (xs : List X) (n i : ℕ) (x : X) → slice_get (drop n xs) i ≡ Some x → slice_get xs (n + i) ≡ Some x
left_element xs n i x q =
    let lt = slice_get_within (drop n xs) i x q in
    let long : length (drop n xs) ≡ length xs - n = length-drop n xs in
    slice_get-get_or xs (n + i) x (omega (arith, lt, long)) ∙ ap Some (sym (get_or-drop n xs i x) ∙ get_or_from_slice_get (drop n xs) i x x q)

-- ---- room

pub room_kept : (old new : List (Option Entry)) → new ≡ old ++ None ∷ [] → (i : ℕ) (e : Entry) → slice_get old i ≡ Some (Some e) → slice_get new i ≡ Some (Some e)
room_kept old new is i e q = ap (λ l. slice_get l i) is ∙ slice_get-append_left old (None ∷ []) i (slice_get_within old i (Some e) q) ∙ q

pub room_only : (old new : List (Option Entry)) → new ≡ old ++ None ∷ [] → (i : ℕ) (e : Entry) → slice_get new i ≡ Some (Some e) → slice_get old i ≡ Some (Some e)
room_only old new is i e q =
    ⊎_elim
    (λ was. was)
    (λ (last : (i ≡ length old) × (None ≡ Some e)). let n = last.1 in let f : ⊥ = cc in absurd f)
    (slice_get-push_cases old None (Some e) i (ap (λ l. slice_get l i) (sym is) ∙ q))

-- ---- one event more

-- the rows alone changed
pub filed_rows : (t t' : Table) (seen : List Event) → t'.filed ≡ t.filed → t'.next ≡ t.next → t'.found ≡ t.found → AreRight t'.rows.items (chains_of seen) → ((i : ℕ) → IsThere t.rows.items i → IsThere t'.rows.items i) → IsFiled t seen → IsFiled t' seen
filed_rows t t' seen filed next found right kept h =
    let w = h.within in
    record {
      within = omega (arith, w, filed);
      next = next ∙ h.next ∙ ap (λ k. length (chains_of (take k seen))) (sym filed);
      found = found ∙ h.found ∙ ap (λ k. any_found (take k seen)) (sym filed);
      right = right;
      full = λ i lt. kept i (h.full i (omega (arith, lt, next)));
    }

-- the step of the next event
pub next_step : (t : Table) (seen : List Event) (e : Event) → IsFiled t seen → slice_get seen t.filed ≡ Some e → (s : Entry) → chain_of e.call ≡ s ∷ [] → slice_get (chains_of seen) t.next ≡ Some s
next_step t seen e h here s is = ap (slice_get (chains_of seen)) h.next ∙ step_here seen t.filed e s here is

pub event_filed : (t u : Table) (filed : ℕ) (seen : List Event) (e : Event) → slice_get seen t.filed ≡ Some e → IsFiled t seen
    → u.filed ≡ t.filed → ((i : ℕ) → IsThere t.rows.items i → IsThere u.rows.items i)
    → ((steps : List Entry) → ((s : Entry) → chain_of e.call ≡ s ∷ [] → slice_get steps t.next ≡ Some s) → AreRight t.rows.items steps → AreRight u.rows.items steps)
    → u.next ≡ t.next + length (chain_of e.call) → u.found ≡ (t.found || tells_found e.call) → ((i : ℕ) → i < u.next → (i < t.next) ⊎ IsThere u.rows.items i)
    → filed ≡ suc t.filed → IsFiled (record u { filed = filed }) seen
event_filed t u filed seen e here h same kept right next found full is =
    filed_more t (record u { filed = filed }) seen e h here is next found (right (chains_of seen) (next_step t seen e h here) h.right)
    (λ i lt. ⊎_elim (λ old. kept i (h.full i old)) (λ new. new) (full i lt))

-- the next row is filled
pub full_more : (rows : List (Option Entry)) (old next i : ℕ) → next ≡ old + 1 → IsThere rows old → i < next → (i < old) ⊎ IsThere rows i
full_more rows old next i is there lt =
    ⊎_elim (λ (l : i < old). inl l) (λ (ge : old ≤ i). let same : old ≡ i = omega (arith, is, lt, ge) in inr (subst (IsThere rows) same there)) (cases_lt i old)

pub call_failed : (t u : Table) (seen : List Event) (e : Event) → slice_get seen t.filed ≡ Some e → IsFiled t seen
    → u.filed ≡ t.filed → ((i : ℕ) → IsThere t.rows.items i → IsThere u.rows.items i)
    → ((steps : List Entry) → ((s : Entry) → chain_of e.call ≡ s ∷ [] → slice_get steps t.next ≡ Some s) → AreRight t.rows.items steps → AreRight u.rows.items steps)
    → u.next ≡ t.next → u.found ≡ t.found → IsFiled u seen
call_failed t u seen e here h same kept right next found = filed_rows t u seen same next found (right (chains_of seen) (next_step t seen e h here) h.right) kept h
