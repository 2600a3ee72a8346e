-- What became of each cube that was claimed.
use Rattle.std.proofs.Common.{◌≡◌, ◌≢◌, ℕ, Bool, true, false, List, [], ◌∷◌, Some, refl, sym, ap, ◌∙◌, subst, inl, inr, ⊎_elim, arith}
use Rattle.std.specs.Prelude.{◌==◌, ◌&&◌, if◌then◌else◌}
use Rattle.std.proofs.lemmas.Bool.{eq-eqb, ne_eqb, cases_eq}
use Rattle.hub_core.specs.declared.events.Call.{Call}
use Rattle.hub_core.specs.declared.events.Call.TheVariants.{Define, PutLemma, PutChain, Claim, Close, Spend, Found}
use Rattle.hub_core.specs.declared.events.Event.{Event}
use Rattle.hub_core.specs.Hubs.{HubValue, HubView, opening, has_next, with_open, set_at, claim_after, call_after, run_from, view_of, IsAccounted, AreAccounted}
use Rattle.std.proofs.Math.Bool.{and-false}

open_here : (f : ℕ → ℕ → Bool) (n c : ℕ) → with_open f n c true n c ≡ true
open_here f n c = (λ i. if eq-eqb n n refl i && eq-eqb c c refl i then true else f n c)

open_else : (f : ℕ → ℕ → Bool) (n c : ℕ) (b : Bool) (m d : ℕ) → d ≢ c → with_open f n c b m d ≡ f m d
open_else f n c b m d ne = ap (λ q. if (m == n) && q then b else f m d) (ne_eqb d c ne) ∙ ap (λ q. if q then b else f m d) (and-false (m == n))

pub set_here : {A : Type 0} (f : ℕ → A) (c : ℕ) (x : A) → set_at f c x c ≡ x
set_here f c x = ap (λ b. if b then x else f c) (eq-eqb c c refl)

pub set_else : {A : Type 0} (f : ℕ → A) (c : ℕ) (x : A) (d : ℕ) → d ≢ c → set_at f c x d ≡ f d
set_else f c x d ne = ap (λ b. if b then x else f d) (ne_eqb d c ne)

claim_accounts : (v : HubView) (n : ℕ) (b : Bool) → AreAccounted v → AreAccounted (claim_after v n b)
claim_accounts v n false h c lt = h c lt
claim_accounts v n true h c lt =
    ⊎_elim
    (λ e. subst (λ d. IsAccounted (claim_after v n true) d) (sym e) (inl (n, open_here v.open_for n v.claimed)))
    (λ ne.
    ⊎_elim
    (λ p. inl (p.0, open_else v.open_for n v.claimed true p.0 c ne ∙ p.1))
    (λ p. inr p)
    (h c (omega (arith, lt, ne))))
    (cases_eq c v.claimed)

call_accounts : (law : HubValue) (v : HubView) (n : ℕ) (call : Call) → AreAccounted v → AreAccounted (call_after law v n call)
call_accounts law v n (Define t u) h d lt = h d lt
call_accounts law v n (PutLemma lemma) h d lt = h d lt
call_accounts law v n (PutChain c hints) h d lt = h d lt
call_accounts law v n Claim h d lt = claim_accounts v n (has_next law v) h d lt
call_accounts law v n (Close c p) h d lt =
    ⊎_elim
    (λ e. inr (inl (p, ap (set_at v.closed c (Some p)) e ∙ set_here v.closed c (Some p))))
    (λ ne.
    ⊎_elim
    (λ q. inl (q.0, open_else v.open_for n c false q.0 d ne ∙ q.1))
    (λ q. inr (⊎_elim (λ r. inl (r.0, set_else v.closed c (Some p) d ne ∙ r.1)) (λ r. inr r) q))
    (h d lt))
    (cases_eq d c)
call_accounts law v n (Spend c) h d lt =
    ⊎_elim
    (λ e. inr (inr (inl (ap (set_at v.spent c true) e ∙ set_here v.spent c true))))
    (λ ne.
    ⊎_elim
    (λ q. inl (q.0, open_else v.open_for n c false q.0 d ne ∙ q.1))
    (λ q. inr (⊎_elim (λ r. inl r) (λ r. inr (⊎_elim (λ x. inl (set_else v.spent c true d ne ∙ x)) (λ x. inr x) r)) q))
    (h d lt))
    (cases_eq d c)
call_accounts law v n (Found c) h d lt = inr (inr (inr refl))

run_accounts : (law : HubValue) (v : HubView) (es : List Event) → AreAccounted v → AreAccounted (run_from law v es)
run_accounts law v [] h = h
run_accounts law v (e ∷ es) h = run_accounts law (call_after law v e.pass e.call) es (call_accounts law v e.pass e.call h)

-- of every list of events
pub history_accounts : (law : HubValue) (history : List Event) → AreAccounted (view_of law history)
history_accounts law history = run_accounts law (opening law) history (λ c lt. absurd (omega (arith, lt)))
