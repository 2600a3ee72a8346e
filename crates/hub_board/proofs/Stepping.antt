-- What a worker's own calls leave of its pass.
use Rattle.std.proofs.Common.{◌≡◌, ◌≢◌, ℕ, ◌<◌, Bool, true, false, not, List, [], ◌∷◌, ◌++◌, length, Option, Some, None, refl, sym, ap, ◌∙◌, subst, inr, append-nil}
use Rattle.std.specs.Prelude.{◌&&◌, ◌==◌, ltb, if◌then◌else◌, MatchOption}
use Rattle.std.proofs.lemmas.Bool.{eq-eqb, ltb-true, ne_eqb, and_parts}
use Rattle.shared_history.specs.Events.{of_pass}
use Rattle.hub_core.specs.declared.events.Call.{Call}
use Rattle.hub_core.specs.declared.events.Call.TheVariants.{Claim, Close, Spend, Found}
use Rattle.hub_core.specs.declared.events.Reply.{Reply}
use Rattle.hub_core.specs.declared.events.Reply.TheVariants.{Cube}
use Rattle.hub_core.specs.declared.events.Event.{Event}
use Rattle.hub_core.specs.Hubs.{HubValue, HubView, has_next, with_open, claim_after, claim_reply, call_after, view_of, by_of, event}
use Rattle.hub_core.specs.Stays.{view_snoc}
use Rattle.hub_board.specs.Boards.{BoardValue, view_in, opens_in, told_by, told, IsStepped}
use Rattle.hub_board.specs.Cubes.{IsIdle, IsBusy, IsToldMore}
use Rattle.hub_board.proofs.Seen.{told-append, opens_stay}

open_same : (f : ℕ → ℕ → Bool) (n c d : ℕ) (b : Bool) → with_open f n c b n d ≡ (if d == c then b else f n d)
open_same f n c d b = ap (λ q. if q && (d == c) then b else f n d) (eq-eqb n n refl)

closed_cube : (f : ℕ → ℕ → Bool) (n c d : ℕ) → (d ≢ c → f n d ≡ false) → with_open f n c false n d ≡ false
closed_cube f n c d h = go (d == c) refl
  where
    go : (q : Bool) → (d == c) ≡ q → with_open f n c false n d ≡ false
    go true e = open_same f n c d false ∙ ap (λ q. if q then false else f n d) e
    go false e = open_same f n c d false ∙ ap (λ q. if q then false else f n d) e ∙ h (λ same. let k : true ≡ false = sym (eq-eqb d c same) ∙ e in let x : ⊥ = cc in x)

-- what the pass has seen after the call is what came before it, and its event
view_after : (b b' : BoardValue) (call : Call) (r : Reply) → b'.hist ≡ b.hist → (h : IsStepped b.hist.law b.pass b'.pass call r) → view_in b' ≡ call_after b.hist.law (view_of b.hist.law (b.pass.seen ++ h.between)) b.pass.number call
view_after b b' call r same h = (λ i. view_of (same i).law (h.seen i)) ∙ view_snoc b.hist.law (b.pass.seen ++ h.between) (event b.pass.number call)

opens_before : (b : BoardValue) (between : List Event) → of_pass by_of b.pass.number between ≡ [] → (c : ℕ) → (view_of b.hist.law (b.pass.seen ++ between)).open_for b.pass.number c ≡ opens_in b c
opens_before b between none c = opens_stay b.hist.law b.pass.seen between b.pass.number c none

pub told_more : (b b' : BoardValue) (call : Call) (r : Reply) → told_by call ≡ call ∷ [] → IsStepped b.hist.law b.pass b'.pass call r → IsToldMore b b' call
told_more b b' call r is h = inr (ap told h.mine ∙ told-append b.pass.mine (event b.pass.number call ∷ []) ∙ ap (λ l. told b.pass.mine ++ l) (append-nil (told_by call) ∙ is))

-- the cube is open no longer
ended : (b b' : BoardValue) (c : ℕ) (call : Call) (r : Reply) → b'.hist ≡ b.hist → b'.pass.number ≡ b.pass.number → ((law : HubValue) (v : HubView) (n : ℕ) → (call_after law v n call).open_for ≡ with_open v.open_for n c false)
    → IsBusy b c → IsStepped b.hist.law b.pass b'.pass call r → IsIdle b'
ended b b' c call r same number is busy h d =
    let before = view_of b.hist.law (b.pass.seen ++ h.between) in
    (λ i. (view_after b b' call r same h i).open_for (number i) d)
    ∙ ap (λ f. f b.pass.number d) (is b.hist.law before b.pass.number)
    ∙ closed_cube before.open_for b.pass.number c d (λ ne. opens_before b h.between h.others d ∙ busy.1 d ne)

pub closed_idle : (b b' : BoardValue) (c p : ℕ) (r : Reply) → b'.hist ≡ b.hist → b'.pass.number ≡ b.pass.number → IsBusy b c → IsStepped b.hist.law b.pass b'.pass (Close c p) r → IsIdle b'
closed_idle b b' c p r same number busy h = ended b b' c (Close c p) r same number (λ law v n. refl) busy h

pub spent_idle : (b b' : BoardValue) (c : ℕ) (r : Reply) → b'.hist ≡ b.hist → b'.pass.number ≡ b.pass.number → IsBusy b c → IsStepped b.hist.law b.pass b'.pass (Spend c) r → IsIdle b'
spent_idle b b' c r same number busy h = ended b b' c (Spend c) r same number (λ law v n. refl) busy h

-- a model was found
pub found_model : (b b' : BoardValue) (c : ℕ) (r : Reply) → b'.hist ≡ b.hist → IsStepped b.hist.law b.pass b'.pass (Found c) r → (view_in b').found ≡ true
found_model b b' c r same h = ap (λ (v : HubView). v.found) (view_after b b' (Found c) r same h)

pub claimed : (b b' : BoardValue) (r : Reply) (o : Option ℕ) → b'.hist ≡ b.hist → b'.pass.number ≡ b.pass.number → r ≡ Cube o → IsStepped b.hist.law b.pass b'.pass Claim r → IsIdle b
    → MatchOption o (IsIdle b' × (has_next b'.hist.law (view_in b') ≡ false)) (λ c. (c < length b'.hist.law.cubes) × IsBusy b' c)
claimed b b' r o same number said h idle = go (has_next b.hist.law (view_of b.hist.law (b.pass.seen ++ h.between))) refl
  where
    go : (q : Bool) → has_next b.hist.law (view_of b.hist.law (b.pass.seen ++ h.between)) ≡ q → MatchOption o (IsIdle b' × (has_next b'.hist.law (view_in b') ≡ false)) (λ c. (c < length b'.hist.law.cubes) × IsBusy b' c)
    go false e =
        let law = b.hist.law in
        let n = b.pass.number in
        let before = view_of law (b.pass.seen ++ h.between) in
        let is : Cube o ≡ Cube None = sym said ∙ h.replied ∙ ap (λ q. claim_reply q before.claimed) e in
        let none : None ≡ o = cc in
        let after : view_in b' ≡ before = view_after b b' Claim r same h ∙ ap (claim_after before n) e in
        subst (λ x. MatchOption x (IsIdle b' × (has_next b'.hist.law (view_in b') ≡ false)) (λ c. (c < length b'.hist.law.cubes) × IsBusy b' c)) none (
          λ d. (λ i. (after i).open_for (number i) d) ∙ opens_before b h.between h.others d ∙ idle d,
          (λ i. has_next (same i).law (after i)) ∙ e,
        )
    go true e =
        let law = b.hist.law in
        let n = b.pass.number in
        let before = view_of law (b.pass.seen ++ h.between) in
        let is : Cube o ≡ Cube (Some before.claimed) = sym said ∙ h.replied ∙ ap (λ q. claim_reply q before.claimed) e in
        let some : Some before.claimed ≡ o = cc in
        let after : view_in b' ≡ claim_after before n true = view_after b b' Claim r same h ∙ ap (claim_after before n) e in
        let lt : before.claimed < length law.cubes = ltb-true before.claimed (length law.cubes) (and_parts (not before.found) (ltb before.claimed (length law.cubes)) e).1 in
        subst (λ x. MatchOption x (IsIdle b' × (has_next b'.hist.law (view_in b') ≡ false)) (λ c. (c < length b'.hist.law.cubes) × IsBusy b' c)) some (
          subst (λ s. before.claimed < length s.law.cubes) (sym same) lt,
          (
            (λ i. (after i).open_for (number i) before.claimed) ∙ open_same before.open_for n before.claimed before.claimed true ∙ ap (λ q. if q then true else before.open_for n before.claimed) (eq-eqb before.claimed before.claimed refl),
            λ d ne. (λ i. (after i).open_for (number i) d) ∙ open_same before.open_for n before.claimed d true ∙ ap (λ q. if q then true else before.open_for n d) (ne_eqb d before.claimed ne) ∙ opens_before b h.between h.others d ∙ idle d,
          ),
        )
