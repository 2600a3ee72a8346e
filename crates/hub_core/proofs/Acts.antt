-- Each call keeps the state that of its history.
use Rattle.std.proofs.Common.{◌≡◌, ◌≢◌, ℕ, zero, suc, ◌+◌, ◌<◌, Bool, true, false, not, List, [], ◌∷◌, ◌++◌, length, take, drop, get_or, Option, Some, None, refl, sym, ap, ◌∙◌, subst, inl, inr, ⊎_elim, arith, length-append, append-nil}
use Rattle.std.proofs.lemmas.List.{take-append-drop, drop_more}
use Rattle.std.specs.Prelude.{◌==◌, ◌&&◌, ◌||◌, ◌⊎◌, ltb, slice_get, if◌then◌else◌, MatchOption}
use Rattle.std.proofs.lemmas.Bool.{eqb-true, eq-eqb, and_parts}
use Rattle.cnf_base.specs.Literals.{Literal}
use Rattle.cnf_base.specs.declared.clause.ClauseId.{ClauseId}
use Rattle.proof_log.specs.declared.entry.Entry.{Entry}
use Rattle.proof_log.specs.declared.entry.Entry.TheVariants as step
use Rattle.theory_terms.specs.declared.lemma.Lemma.{Lemma}
use Rattle.proof_log.specs.Pairs.{with_pair, found}
use Rattle.proof_log.specs.Places.{is_equality, place_of_pair}
use Rattle.proof_log.specs.Stored.{pair_place}
use Rattle.proof_log.proofs.Equalities.{first_of, place_at, place_more, first_none, place_stays, held_is_place}
use Rattle.hub_core.specs.declared.events.Call.{Call}
use Rattle.hub_core.specs.declared.events.Call.TheVariants.{Define, PutLemma, PutChain, Claim, Close, Spend, Found}
use Rattle.hub_core.specs.declared.events.Reply.{Reply}
use Rattle.hub_core.specs.declared.events.Reply.TheVariants.{Cube}
use Rattle.hub_core.specs.declared.events.Event.{Event}
use Rattle.hub_core.specs.declared.state.HubState.{HubState}
use Rattle.hub_core.specs.declared.state.CubeStage.{CubeStage}
use Rattle.hub_core.specs.Hubs.{HubValue, HubView, IsOpening, opening, new_pair, pair_or, has_next, with_open, set_at, claim_after, call_after, run_from, view_of, AreMade, permitted, reply, claim_reply, IsHistory, event}
use Rattle.hub_core.specs.Standing.{is_open, closed_at, is_spent, or_else, Matches, ArePlaced, IsHub, IsDrawn, IsDefined}
use Rattle.hub_core.specs.Stays.{view_snoc, history_snoc}
use Rattle.std.proofs.Math.Bool.{and-false, and-true, or-false, or-true}
use Rattle.cnf_base.proofs.Lists.{slice_get-push}
use Rattle.hub_core.proofs.Accounts.{set_here, set_else}

pub done : (law : HubValue) (s' : HubState) (h : List Event) (n : ℕ) (call : Call) → IsHistory law h → permitted law h n call → Matches s' (call_after law (view_of law h) n call) → ArePlaced law s'.pairs (call_after law (view_of law h) n call).log → IsHub law s' (h ++ event n call ∷ [])
done law s' h n call made may m placed = record {
  made = history_snoc law h n call made may;
  matches = subst (Matches s') (sym (view_snoc law h (event n call))) m;
  pairs = subst (λ v. ArePlaced law s'.pairs v.log) (sym (view_snoc law h (event n call))) placed;
}

-- where no position of a pair is drawn
same_placed : (law : HubValue) (pairs pairs' : List (ℕ × (ℕ × ℕ))) (log : List Entry) → pairs' ≡ pairs → ArePlaced law pairs log → ArePlaced law pairs' log
same_placed law pairs pairs' log e h = subst (λ ps. ArePlaced law ps log) (sym e) h

-- and a step of no equality is added
other_placed : (law : HubValue) (pairs pairs' : List (ℕ × (ℕ × ℕ))) (log : List Entry) (e : Entry) → ((t u : ℕ) → is_equality t u e ≡ false) → pairs' ≡ pairs → ArePlaced law pairs log → ArePlaced law pairs' (log ++ e ∷ [])
other_placed law pairs pairs' log e other same h = λ t u. same_placed law pairs pairs' log same h t u ∙ sym (place_stays log e t u (other t u))

-- ---- steps

-- one position more
put_matches : (s s' : HubState) (v : HubView) (e : Entry) → Matches s v → s' ≡ record s { count = suc s.count } → Matches s' (record v { log = v.log ++ e ∷ [] })
put_matches s s' v e m is =
    subst (λ r. Matches r (record v { log = v.log ++ e ∷ [] })) (sym is) (record {
      count = omega (arith, m.count, length-append v.log (e ∷ []));
      claimed = m.claimed;
      found = m.found;
      open_for = m.open_for;
      closed = m.closed;
      spent = m.spent;
    })

pub chain_matches : (law : HubValue) (s s' : HubState) (h : List Event) (n : ℕ) (c : List Literal) (hints : List ClauseId) (p : ℕ) → IsHub law s h → permitted law h n (PutChain c hints) → (p ≡ s.count) × (s' ≡ record s { count = suc s.count })
    → (Reply.At p ≡ reply law h (PutChain c hints)) × IsHub law s' (h ++ event n (PutChain c hints) ∷ [])
chain_matches law s s' h n c hints p hub may k = (
  ap Reply.At (k.0 ∙ hub.matches.count),
  done law s' h n (PutChain c hints) hub.made may (put_matches s s' (view_of law h) (step.Chain c hints) hub.matches k.1)
      (other_placed law s.pairs s'.pairs (view_of law h).log (step.Chain c hints) (λ t u. refl) (ap (λ r. r.pairs) k.1) hub.pairs),
)

pub lemma_matches : (law : HubValue) (s s' : HubState) (h : List Event) (n : ℕ) (lemma : Lemma) (p : ℕ) → IsHub law s h → permitted law h n (PutLemma lemma) → (p ≡ s.count) × (s' ≡ record s { count = suc s.count })
    → (Reply.At p ≡ reply law h (PutLemma lemma)) × IsHub law s' (h ++ event n (PutLemma lemma) ∷ [])
lemma_matches law s s' h n lemma p hub may k = (
  ap Reply.At (k.0 ∙ hub.matches.count),
  done law s' h n (PutLemma lemma) hub.made may (put_matches s s' (view_of law h) (step.Lemma lemma) hub.matches k.1)
      (other_placed law s.pairs s'.pairs (view_of law h).log (step.Lemma lemma) (λ t u. refl) (ap (λ r. r.pairs) k.1) hub.pairs),
)

-- ---- pairs

-- what is kept where nothing is
none_first : (o p : Option ℕ) → or_else o p ≡ None → o ≡ None
none_first None p e = refl
none_first (Some x) p e = let f : ⊥ = cc in absurd f

same_log : (s : HubState) (v : HubView) (log : List Entry) → log ≡ v.log → Matches s v → Matches s (record v { log = log })
same_log s v log e m = record {
  count = m.count ∙ ap (λ l. suc (length l)) (sym e);
  claimed = m.claimed;
  found = m.found;
  open_for = m.open_for;
  closed = m.closed;
  spent = m.spent;
}

drawn_matches : (s s' : HubState) (v : HubView) (t u p : ℕ) → Matches s v → IsDrawn s s' t u p → Matches s' (record v { log = v.log ++ step.Equal t u ∷ [] })
drawn_matches s s' v t u p m k = record {
  count = omega (arith, k.count, m.count, length-append v.log (step.Equal t u ∷ []));
  claimed = ap length k.stages ∙ m.claimed;
  found = k.found_too ∙ m.found;
  open_for = λ n c. ap (λ g. is_open (slice_get g c) n) k.stages ∙ m.open_for n c;
  closed = λ c. ap (λ g. closed_at (slice_get g c)) k.stages ∙ m.closed c;
  spent = λ c. ap (λ g. is_spent (slice_get g c)) k.stages ∙ m.spent c;
}

drawn_placed : (law : HubValue) (s s' : HubState) (log : List Entry) (t u p : ℕ) → s.count ≡ suc (length log) → place_of_pair log t u ≡ None → ArePlaced law s.pairs log → IsDrawn s s' t u p → ArePlaced law s'.pairs (log ++ step.Equal t u ∷ [])
drawn_placed law s s' log t u p count none h k x y = ap (or_else (pair_place law.log.equals x y)) (k.pairs x y) ∙ go ((x == t) && (y == u)) refl ∙ sym (place_more log (step.Equal t u) x y)
  where
    -- the order in which the numbers are compared
    flip : (b : Bool) → ((x == t) && (y == u)) ≡ b → is_equality x y (step.Equal t u) ≡ b
    flip true e =
        let q = and_parts (x == t) (y == u) e in
        (λ i. eq-eqb t x (sym (eqb-true x t q.0)) i && eq-eqb u y (sym (eqb-true y u q.1)) i)
    flip false e = other ((t == x) && (u == y)) refl
      where
        other : (c : Bool) → ((t == x) && (u == y)) ≡ c → ((t == x) && (u == y)) ≡ false
        other false f = f
        other true f =
            let q = and_parts (t == x) (u == y) f in
            let r : ((x == t) && (y == u)) ≡ true = (λ i. eq-eqb x t (sym (eqb-true t x q.0)) i && eq-eqb y u (sym (eqb-true u y q.1)) i) in
            let z : true ≡ false = sym r ∙ e in
            let w : ⊥ = cc in absurd w

    go : (b : Bool) → ((x == t) && (y == u)) ≡ b → or_else (pair_place law.log.equals x y) (with_pair (found s.pairs) t u s.count x y) ≡ first_of (place_of_pair log x y) (place_at (is_equality x y (step.Equal t u)) (suc (length log)))
    go true e =
        let q = and_parts (x == t) (y == u) e in
        let here : place_of_pair log x y ≡ None = ap (λ z. place_of_pair log z y) (eqb-true x t q.0) ∙ ap (place_of_pair log t) (eqb-true y u q.1) ∙ none in
        let opened : pair_place law.log.equals x y ≡ None = none_first (pair_place law.log.equals x y) (found s.pairs x y) (h x y ∙ here) in
        ap (λ o. or_else o (with_pair (found s.pairs) t u s.count x y)) opened
        ∙ ap (λ b. if b then Some s.count else found s.pairs x y) e
        ∙ ap Some count
        ∙ sym (ap (λ o. first_of o (place_at (is_equality x y (step.Equal t u)) (suc (length log)))) here ∙ ap (λ b. place_at b (suc (length log))) (flip true e))
    go false e =
        ap (λ b. let o : Option ℕ = if b then Some s.count else found s.pairs x y in or_else (pair_place law.log.equals x y) o) e
        ∙ h x y
        ∙ sym (ap (λ b. first_of (place_of_pair log x y) (place_at b (suc (length log)))) (flip false e) ∙ first_none (place_of_pair log x y))

pub define_matches : (law : HubValue) (s s' : HubState) (h : List Event) (n t u p : ℕ) → IsHub law s h → permitted law h n (Define t u) → IsDefined (or_else (pair_place law.log.equals t u) (found s.pairs t u)) s s' t u p
    → (Reply.At p ≡ reply law h (Define t u)) × IsHub law s' (h ++ event n (Define t u) ∷ [])
define_matches law s s' h n t u p hub may k = go (place_of_pair (view_of law h).log t u) refl (subst (λ o. IsDefined o s s' t u p) (hub.pairs t u) k)
  where
    log : List Entry
    log = (view_of law h).log

    answered : (o : Option ℕ) → place_of_pair (view_of law h).log t u ≡ o → p ≡ pair_or o (suc (length (view_of law h).log)) → Reply.At p ≡ reply law h (Define t u)
    answered o e q = ap Reply.At (q ∙ ap (λ w. pair_or w (suc (length (view_of law h).log))) (sym e))

    go : (o : Option ℕ) → place_of_pair (view_of law h).log t u ≡ o → IsDefined o s s' t u p → (Reply.At p ≡ reply law h (Define t u)) × IsHub law s' (h ++ event n (Define t u) ∷ [])
    go (Some q) e d =
        let same : (view_of law h).log ++ new_pair (place_of_pair (view_of law h).log t u) t u ≡ (view_of law h).log =
        ap (λ o. (view_of law h).log ++ new_pair o t u) e ∙ append-nil (view_of law h).log in (
          answered (Some q) e d.0,
          done law s' h n (Define t u) hub.made may
              (same_log s' (view_of law h) ((view_of law h).log ++ new_pair (place_of_pair (view_of law h).log t u) t u) same (subst (λ r. Matches r (view_of law h)) (sym d.1) hub.matches))
              (subst (ArePlaced law s'.pairs) (sym same) (same_placed law s.pairs s'.pairs (view_of law h).log (ap (λ r. r.pairs) d.1) hub.pairs)),
        )
    go None e d =
        let more : (view_of law h).log ++ step.Equal t u ∷ [] ≡ (view_of law h).log ++ new_pair (place_of_pair (view_of law h).log t u) t u =
        ap (λ o. (view_of law h).log ++ new_pair o t u) (sym e) in (
          answered None e (d.place ∙ hub.matches.count),
          done law s' h n (Define t u) hub.made may
              (subst (λ l. Matches s' (record { log = l; claimed = (view_of law h).claimed; open_for = (view_of law h).open_for; closed = (view_of law h).closed; spent = (view_of law h).spent; found = (view_of law h).found })) more
              (drawn_matches s s' (view_of law h) t u p hub.matches d))
              (subst (ArePlaced law s'.pairs) more (drawn_placed law s s' (view_of law h).log t u p hub.matches.count e hub.pairs d)),
        )

-- ---- claims

get_other : {A : Type 0} (xs : List A) (x : A) (c : ℕ) → c ≢ length xs → slice_get (xs ++ x ∷ []) c ≡ slice_get xs c
get_other [] x zero ne = absurd (ne refl)
get_other [] x (suc c) ne = refl
get_other (y ∷ xs) x zero ne = refl
get_other (y ∷ xs) x (suc c) ne = get_other xs x c (λ e. ne (ap suc e))

get_past : {A : Type 0} (xs : List A) → slice_get xs (length xs) ≡ None
get_past [] = refl
get_past (y ∷ xs) = get_past xs

true_or : (b c : Bool) → c ≡ false → (if b then true else c) ≡ b
true_or true c e = refl
true_or false c e = e

number_cases : (c n : ℕ) → ((c ≡ n) × ((c == n) ≡ true)) ⊎ ((c ≢ n) × ((c == n) ≡ false))
number_cases c n = go (c == n) refl
  where
    go : (b : Bool) → (c == n) ≡ b → ((c ≡ n) × ((c == n) ≡ true)) ⊎ ((c ≢ n) × ((c == n) ≡ false))
    go true e = inl (eqb-true c n e, e)
    go false e = inr (λ same. let q : true ≡ false = sym (eq-eqb c n same) ∙ e in let f : ⊥ = cc in f, e)

abbrev pub new_stage : ℕ → CubeStage
new_stage n = record { holder = n; active = true; closed = None; spent = false }

claim_next : (s : HubState) (v : HubView) (n : ℕ) → Matches s v → Matches (record s { stages = s.stages ++ new_stage n ∷ [] }) (claim_after v n true)
claim_next s v n m =
    let xs = s.stages in
    record {
      count = m.count;
      claimed = omega (arith, m.claimed, length-append xs (new_stage n ∷ []));
      found = m.found;
      open_for = λ k c.
          ⊎_elim
          (λ e.
          let at : c ≡ length xs = e.0 ∙ sym m.claimed in
          let was : v.open_for k c ≡ false = sym (m.open_for k c) ∙ ap (λ d. is_open (slice_get xs d) k) at ∙ ap (λ o. is_open o k) (get_past xs) in
          ap (λ d. is_open (slice_get (xs ++ new_stage n ∷ []) d) k) at ∙ ap (λ o. is_open o k) (slice_get-push xs (new_stage n))
          ∙ sym (ap (λ b. if (k == n) && b then true else v.open_for k c) e.1 ∙ ap (λ b. if b then true else v.open_for k c) (and-true (k == n)) ∙ true_or (k == n) (v.open_for k c) was))
          (λ e.
          let apart : c ≢ length xs = λ q. e.0 (q ∙ m.claimed) in
          ap (λ o. is_open o k) (get_other xs (new_stage n) c apart) ∙ m.open_for k c
          ∙ sym (ap (λ b. if (k == n) && b then true else v.open_for k c) e.1 ∙ ap (λ b. if b then true else v.open_for k c) (and-false (k == n))))
          (number_cases c v.claimed);
      closed = λ c.
          ⊎_elim
          (λ e.
          let at : c ≡ length xs = e.0 in
          ap (λ d. closed_at (slice_get (xs ++ new_stage n ∷ []) d)) at ∙ ap closed_at (slice_get-push xs (new_stage n))
          ∙ sym (sym (m.closed c) ∙ ap (λ d. closed_at (slice_get xs d)) at ∙ ap closed_at (get_past xs)))
          (λ e. ap closed_at (get_other xs (new_stage n) c e.0) ∙ m.closed c)
          (number_cases c (length xs));
      spent = λ c.
          ⊎_elim
          (λ e.
          let at : c ≡ length xs = e.0 in
          ap (λ d. is_spent (slice_get (xs ++ new_stage n ∷ []) d)) at ∙ ap is_spent (slice_get-push xs (new_stage n))
          ∙ sym (sym (m.spent c) ∙ ap (λ d. is_spent (slice_get xs d)) at ∙ ap is_spent (get_past xs)))
          (λ e. ap is_spent (get_other xs (new_stage n) c e.0) ∙ m.spent c)
          (number_cases c (length xs));
    }

next_is : (law : HubValue) (s : HubState) (v : HubView) → Matches s v → (not s.found && ltb (length s.stages) (length law.cubes)) ≡ has_next law v
next_is law s v m = λ i. not (m.found i) && ltb (m.claimed i) (length law.cubes)

claim_reply_is : (law : HubValue) (h : List Event) (b : Bool) → has_next law (view_of law h) ≡ b → claim_reply b (view_of law h).claimed ≡ reply law h Claim
claim_reply_is law h b e = ap (λ q. claim_reply q (view_of law h).claimed) (sym e)

pub claim_none : (law : HubValue) (s s' : HubState) (h : List Event) (n : ℕ) → IsHub law s h → (not s.found && ltb (length s.stages) (length law.cubes)) ≡ false → s' ≡ s
    → (Cube None ≡ reply law h Claim) × IsHub law s' (h ++ event n Claim ∷ [])
claim_none law s s' h n hub none is =
    let v = view_of law h in
    let e : has_next law v ≡ false = sym (next_is law s v hub.matches) ∙ none in (
      claim_reply_is law h false e,
      done law s' h n Claim hub.made tt (subst (λ b. Matches s' (claim_after v n b)) (sym e) (subst (λ r. Matches r v) (sym is) hub.matches))
          (subst (λ b. ArePlaced law s'.pairs (claim_after v n b).log) (sym e) (same_placed law s.pairs s'.pairs v.log (ap (λ r. r.pairs) is) hub.pairs)),
    )

pub claim_some : (law : HubValue) (s s' : HubState) (h : List Event) (n c : ℕ) → IsHub law s h → (not s.found && ltb (length s.stages) (length law.cubes)) ≡ true → c ≡ length s.stages → s' ≡ record s { stages = s.stages ++ new_stage n ∷ [] }
    → (Cube (Some c) ≡ reply law h Claim) × IsHub law s' (h ++ event n Claim ∷ [])
claim_some law s s' h n c hub one at is =
    let v = view_of law h in
    let e : has_next law v ≡ true = sym (next_is law s v hub.matches) ∙ one in (
      ap (λ d. Cube (Some d)) (at ∙ hub.matches.claimed) ∙ claim_reply_is law h true e,
      done law s' h n Claim hub.made tt (subst (λ b. Matches s' (claim_after v n b)) (sym e) (subst (λ r. Matches r (claim_after v n true)) (sym is) (claim_next s v n hub.matches)))
          (subst (λ b. ArePlaced law s'.pairs (claim_after v n b).log) (sym e) (same_placed law s.pairs s'.pairs v.log (ap (λ r. r.pairs) is) hub.pairs)),
    )

-- ---- ends

-- what the code of `end` tells
pub record Ended (s s' : HubState) (c : ℕ) (at : Option ℕ) (spent found : Bool) : Type 0 where
  pub count : s'.count ≡ s.count
  pub pairs : s'.pairs ≡ s.pairs
  pub found_too : s'.found ≡ (s.found || found)
  pub len : length s'.stages ≡ length s.stages
  pub here : (g : CubeStage) → slice_get s.stages c ≡ Some g → slice_get s'.stages c ≡ Some (record { holder = g.holder; active = false; closed = or_else at g.closed; spent = g.spent || spent })
  pub others : (d : ℕ) → d ≢ c → slice_get s'.stages d ≡ slice_get s.stages d

stage_open : (o : Option CubeStage) (n : ℕ) → is_open o n ≡ true → (g : CubeStage) × (o ≡ Some g) × (g.active ≡ true) × (n ≡ g.holder)
stage_open None n e = let f : ⊥ = cc in absurd f
stage_open (Some g) n e = let p = and_parts g.active (n == g.holder) e in (g, refl, p.0, eqb-true n g.holder p.1)

-- the stage of a cube that a pass has open
pub stage_of : (s : HubState) (v : HubView) (n c : ℕ) → Matches s v → v.open_for n c ≡ true → (g : CubeStage) × (slice_get s.stages c ≡ Some g) × (g.active ≡ true) × (n ≡ g.holder)
stage_of s v n c m e = stage_open (slice_get s.stages c) n (m.open_for n c ∙ e)

false_if : (b : Bool) (x : Bool) → (b ≡ false → x ≡ false) → false ≡ (if b then false else x)
false_if true x h = refl
false_if false x h = sym (h refl)

end_matches : (s s' : HubState) (v : HubView) (n c : ℕ) (at : Option ℕ) (spent found : Bool) (closed' : ℕ → Option ℕ) (spent' : ℕ → Bool) → Matches s v → v.open_for n c ≡ true → Ended s s' c at spent found
    → closed' c ≡ or_else at (v.closed c) → ((d : ℕ) → d ≢ c → closed' d ≡ v.closed d) → spent' c ≡ (v.spent c || spent) → ((d : ℕ) → d ≢ c → spent' d ≡ v.spent d)
    → Matches s' (record { log = v.log; claimed = v.claimed; open_for = with_open v.open_for n c false; closed = closed'; spent = spent'; found = v.found || found })
end_matches s s' v n c at spent found closed' spent' m may d ch ce sh se =
    let g = stage_of s v n c m may in
    let here = d.here g.0 g.1 in
    record {
      count = d.count ∙ m.count;
      claimed = d.len ∙ m.claimed;
      found = d.found_too ∙ ap (λ b. b || found) m.found;
      open_for = λ k x.
          ⊎_elim
          (λ e.
          let was : (k == n) ≡ false → v.open_for k x ≡ false =
          λ ne. sym (m.open_for k x) ∙ ap (λ y. is_open (slice_get s.stages y) k) e.0 ∙ ap (λ o. is_open o k) g.1 ∙ (λ i. g.0.active && (k == sym g.3 i)) ∙ ap (λ b. g.0.active && b) ne ∙ and-false g.0.active in
          ap (λ y. is_open (slice_get s'.stages y) k) e.0 ∙ ap (λ o. is_open o k) here ∙ false_if (k == n) (v.open_for k x) was
          ∙ sym (ap (λ b. if (k == n) && b then false else v.open_for k x) e.1 ∙ ap (λ b. if b then false else v.open_for k x) (and-true (k == n))))
          (λ e.
          ap (λ o. is_open o k) (d.others x e.0) ∙ m.open_for k x
          ∙ sym (ap (λ b. if (k == n) && b then false else v.open_for k x) e.1 ∙ ap (λ b. if b then false else v.open_for k x) (and-false (k == n))))
          (number_cases x c);
      closed = λ x.
          ⊎_elim
          (λ e. ap (λ y. closed_at (slice_get s'.stages y)) e.0 ∙ ap closed_at here ∙ ap (or_else at) (sym (ap closed_at g.1) ∙ m.closed c) ∙ sym ch ∙ ap closed' (sym e.0))
          (λ e. ap closed_at (d.others x e.0) ∙ m.closed x ∙ sym (ce x e.0))
          (number_cases x c);
      spent = λ x.
          ⊎_elim
          (λ e. ap (λ y. is_spent (slice_get s'.stages y)) e.0 ∙ ap is_spent here ∙ ap (λ b. b || spent) (sym (ap is_spent g.1) ∙ m.spent c) ∙ sym sh ∙ ap spent' (sym e.0))
          (λ e. ap is_spent (d.others x e.0) ∙ m.spent x ∙ sym (se x e.0))
          (number_cases x c);
    }

pub close_matches : (law : HubValue) (s s' : HubState) (h : List Event) (n c p : ℕ) → IsHub law s h → permitted law h n (Close c p) → Ended s s' c (Some p) false false → IsHub law s' (h ++ event n (Close c p) ∷ [])
close_matches law s s' h n c p hub may d =
    let v = view_of law h in
    done law s' h n (Close c p) hub.made may
    (subst (λ b. Matches s' (record { log = v.log; claimed = v.claimed; open_for = with_open v.open_for n c false; closed = set_at v.closed c (Some p); spent = v.spent; found = b })) (or-false v.found)
    (end_matches s s' v n c (Some p) false false (set_at v.closed c (Some p)) v.spent hub.matches may.0 d (set_here v.closed c (Some p)) (set_else v.closed c (Some p)) (sym (or-false (v.spent c))) (λ x ne. refl)))
    (same_placed law s.pairs s'.pairs (view_of law h).log d.pairs hub.pairs)

pub spend_matches : (law : HubValue) (s s' : HubState) (h : List Event) (n c : ℕ) → IsHub law s h → permitted law h n (Spend c) → Ended s s' c None true false → IsHub law s' (h ++ event n (Spend c) ∷ [])
spend_matches law s s' h n c hub may d =
    let v = view_of law h in
    done law s' h n (Spend c) hub.made may
    (subst (λ b. Matches s' (record { log = v.log; claimed = v.claimed; open_for = with_open v.open_for n c false; closed = v.closed; spent = set_at v.spent c true; found = b })) (or-false v.found)
    (end_matches s s' v n c None true false v.closed (set_at v.spent c true) hub.matches may d refl (λ x ne. refl) (set_here v.spent c true ∙ sym (or-true (v.spent c))) (set_else v.spent c true)))
    (same_placed law s.pairs s'.pairs (view_of law h).log d.pairs hub.pairs)

pub found_matches : (law : HubValue) (s s' : HubState) (h : List Event) (n c : ℕ) → IsHub law s h → permitted law h n (Found c) → Ended s s' c None false true → IsHub law s' (h ++ event n (Found c) ∷ [])
found_matches law s s' h n c hub may d =
    let v = view_of law h in
    done law s' h n (Found c) hub.made may
    (subst (λ b. Matches s' (record { log = v.log; claimed = v.claimed; open_for = with_open v.open_for n c false; closed = v.closed; spent = v.spent; found = b })) (or-true v.found)
    (end_matches s s' v n c None false true v.closed v.spent hub.matches may d refl (λ x ne. refl) (sym (or-false (v.spent c))) (λ x ne. refl)))
    (same_placed law s.pairs s'.pairs (view_of law h).log d.pairs hub.pairs)

pub claim_matches : (law : HubValue) (s s' : HubState) (h : List Event) (n cubes : ℕ) (o : Option ℕ) → cubes ≡ length law.cubes → IsHub law s h
    → MatchOption o
    (((not s.found && ltb (length s.stages) cubes) ≡ false) × (s' ≡ s))
    (λ c. ((not s.found && ltb (length s.stages) cubes) ≡ true) × (c ≡ length s.stages) × (s' ≡ record s { stages = s.stages ++ new_stage n ∷ [] }))
    → (Cube o ≡ reply law h Claim) × IsHub law s' (h ++ event n Claim ∷ [])
claim_matches law s s' h n cubes None e hub k = claim_none law s s' h n hub (ap (λ m. not s.found && ltb (length s.stages) m) (sym e) ∙ k.0) k.1
claim_matches law s s' h n cubes (Some c) e hub k = claim_some law s s' h n c hub (ap (λ m. not s.found && ltb (length s.stages) m) (sym e) ∙ k.0) k.1 k.2

-- ---- the opening

or_none : (o : Option ℕ) → or_else o None ≡ o
or_none None = refl
or_none (Some p) = refl

-- nothing has happened
pub opened : (law : HubValue) (s : HubState) → IsOpening law → s.count ≡ suc (length law.log.entries) → s.pairs ≡ [] → s.stages ≡ [] → s.found ≡ false → IsHub law s []
opened law s o count pairs stages none = record {
  made = tt;
  matches = record {
    count = count;
    claimed = ap length stages;
    found = none;
    open_for = λ n c. ap (λ g. is_open (slice_get g c) n) stages;
    closed = λ c. ap (λ g. closed_at (slice_get g c)) stages;
    spent = λ c. ap (λ g. is_spent (slice_get g c)) stages;
  };
  pairs = same_placed law [] s.pairs law.log.entries pairs (λ t u. or_none (pair_place law.log.equals t u) ∙ held_is_place law.nodes law.log t u o.stands);
}

-- ---- runs

made-split : (law : HubValue) (v : HubView) (es more : List Event) → AreMade law v (es ++ more) → AreMade law (run_from law v es) more
made-split law v [] more h = h
made-split law v (e ∷ es) more h = made-split law (call_after law v e.pass e.call) es more h.1

-- each event of a history was permitted after those before it
pub made_at : (law : HubValue) (es : List Event) (i : ℕ) (d : Event) → i < length es → IsHistory law es → permitted law (take i es) (get_or es i d).pass (get_or es i d).call
made_at law es i d lt h =
    let split : es ≡ take i es ++ get_or es i d ∷ drop (i + 1) es = sym (take-append-drop i es) ∙ ap (λ r. take i es ++ r) (drop_more es i d lt) in
    (made-split law (opening law) (take i es) (get_or es i d ∷ drop (i + 1) es) (subst (IsHistory law) split h)).0
