-- What is kept, and held no longer.
use Rattle.std.proofs.Common.{◌≡◌, ℕ, ◌+◌, ◌<◌, Bool, true, false, List, [], ◌∷◌, ◌++◌, length, take, get_or, Option, Some, None, refl, sym, ap, ◌∙◌, subst, inl, inr, ⊎_elim, arith}
use Rattle.std.specs.Prelude.{◌≢◌, Contains, MatchBool}
use Rattle.std.proofs.lemmas.Bool.{cases_lt, both_ways}
use Rattle.std.proofs.lemmas.List.{take_more}
use Rattle.std.proofs.lemmas.List.Elements.{Contains-append_left, Contains-push, Contains-push_cases}
use Rattle.cnf_base.specs.Literals.{Literal}
use Rattle.cnf_base.specs.declared.clause.ClauseId.{ClauseId}
use Rattle.proof_log.specs.declared.entry.Entry.{Entry}
use Rattle.proof_log.specs.Logs.{entry_at}
use Rattle.proof_log.specs.Diaries.{is_chain}
use Rattle.variable_list.specs.Variables.{IsListed}
use Rattle.cdcl_learn.proofs.Lists.{front_cases}
use Rattle.cdcl_core.specs.declared.watches.Watches.{Watches}
use Rattle.cdcl_core.specs.Search.{clause_of, held_of}
use Rattle.cdcl_core.proofs.Held.{held_kept, not_held}
use Rattle.cdcl_loop.specs.declared.engine.Engine.{Engine}
use Rattle.cdcl_loop.specs.Engines.{IsSameBut, IsIdle}
use Rattle.cube_search.specs.Holding.{IsThinned, IsParking, IsGapless}
use Rattle.cube_search.proofs.Filling.{same_id}

-- ---- chains that are dropped

pub thinned_none : (log : List Entry) (w : Watches) → IsThinned log w w
thinned_none log w = record { kept = λ id c e. e; held = λ id c e. e; plain = λ id k. refl }

pub thinned_then : (log : List Entry) (u v w : Watches) → IsThinned log u v → IsThinned log v w → IsThinned log u w
thinned_then log u v w h k = record {
  kept = λ id c e. h.kept id c (k.kept id c e);
  held = λ id c e. h.held id c (k.held id c e);
  plain = λ id p. k.plain id p ∙ h.plain id p;
}

module _ (log : List Entry) (at : ℕ) (chain : is_chain (entry_at log at) ≡ true) (v w : Watches) (others : IsSameBut (record { pos = at; part = 0 }) v w) where
  plain_other : (id : ClauseId) → is_chain (entry_at log id.pos) ≡ false → id ≢ record { pos = at; part = 0 }
  plain_other id p e = both_ways (is_chain (entry_at log id.pos)) p (ap (λ (x : ClauseId). is_chain (entry_at log x.pos)) e ∙ chain)

  thinned_one : clause_of w (record { pos = at; part = 0 }) ≡ None → IsThinned log v w
  thinned_one none = record {
    kept = λ id c e. elim (same_id id (record { pos = at; part = 0 })) [
      | inl a ↦ (let f : Some c ≡ None = sym e ∙ ap (clause_of w) a ∙ none in let z : ⊥ = cc in absurd z)
      | inr a ↦ sym (others.kept id a) ∙ e
    ];
    held = λ id c e. elim (same_id id (record { pos = at; part = 0 })) [
      | inl a ↦ (let f : Some c ≡ None = sym e ∙ ap (held_of w) a ∙ not_held w (record { pos = at; part = 0 }) none in let z : ⊥ = cc in absurd z)
      | inr a ↦ sym (others.held id a) ∙ e
    ];
    plain = λ id p. others.held id (plain_other id p);
  }

pub thinned_dropped : (log : List Entry) (at : ℕ) → is_chain (entry_at log at) ≡ true → (b : Bool) (s t : Engine) → MatchBool b (IsIdle s (record { pos = at; part = 0 }) × (clause_of t.watches (record { pos = at; part = 0 }) ≡ None)) ((IsIdle s (record { pos = at; part = 0 }) → ⊥) × (t ≡ s)) → IsSameBut (record { pos = at; part = 0 }) s.watches t.watches → IsThinned log s.watches t.watches
thinned_dropped log at chain true s t dropped others = thinned_one log at chain s.watches t.watches others dropped.1
thinned_dropped log at chain false s t dropped others = subst (λ (x : Engine). IsThinned log s.watches x.watches) (sym dropped.1) (thinned_none log s.watches)

-- ---- positions that are noted

module _ (needed needed' ps : List ℕ) (i p : ℕ) (lt : i < length ps) (is : p ≡ get_or ps i p) (listed : IsListed needed (p + 1) needed') where
  pub noted_has : ((q : ℕ) → Contains (take i ps) q → Contains needed (q + 1)) → (q : ℕ) → Contains (take (i + 1) ps) q → Contains needed' (q + 1)
  noted_has h q k = ⊎_elim (λ old. still (q + 1) (h q old)) (λ e. subst (λ n. Contains needed' (n + 1)) (is ∙ e) here) (front_cases ps i p q lt k)
    where
      here : Contains needed' (p + 1)
      here = ⊎_elim (λ s. subst (λ (xs : List ℕ). Contains xs (p + 1)) (sym s.1) s.0) (λ s. subst (λ (xs : List ℕ). Contains xs (p + 1)) (sym s.1) (Contains-push needed (p + 1))) listed

      still : (x : ℕ) → Contains needed x → Contains needed' x
      still x k = ⊎_elim (λ s. subst (λ (xs : List ℕ). Contains xs x) (sym s.1) k) (λ s. subst (λ (xs : List ℕ). Contains xs x) (sym s.1) (Contains-append_left needed ((p + 1) ∷ []) x k)) listed

  pub noted_only : ((q : ℕ) → Contains needed (q + 1) → Contains (take i ps) q) → (q : ℕ) → Contains needed' (q + 1) → Contains (take (i + 1) ps) q
  noted_only h q k = ⊎_elim
      (λ s. front q (h q (subst (λ (xs : List ℕ). Contains xs (q + 1)) s.1 k)))
      (λ s. ⊎_elim (λ old. front q (h q old)) (λ e. last q (omega (arith, e))) (Contains-push_cases needed (p + 1) (q + 1) (subst (λ (xs : List ℕ). Contains xs (q + 1)) s.1 k)))
      listed
    where
      front : (x : ℕ) → Contains (take i ps) x → Contains (take (i + 1) ps) x
      front x k = subst (λ (xs : List ℕ). Contains xs x) (sym (take_more ps i p lt)) (Contains-append_left (take i ps) (get_or ps i p ∷ []) x k)

      last : (x : ℕ) → p ≡ x → Contains (take (i + 1) ps) x
      last x e = subst (Contains (take (i + 1) ps)) e (subst (λ (xs : List ℕ). Contains xs p) (sym (take_more ps i p lt)) (subst (λ n. Contains (take i ps ++ get_or ps i p ∷ []) n) (sym is) (Contains-push (take i ps) (get_or ps i p))))

-- ---- positions that are parked

pub parking_none : (w : Watches) → IsParking w w
parking_none w = record { kept = λ id. refl; held = λ id c e. e }

pub parking_then : (u v w : Watches) → IsParking u v → IsParking v w → IsParking u w
parking_then u v w h k = record { kept = λ id. k.kept id ∙ h.kept id; held = λ id c e. h.held id c (k.held id c e) }

-- what is not held in any form is not held
not_some : (o : Option (List Literal)) → ((c : List Literal) → o ≡ Some c → ⊥) → o ≡ None
not_some None h = refl
not_some (Some c) h = absurd (h c refl)

pub parked_one : (w v : Watches) (id : ClauseId) → held_of v id ≡ None → ((q : ClauseId) → clause_of v q ≡ clause_of w q) → ((q : ClauseId) → q ≢ id → held_of v q ≡ held_of w q) → IsParking w v
parked_one w v id none kept others = record {
  kept = kept;
  held = λ q c e. elim (same_id q id) [
    | inl a ↦ (let f : Some c ≡ None = sym e ∙ ap (held_of v) a ∙ none in let z : ⊥ = cc in absurd z)
    | inr a ↦ sym (others q a) ∙ e
  ];
}

-- one part more of the position is parked
pub parked_part : (w v : Watches) (id : ClauseId) → held_of v id ≡ None → ((q : ClauseId) → q ≢ id → held_of v q ≡ held_of w q) → ((q : ClauseId) → q.pos ≡ id.pos → q.part < id.part → held_of w q ≡ None) → (q : ClauseId) → q.pos ≡ id.pos → q.part < id.part + 1 → held_of v q ≡ None
parked_part w v id none others h q p lt = elim (same_id q id) [
  | inl a ↦ ap (held_of v) a ∙ none
  | inr a ↦ others q a ∙ h q p (⊎_elim (λ less. less) (λ ge. absurd (a (λ i. record { pos = p i; part = (let r : q.part ≡ id.part = omega (arith, lt, ge) in r) i }))) (cases_lt q.part id.part))
]

-- all parts of the position are
pub parked_all : (first w : Watches) (pos part : ℕ) → IsParking first w → clause_of w (record { pos = pos; part = part }) ≡ None → ((q : ClauseId) → q.pos ≡ pos → q.part < part → held_of w q ≡ None) → IsGapless (clause_of first) pos → (q : ClauseId) → q.pos ≡ pos → held_of w q ≡ None
parked_all first w pos part parking none before gapless q p = ⊎_elim
    (λ lt. before q p lt)
    (λ ge. not_some (held_of w q) (λ c e. gapless part q.part c (sym (parking.kept (record { pos = pos; part = part })) ∙ none) ge
    (ap (λ n. clause_of first (record { pos = n; part = q.part })) (sym p) ∙ sym (parking.kept q) ∙ held_kept w q c e)))
    (cases_lt q.part part)

-- and the positions before are
pub parked_more : (first w v : Watches) (needed ps : List ℕ) (i pos : ℕ) → i < length ps → pos ≡ get_or ps i pos → IsParking first w → IsParking w v → ((p : ℕ) → Contains ps p → IsGapless (clause_of first) p)
    → (IsGapless (clause_of w) pos → (Contains needed (pos + 1) → ⊥) → (q : ClauseId) → q.pos ≡ pos → held_of v q ≡ None)
    → ((q : ClauseId) → Contains (take i ps) q.pos → (Contains needed (q.pos + 1) → ⊥) → held_of w q ≡ None)
    → (q : ClauseId) → Contains (take (i + 1) ps) q.pos → (Contains needed (q.pos + 1) → ⊥) → held_of v q ≡ None
parked_more first w v needed ps i pos lt is before now gapless here old q k un = ⊎_elim
    (λ a. not_some (held_of v q) (λ c e. let f : Some c ≡ None = sym (now.held q c e) ∙ old q a un in let z : ⊥ = cc in z))
    (λ e. here still (λ n. un (subst (λ m. Contains needed (m + 1)) (is ∙ e) n)) q (sym (is ∙ e)))
    (front_cases ps i pos q.pos lt k)
  where
    has : Contains ps pos
    has = (i, lt, (let e : get_or ps i pos ≡ pos = sym is in e))

    still : IsGapless (clause_of w) pos
    still j m c none le e = gapless pos has j m c (sym (before.kept (record { pos = pos; part = j })) ∙ none) le (sym (before.kept (record { pos = pos; part = m })) ∙ e)
