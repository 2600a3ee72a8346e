-- What is held of a log where one chain comes or goes.
use Rattle.std.proofs.Common.{◌≡◌, ℕ, ◌+◌, ◌<◌, true, false, List, [], ◌∷◌, ◌++◌, length, take, get_or, Some, None, refl, sym, ap, ◌∙◌, subst, inl, inr, ⊎_elim}
use Rattle.std.specs.Prelude.{◌⊎◌, Contains}
use Rattle.std.proofs.lemmas.Bool.{both_ways}
use Rattle.std.proofs.lemmas.List.{take_more}
use Rattle.std.proofs.lemmas.List.Elements.{Contains-append_left, Contains-push, Contains-push_cases}
use Rattle.cnf_base.specs.Literals.{Literal}
use Rattle.cnf_base.specs.declared.clause.ClauseId.{ClauseId}
use Rattle.cnf_base.proofs.Lists.{Contains-nil}
use Rattle.hint_chain.specs.Chains.{Lookup}
use Rattle.smt_terms.specs.declared.node.Node.{Node}
use Rattle.proof_log.specs.declared.entry.Entry.{Entry}
use Rattle.proof_log.specs.Logs.{clause_at, entry_at, state_of}
use Rattle.proof_log.specs.Diaries.{Subject, is_chain}
use Rattle.proof_log.proofs.Growth.{chain_part}
use Rattle.cdcl_core.specs.declared.watches.Watches.{Watches}
use Rattle.cdcl_core.specs.Search.{clause_of, held_of}
use Rattle.cdcl_core.proofs.Held.{held_kept, not_held}
use Rattle.cdcl_loop.specs.Engines.{IsSameStore, IsSameBut}
use Rattle.cdcl_learn.proofs.Lists.{front_cases}
use Rattle.cube_search.specs.Holding.{AreAmong, IsForeign, IsHolding, ArePlaced, AreLeft}
use Rattle.cube_search.specs.Keeping.{IsKept}
use Rattle.cube_search.specs.declared.keeper.Keeper.{Keeper}
use Rattle.cube_search.specs.Running.{IsSearchOf}
use Rattle.cube_search.proofs.Filling.{same_id, holding_same}
use Rattle.cube_search.proofs.Later.{chain_entry}

pub search_moved : (w w' : Watches) (variables variables' opening opening' taken taken' : List ℕ) (from from' seen seen' : ℕ) (nodes : List Node) (log : List Entry) → w' ≡ w → variables' ≡ variables → opening' ≡ opening → taken' ≡ taken → from' ≡ from → seen' ≡ seen → IsSearchOf w variables opening taken from seen nodes log → IsSearchOf w' variables' opening' taken' from' seen' nodes log
search_moved w w' variables variables' opening opening' taken taken' from from' seen seen' nodes log z a b c d e h = rw (z, a, b, c, d, e) h

pub kept_moved : (nodes : List Node) (log : List Entry) (given given' : List Literal) (from from' : ℕ) (w w' : Watches) (variables variables' : List ℕ) (k : Keeper) (seen seen' : ℕ) → given' ≡ given → from' ≡ from → w' ≡ w → variables' ≡ variables → seen' ≡ seen → IsKept (record { nodes = nodes; log = log; given = given; from = from }) w variables k seen → IsKept (record { nodes = nodes; log = log; given = given'; from = from' }) w' variables' k seen'
kept_moved nodes log given given' from from' w w' variables variables' k seen seen' a b z c d h = rw (a, b, z, c, d) h

pub search_same : (w v : Watches) (variables opening taken : List ℕ) (from seen : ℕ) (nodes : List Node) (log : List Entry) → IsSameStore w v → IsSearchOf w variables opening taken from seen nodes log → IsSearchOf v variables opening taken from seen nodes log
search_same w v variables opening taken from seen nodes log same h = record {
  holding = holding_same w v (state_of nodes log).clauses variables variables opening taken same refl h.holding;
  placed = record {
    before = h.placed.before;
    plain = h.placed.plain;
    chains = h.placed.chains;
    stored = λ id c e. h.placed.stored id c (sym (same.kept id) ∙ e);
    below = λ id c e. h.placed.below id c (sym (same.kept id) ∙ e);
    from_seen = h.placed.from_seen;
    within = h.placed.within;
  };
  listed = h.listed;
  stands = h.stands;
}

pub kept_same : (g : Subject) (w v : Watches) (variables : List ℕ) (k : Keeper) (seen : ℕ) → IsSameStore w v → IsKept g w variables k seen → IsKept g v variables k seen
kept_same g w v variables k seen same h = record {
  stand = h.stand;
  puts = h.puts;
  chains = h.chains;
  drops = h.drops;
  held = λ id c e. h.held id c (sym (same.kept id) ∙ e);
  complete = λ id c x e. ⊎_elim (λ y. inl (same.held id ∙ y)) (λ y. inr y) (h.complete id c x e);
  stored = λ p x e. let q = h.stored p x e in (q.0, same.kept (record { pos = p; part = 0 }) ∙ q.1);
  lined = h.lined;
  start = h.start;
  begun = h.begun;
  later = h.later;
  first = h.first;
}

-- ---- a chain at a position

module _ (nodes : List Node) (log : List Entry) (w v : Watches) (variables opening taken : List ℕ) (at : ℕ) (chain : is_chain (entry_at log at) ≡ true) (plain : (p : ℕ) → Contains opening p → is_chain (entry_at log p) ≡ false) (h : IsHolding w (state_of nodes log).clauses variables opening taken) where
  -- a clause of its position is the first
  one_part : (id : ClauseId) (c : List Literal) → id.pos ≡ at → clause_at (state_of nodes log).clauses id ≡ Some c → id ≡ record { pos = at; part = 0 }
  one_part id c p e =
      let k = chain_entry (entry_at log at) chain in
      let part = chain_part nodes log id k.0 c k.1 (ap (entry_at log) p ∙ k.2) e in
      λ i. record { pos = p i; part = part.0 i }

  apart : (id : ClauseId) → Contains opening id.pos → id ≡ record { pos = at; part = 0 } → ⊥
  apart id k a = both_ways (is_chain (entry_at log id.pos)) (plain id.pos k) (ap (λ (x : ClauseId). is_chain (entry_at log x.pos)) a ∙ chain)

  module _ (others : IsSameBut (record { pos = at; part = 0 }) w v) where
    -- its clause comes
    module _ (clause : List Literal) (kept : clause_of v (record { pos = at; part = 0 }) ≡ Some clause) (there : clause_at (state_of nodes log).clauses (record { pos = at; part = 0 }) ≡ Some clause) where
      more_sound : (id : ClauseId) (c : List Literal) → clause_of v id ≡ Some c → clause_at (state_of nodes log).clauses id ≡ Some c
      more_sound id c e = elim (same_id id (record { pos = at; part = 0 })) [
        | inl a ↦ ap (clause_at (state_of nodes log).clauses) a ∙ there ∙ sym (ap (clause_of v) a ∙ kept) ∙ e
        | inr a ↦ h.sound id c (sym (others.kept id a) ∙ e)
      ]

      same_clause : (id : ClauseId) (c : List Literal) → id ≡ record { pos = at; part = 0 } → clause_of v id ≡ Some c → clause ≡ c
      same_clause id c a e = let r : Some clause ≡ Some c = sym (ap (clause_of v) a ∙ kept) ∙ e in cc

      -- and is held from here on
      pub holding_held : held_of v (record { pos = at; part = 0 }) ≡ Some clause → AreAmong variables clause → IsHolding v (state_of nodes log).clauses variables opening (taken ++ at ∷ [])
      holding_held held among = record {
        sound = more_sound;
        among = λ id c e. elim (same_id id (record { pos = at; part = 0 })) [
          | inl a ↦ subst (AreAmong variables) (same_clause id c a (held_kept v id c e)) among
          | inr a ↦ h.among id c (sym (others.held id a) ∙ e)
        ];
        covered = λ id c e. elim (same_id id (record { pos = at; part = 0 })) [
          | inl a ↦ inr (subst (Contains (taken ++ at ∷ [])) (sym (ap (λ (x : ClauseId). x.pos) a)) (Contains-push taken at))
          | inr a ↦ ⊎_elim (λ x. inl x) (λ x. inr (Contains-append_left taken (at ∷ []) id.pos x)) (h.covered id c (sym (others.held id a) ∙ e))
        ];
        complete = λ id c k e. others.held id (λ a. apart id k a) ∙ h.complete id c k e;
        waiting = λ id c k e. elim (same_id id (record { pos = at; part = 0 })) [
          | inl a ↦ inl (ap (held_of v) a ∙ held ∙ sym (ap (clause_of v) a ∙ kept) ∙ e)
          | inr a ↦ ⊎_elim
              (λ old. ⊎_elim (λ x. inl (others.held id a ∙ x)) (λ x. inr x) (h.waiting id c old (sym (others.kept id a) ∙ e)))
              (λ p. absurd (a (one_part id c (sym p) (more_sound id c e))))
              (Contains-push_cases taken at id.pos k)
        ];
        occurs = h.occurs;
      }

      -- and is kept without being held
      pub holding_stored : held_of v (record { pos = at; part = 0 }) ≡ None → IsForeign variables clause → IsHolding v (state_of nodes log).clauses variables opening (taken ++ at ∷ [])
      holding_stored parked foreign = record {
        sound = more_sound;
        among = λ id c e. elim (same_id id (record { pos = at; part = 0 })) [
          | inl a ↦ (let f : Some c ≡ None = sym e ∙ ap (held_of v) a ∙ parked in let z : ⊥ = cc in absurd z)
          | inr a ↦ h.among id c (sym (others.held id a) ∙ e)
        ];
        covered = λ id c e. elim (same_id id (record { pos = at; part = 0 })) [
          | inl a ↦ inr (subst (Contains (taken ++ at ∷ [])) (sym (ap (λ (x : ClauseId). x.pos) a)) (Contains-push taken at))
          | inr a ↦ ⊎_elim (λ x. inl x) (λ x. inr (Contains-append_left taken (at ∷ []) id.pos x)) (h.covered id c (sym (others.held id a) ∙ e))
        ];
        complete = λ id c k e. others.held id (λ a. apart id k a) ∙ h.complete id c k e;
        waiting = λ id c k e. elim (same_id id (record { pos = at; part = 0 })) [
          | inl a ↦ inr (subst (IsForeign variables) (same_clause id c a e) foreign)
          | inr a ↦ ⊎_elim
              (λ old. ⊎_elim (λ x. inl (others.held id a ∙ x)) (λ x. inr x) (h.waiting id c old (sym (others.kept id a) ∙ e)))
              (λ p. absurd (a (one_part id c (sym p) (more_sound id c e))))
              (Contains-push_cases taken at id.pos k)
        ];
        occurs = h.occurs;
      }

    -- its clause is kept no longer
    pub holding_dropped : clause_of v (record { pos = at; part = 0 }) ≡ None → IsHolding v (state_of nodes log).clauses variables opening taken
    holding_dropped none = record {
      sound = λ id c e. h.sound id c (still id c e);
      among = λ id c e. h.among id c (still_held id c e);
      covered = λ id c e. h.covered id c (still_held id c e);
      complete = λ id c k e. others.held id (λ a. apart id k a) ∙ h.complete id c k e;
      waiting = λ id c k e. elim (same_id id (record { pos = at; part = 0 })) [
        | inl a ↦ (let f : Some c ≡ None = sym e ∙ ap (clause_of v) a ∙ none in let z : ⊥ = cc in absurd z)
        | inr a ↦ ⊎_elim (λ x. inl (others.held id a ∙ x)) (λ x. inr x) (h.waiting id c k (sym (others.kept id a) ∙ e))
      ];
      occurs = h.occurs;
    }
      where
        still : (id : ClauseId) (c : List Literal) → clause_of v id ≡ Some c → clause_of w id ≡ Some c
        still id c e = elim (same_id id (record { pos = at; part = 0 })) [
          | inl a ↦ (let f : Some c ≡ None = sym e ∙ ap (clause_of v) a ∙ none in let z : ⊥ = cc in absurd z)
          | inr a ↦ sym (others.kept id a) ∙ e
        ]

        still_held : (id : ClauseId) (c : List Literal) → held_of v id ≡ Some c → held_of w id ≡ Some c
        still_held id c e = elim (same_id id (record { pos = at; part = 0 })) [
          | inl a ↦ (let f : Some c ≡ None = sym e ∙ ap (held_of v) a ∙ not_held v (record { pos = at; part = 0 }) none in let z : ⊥ = cc in absurd z)
          | inr a ↦ sym (others.held id a) ∙ e
        ]

-- ---- where it stands

module _ (log : List Entry) (w v : Watches) (opening taken : List ℕ) (from seen at : ℕ) (chain : is_chain (entry_at log at) ≡ true) (h : ArePlaced (clause_of w) log opening taken from seen) where
  more_chains : (p : ℕ) → Contains (taken ++ at ∷ []) p → is_chain (entry_at log p) ≡ true
  more_chains p k = ⊎_elim (λ old. h.chains p old) (λ e. subst (λ q. is_chain (entry_at log q) ≡ true) e chain) (Contains-push_cases taken at p k)

  module _ (others : IsSameBut (record { pos = at; part = 0 }) w v) where
    pub placed_more : ArePlaced (clause_of v) log opening (taken ++ at ∷ []) from seen
    placed_more = record {
      before = h.before;
      plain = h.plain;
      chains = more_chains;
      stored = λ id c e. elim (same_id id (record { pos = at; part = 0 })) [
        | inl a ↦ inr (subst (Contains (taken ++ at ∷ [])) (sym (ap (λ (x : ClauseId). x.pos) a)) (Contains-push taken at))
        | inr a ↦ ⊎_elim (λ x. inl x) (λ x. inr (Contains-append_left taken (at ∷ []) id.pos x)) (h.stored id c (sym (others.kept id a) ∙ e))
      ];
      below = λ id c e q. elim (same_id id (record { pos = at; part = 0 })) [
        | inl a ↦ absurd (both_ways (is_chain (entry_at log id.pos)) q (ap (λ (x : ClauseId). is_chain (entry_at log x.pos)) a ∙ chain))
        | inr a ↦ h.below id c (sym (others.kept id a) ∙ e) q
      ];
      from_seen = h.from_seen;
      within = h.within;
    }

    pub placed_less : clause_of v (record { pos = at; part = 0 }) ≡ None → ArePlaced (clause_of v) log opening taken from seen
    placed_less none = record {
      before = h.before;
      plain = h.plain;
      chains = h.chains;
      stored = λ id c e. h.stored id c (still id c e);
      below = λ id c e. h.below id c (still id c e);
      from_seen = h.from_seen;
      within = h.within;
    }
      where
        still : (id : ClauseId) (c : List Literal) → clause_of v id ≡ Some c → clause_of w id ≡ Some c
        still id c e = elim (same_id id (record { pos = at; part = 0 })) [
          | inl a ↦ (let f : Some c ≡ None = sym e ∙ ap (clause_of v) a ∙ none in let z : ⊥ = cc in absurd z)
          | inr a ↦ sym (others.kept id a) ∙ e
        ]

-- ---- a search

module _ (w v : Watches) (variables opening taken : List ℕ) (from seen : ℕ) (nodes : List Node) (log : List Entry) (at : ℕ) (chain : is_chain (entry_at log at) ≡ true) (h : IsSearchOf w variables opening taken from seen nodes log) where
  module _ (others : IsSameBut (record { pos = at; part = 0 }) w v) where
    -- its clause comes
    module _ (clause : List Literal) (kept : clause_of v (record { pos = at; part = 0 }) ≡ Some clause) (there : clause_at (state_of nodes log).clauses (record { pos = at; part = 0 }) ≡ Some clause) where
      pub search_held : held_of v (record { pos = at; part = 0 }) ≡ Some clause → AreAmong variables clause → IsSearchOf v variables opening (taken ++ at ∷ []) from seen nodes log
      search_held held among = record {
        holding = holding_held nodes log w v variables opening taken at chain h.placed.plain h.holding others clause kept there held among;
        placed = placed_more log w v opening taken from seen at chain h.placed others;
        listed = h.listed;
        stands = h.stands;
      }

      -- and is not held
      pub search_stored : held_of v (record { pos = at; part = 0 }) ≡ None → IsForeign variables clause → IsSearchOf v variables opening (taken ++ at ∷ []) from seen nodes log
      search_stored parked foreign = record {
        holding = holding_stored nodes log w v variables opening taken at chain h.placed.plain h.holding others clause kept there parked foreign;
        placed = placed_more log w v opening taken from seen at chain h.placed others;
        listed = h.listed;
        stands = h.stands;
      }

    -- its clause goes
    pub search_dropped : clause_of v (record { pos = at; part = 0 }) ≡ None → IsSearchOf v variables opening taken from seen nodes log
    search_dropped none = record {
      holding = holding_dropped nodes log w v variables opening taken at chain h.placed.plain h.holding others none;
      placed = placed_less log w v opening taken from seen at chain h.placed others none;
      listed = h.listed;
      stands = h.stands;
    }

-- a taken position of which a clause is kept is left
pub left_kept : (nodes : List Node) (log : List Entry) (look : Lookup) (taken left : List ℕ) → ((id : ClauseId) (c : List Literal) → look id ≡ Some c → clause_at (state_of nodes log).clauses id ≡ Some c) → ((p : ℕ) → Contains taken p → is_chain (entry_at log p) ≡ true) → AreLeft look taken left → (id : ClauseId) (c : List Literal) → look id ≡ Some c → Contains taken id.pos → Contains left id.pos
left_kept nodes log look taken left sound chains l id c e k =
    let q = chain_entry (entry_at log id.pos) (chains id.pos k) in
    let part = chain_part nodes log id q.0 c q.1 q.2 (sound id c e) in
    l.all id.pos c k (ap (λ n. look (record { pos = id.pos; part = n })) (sym part.0) ∙ e)

-- of what was taken, what is not kept is forgotten
pub search_left : (w : Watches) (variables opening taken left : List ℕ) (from seen : ℕ) (nodes : List Node) (log : List Entry) → AreLeft (clause_of w) taken left → IsSearchOf w variables opening taken from seen nodes log → IsSearchOf w variables opening left from seen nodes log
search_left w variables opening taken left from seen nodes log l h = record {
  holding = record {
    sound = h.holding.sound;
    among = h.holding.among;
    covered = λ id c e. ⊎_elim (λ x. inl x) (λ x. inr (still id c (held_kept w id c e) x)) (h.holding.covered id c e);
    complete = h.holding.complete;
    waiting = λ id c k e. h.holding.waiting id c (l.among id.pos k) e;
    occurs = h.holding.occurs;
  };
  placed = record {
    before = h.placed.before;
    plain = h.placed.plain;
    chains = λ p k. h.placed.chains p (l.among p k);
    stored = λ id c e. ⊎_elim (λ x. inl x) (λ x. inr (still id c e x)) (h.placed.stored id c e);
    below = h.placed.below;
    from_seen = h.placed.from_seen;
    within = h.placed.within;
  };
  listed = h.listed;
  stands = h.stands;
}
  where
    still : (id : ClauseId) (c : List Literal) → clause_of w id ≡ Some c → Contains taken id.pos → Contains left id.pos
    still = left_kept nodes log (clause_of w) taken left h.holding.sound h.placed.chains l

-- ---- the positions that are left of those that were taken

pub left_none : (look : Lookup) → AreLeft look [] []
left_none look = record { among = λ p k. k; all = λ p c k e. absurd (Contains-nil p k) }

module _ (look : Lookup) (positions left : List ℕ) (i at : ℕ) (lt : i < length positions) (is : at ≡ get_or positions i at) (h : AreLeft look (take i positions) left) where
  front : (p : ℕ) → Contains (take i positions) p → Contains (take (i + 1) positions) p
  front p k = subst (λ (xs : List ℕ). Contains xs p) (sym (take_more positions i at lt)) (Contains-append_left (take i positions) (get_or positions i at ∷ []) p k)

  here : Contains (take (i + 1) positions) at
  here = subst (λ (xs : List ℕ). Contains xs at) (sym (take_more positions i at lt)) (subst (λ p. Contains (take i positions ++ get_or positions i at ∷ []) p) (sym is) (Contains-push (take i positions) (get_or positions i at)))

  pub left_more : AreLeft look (take (i + 1) positions) (left ++ at ∷ [])
  left_more = record {
    among = λ p k. ⊎_elim (λ old. front p (h.among p old)) (λ e. subst (Contains (take (i + 1) positions)) e here) (Contains-push_cases left at p k);
    all = λ p c k e. ⊎_elim (λ old. Contains-append_left left (at ∷ []) p (h.all p c old e)) (λ q. subst (Contains (left ++ at ∷ [])) (is ∙ q) (Contains-push left at)) (front_cases positions i at p lt k);
  }

  pub left_less : look (record { pos = at; part = 0 }) ≡ None → AreLeft look (take (i + 1) positions) left
  left_less none = record {
    among = λ p k. front p (h.among p k);
    all = λ p c k e. ⊎_elim
        (λ old. h.all p c old e)
        (λ q. let f : Some c ≡ None = sym e ∙ ap (λ n. look (record { pos = n; part = 0 })) (sym (is ∙ q)) ∙ none in let z : ⊥ = cc in absurd z)
        (front_cases positions i at p lt k);
  }

-- a position of which the clause is held is left, another not
pub left_next : (look : Lookup) (positions old new : List ℕ) (i at : ℕ) (D E : Type 0) → i < length positions → at ≡ get_or positions i at → ((look (record { pos = at; part = 0 }) ≡ None) × (new ≡ old) × D) ⊎ ((c : List Literal) × (look (record { pos = at; part = 0 }) ≡ Some c) × (new ≡ old ++ at ∷ []) × E) → AreLeft look (take i positions) old → AreLeft look (take (i + 1) positions) new
left_next look positions old new i at D E lt is step h = ⊎_elim
    (λ x. subst (AreLeft look (take (i + 1) positions)) (sym x.1) (left_less look positions old i at lt is h x.0))
    (λ x. subst (AreLeft look (take (i + 1) positions)) (sym x.2) (left_more look positions old i at lt is h))
    step
