-- How a search goes over to another check.
use Rattle.std.proofs.Common.{◌≡◌, ℕ, suc, ◌+◌, ◌<◌, ◌≤◌, true, false, List, [], ◌∷◌, ◌++◌, length, take, get_or, Option, Some, None, refl, sym, ap, ◌∙◌, subst, inl, inr, ⊎_elim}
use Rattle.std.specs.Prelude.{◌≢◌, ◌⊎◌, Contains}
use Rattle.std.proofs.lemmas.Bool.{both_ways, cases_eq}
use Rattle.std.proofs.lemmas.List.Elements.{Contains-append_cases}
use Rattle.cnf_base.specs.Literals.{Literal}
use Rattle.cnf_base.specs.declared.clause.ClauseId.{ClauseId}
use Rattle.cnf_base.proofs.Lists.{Contains-nil, Contains-first, Contains-later, Contains-one}
use Rattle.hint_chain.specs.Chains.{Lookup}
use Rattle.smt_terms.specs.declared.node.Node.{Node}
use Rattle.smt_terms.specs.Terms.{IsTermList}
use Rattle.proof_log.specs.declared.entry.Entry.{Entry}
use Rattle.proof_log.specs.Logs.{clause_at, entry_at, state_of, IsLog}
use Rattle.proof_log.specs.Diaries.{is_chain}
use Rattle.proof_log.proofs.Growth.{chain_part}
use Rattle.cdcl_learn.proofs.Lists.{front_cases}
use Rattle.cdcl_core.specs.declared.watches.Watches.{Watches}
use Rattle.cdcl_core.specs.Search.{clause_of, held_of}
use Rattle.cdcl_core.proofs.Held.{held_kept}
use Rattle.cube_search.specs.declared.search.Search.{Search}
use Rattle.cube_search.specs.Holding.{AreAmong, IsForeign, IsThinned, IsParking, IsGapless, listed_before, IsTold, IsFilling, IsSorted, AreLeft, AreStored, AreStoredAt}
use Rattle.cube_search.specs.Running.{IsResting, IsSearchOf}
use Rattle.cube_search.proofs.Filling.{no_later}
use Rattle.cube_search.proofs.Later.{chain_entry}
use Rattle.cube_search.proofs.Moving.{left_kept}
use Rattle.cube_search.proofs.Told.{take_within, told_cut, told_among, told_occurs}

-- ---- what the last check leaves

module _ (s : Search) (rows : List (List (List Literal))) (log : List Entry) (rest : IsResting s rows log) where
  -- of an opening position no part is missing
  pub opening_gapless : (w : Watches) → ((id : ClauseId) (c : List Literal) → clause_of w id ≡ Some c → clause_at rows id ≡ Some c) → ((id : ClauseId) (c : List Literal) → Contains s.opening.items id.pos → clause_at rows id ≡ Some c → held_of w id ≡ Some c) → (p : ℕ) → Contains s.opening.items p → IsGapless (clause_of w) p
  opening_gapless w sound complete p k i j c none le e = no_later rows p i j c (missing (clause_at rows (record { pos = p; part = i })) refl) le (sound (record { pos = p; part = j }) c e)
    where
      missing : (o : Option (List Literal)) → clause_at rows (record { pos = p; part = i }) ≡ o → clause_at rows (record { pos = p; part = i }) ≡ None
      missing None f = f
      missing (Some d) f =
          let there = held_kept w (record { pos = p; part = i }) d (complete (record { pos = p; part = i }) d k f) in
          let g : Some d ≡ None = sym there ∙ none in
          let z : ⊥ = cc in
          absurd z

  module _ (v w : Watches) (thinned : IsThinned log s.engine.watches v) (parking : IsParking v w) where
    pub thinned_sound : (id : ClauseId) (c : List Literal) → clause_of v id ≡ Some c → clause_at rows id ≡ Some c
    thinned_sound id c e = rest.sound id c (thinned.kept id c e)

    pub thinned_complete : (id : ClauseId) (c : List Literal) → Contains s.opening.items id.pos → clause_at rows id ≡ Some c → held_of v id ≡ Some c
    thinned_complete id c k e = thinned.plain id (rest.plain id.pos k).1 ∙ rest.whole id c k e

    pub thinned_gapless : (p : ℕ) → Contains s.opening.items p → IsGapless (clause_of v) p
    thinned_gapless = opening_gapless v thinned_sound thinned_complete

    module _ (noted positions : List ℕ) (has : (p : ℕ) → Contains positions p → Contains noted (p + 1)) (only : (p : ℕ) → Contains noted (p + 1) → Contains positions p)
        (needed : (q : ClauseId) → Contains noted (q.pos + 1) → held_of w q ≡ held_of v q)
        (parked : (q : ClauseId) → Contains s.opening.items q.pos → (Contains noted (q.pos + 1) → ⊥) → held_of w q ≡ None)
        (stay : ℕ) (within : stay ≤ length s.opening.items) (same : take stay s.opening.items ≡ take stay positions) where
      -- what is held is needed, or was taken
      left_covered : (id : ClauseId) (c : List Literal) → held_of w id ≡ Some c → Contains positions id.pos ⊎ Contains s.taken.items id.pos
      left_covered id c e = ⊎_elim (λ k. inl (opened k)) (λ k. inr k) (rest.covered id c (thinned.held id c (parking.held id c e)))
        where
          gone : Contains s.opening.items id.pos → (Contains positions id.pos → ⊥) → ⊥
          gone k un =
              let f : Some c ≡ None = sym e ∙ parked id k (λ n. un (only id.pos n)) in
              let z : ⊥ = cc in
              z

          opened : Contains s.opening.items id.pos → Contains positions id.pos
          opened k = found positions (gone k)
            where
              found : (ps : List ℕ) → ((Contains ps id.pos → ⊥) → ⊥) → Contains ps id.pos
              found [] h = absurd (h (Contains-nil id.pos))
              found (p ∷ ps) h = ⊎_elim
                  (λ q. subst (Contains (p ∷ ps)) (sym q) (Contains-first p ps))
                  (λ ne. Contains-later p id.pos ps (found ps (λ un. h (λ m. un (tail ne m)))))
                  (cases_eq id.pos p)
                where
                  tail : id.pos ≢ p → Contains (p ∷ ps) id.pos → Contains ps id.pos
                  tail ne m = ⊎_elim (λ k. absurd (ne (sym (Contains-one p id.pos k)))) (λ k. k) (Contains-append_cases (p ∷ []) ps id.pos m)

      pub left_filling : (xs opening ends : List ℕ) → xs ≡ take (listed_before s.engine.agenda.list s.ends.items stay) s.engine.agenda.list → opening ≡ take stay s.opening.items → ends ≡ take stay s.ends.items → IsFilling w rows xs opening ends positions s.taken.items
      left_filling xs opening ends a b d = record {
        sound = λ id c e. thinned_sound id c (sym (parking.kept id) ∙ e);
        covered = left_covered;
        complete = λ id c k e. let f = subst (λ (ps : List ℕ). Contains ps id.pos) b k in needed id (has id.pos (among id.pos f)) ∙ thinned_complete id c (take_within stay s.opening.items id.pos f) e;
        told = subst (λ (ys : List ℕ). IsTold rows ys opening ends) (sym a)
            (subst (λ (ps : List ℕ). IsTold rows (take (listed_before s.engine.agenda.list s.ends.items stay) s.engine.agenda.list) ps ends) (sym b)
            (subst (λ (es : List ℕ). IsTold rows (take (listed_before s.engine.agenda.list s.ends.items stay) s.engine.agenda.list) (take stay s.opening.items) es) (sym d)
            (told_cut rows s.engine.agenda.list s.opening.items s.ends.items rest.told stay within)));
      }
        where
          among : (p : ℕ) → Contains (take stay s.opening.items) p → Contains positions p
          among p k = take_within stay positions p (subst (λ (ps : List ℕ). Contains ps p) same k)

-- ---- chains that are sorted

-- of what is kept as before the same is left
pub left_same : (look look' : Lookup) (positions left : List ℕ) → ((q : ClauseId) → look' q ≡ look q) → AreLeft look positions left → AreLeft look' positions left
left_same look look' positions left same h = record { among = h.among; all = λ p c k e. h.all p c k (sym (same (record { pos = p; part = 0 })) ∙ e) }

-- what is left by the same step, by what was kept at first
pub noted_first : (first w : Watches) (at : ℕ) (noted noted' : List ℕ) → ((q : ClauseId) → clause_of w q ≡ clause_of first q) →
    ((clause_of w (record { pos = at; part = 0 }) ≡ None) × (noted' ≡ noted)) ⊎ ((c : List Literal) × (clause_of w (record { pos = at; part = 0 }) ≡ Some c) × (noted' ≡ noted ++ at ∷ [])) →
    ((clause_of first (record { pos = at; part = 0 }) ≡ None) × (noted' ≡ noted) × Unit {0})
    ⊎ ((c : List Literal) × (clause_of first (record { pos = at; part = 0 }) ≡ Some c) × (noted' ≡ noted ++ at ∷ []) × Unit {0})
noted_first first w at noted noted' kept step = ⊎_elim
    (λ x. inl (sym (kept (record { pos = at; part = 0 })) ∙ x.0, x.1, tt))
    (λ x. inr (x.0, sym (kept (record { pos = at; part = 0 })) ∙ x.1, x.2, tt))
    step

module _ (first w v : Watches) (variables ps : List ℕ) (i at : ℕ) (lt : i < length ps) (is : at ≡ get_or ps i at) (kept : (q : ClauseId) → clause_of w q ≡ clause_of first q) (others : (q : ClauseId) → q ≢ record { pos = at; part = 0 } → held_of v q ≡ held_of w q) where
  has_at : Contains ps at
  has_at = (i, lt, sym is)

  other_at : (q : ClauseId) → (Contains ps q.pos → ⊥) → q ≢ record { pos = at; part = 0 }
  other_at q un e = un (subst (Contains ps) (sym (ap (λ (x : ClauseId). x.pos) e)) has_at)

  pub sorted_others : ((q : ClauseId) → (Contains ps q.pos → ⊥) → held_of w q ≡ held_of first q) → (q : ClauseId) → (Contains ps q.pos → ⊥) → held_of v q ≡ held_of first q
  sorted_others h q un = others q (other_at q un) ∙ h q un

  pub sorted_came : ((q : ClauseId) (c : List Literal) → held_of w q ≡ Some c → (held_of first q ≡ Some c) ⊎ Contains ps q.pos) → (q : ClauseId) (c : List Literal) → held_of v q ≡ Some c → (held_of first q ≡ Some c) ⊎ Contains ps q.pos
  sorted_came h q c e = ⊎_elim
      (λ p. inr (subst (Contains ps) (sym p) has_at))
      (λ ne. h q c (sym (others q (λ a. ne (ap (λ (x : ClauseId). x.pos) a))) ∙ e))
      (cases_eq q.pos at)

  pub sorted_more : IsSorted w v variables at → ((p : ℕ) → Contains (take i ps) p → IsSorted first w variables p) → (p : ℕ) → Contains (take (i + 1) ps) p → IsSorted first v variables p
  sorted_more here h p k = ⊎_elim (λ e. subst (IsSorted first v variables) (sym e) own) (λ ne. old ne) (cases_eq p at)
    where
      own : IsSorted first v variables at
      own c e = here c (kept (record { pos = at; part = 0 }) ∙ e)

      old : p ≢ at → IsSorted first v variables p
      old ne c e =
          let same = others (record { pos = p; part = 0 }) (λ a. ne (ap (λ (x : ClauseId). x.pos) a)) in
          ⊎_elim
          (λ m. ⊎_elim (λ x. inl (same ∙ x.0, x.1)) (λ x. inr (same ∙ x.0, x.1)) (h p m c e))
          (λ q. absurd (ne (sym (is ∙ q))))
          (front_cases ps i at p lt k)

-- ---- the search of the next check

module _ (nodes : List Node) (log : List Entry) (old w n : Watches) (variables opening ends taken left : List ℕ) (from seen : ℕ) (listed : IsTermList nodes) (stands : IsLog nodes log)
    (before : (p : ℕ) → Contains opening p → p < suc (length log)) (plain : (p : ℕ) → Contains opening p → is_chain (entry_at log p) ≡ false)
    (chains : (p : ℕ) → Contains taken p → is_chain (entry_at log p) ≡ true) (stored : AreStored (clause_of old) log taken) (below : AreStoredAt (clause_of old) log opening from)
    (came : (id : ClauseId) (c : List Literal) → clause_of w id ≡ Some c → (clause_of old id ≡ Some c) ⊎ Contains opening id.pos)
    (filling : IsFilling w (state_of nodes log).clauses variables opening ends opening taken)
    (kept : (q : ClauseId) → clause_of n q ≡ clause_of w q)
    (others : (q : ClauseId) → (Contains taken q.pos → ⊥) → held_of n q ≡ held_of w q)
    (new : (q : ClauseId) (c : List Literal) → held_of n q ≡ Some c → (held_of w q ≡ Some c) ⊎ Contains taken q.pos)
    (sorted : (p : ℕ) → Contains taken p → IsSorted w n variables p)
    (are : AreLeft (clause_of w) taken left) where
  sound : (id : ClauseId) (c : List Literal) → clause_of n id ≡ Some c → clause_at (state_of nodes log).clauses id ≡ Some c
  sound id c e = filling.sound id c (sym (kept id) ∙ e)

  -- a chain that is kept is the first clause of its position
  first_part : (id : ClauseId) (c : List Literal) → Contains taken id.pos → clause_of n id ≡ Some c → id ≡ record { pos = id.pos; part = 0 }
  first_part id c k e =
      let a = chain_entry (entry_at log id.pos) (chains id.pos k) in
      let part = chain_part nodes log id a.0 c a.1 a.2 (sound id c e) in
      λ i. record { pos = id.pos; part = part.0 i }

  sorted_kept : (id : ClauseId) (c : List Literal) → Contains taken id.pos → clause_of n id ≡ Some c → ((held_of n id ≡ Some c) × AreAmong variables c) ⊎ IsForeign variables c
  sorted_kept id c k e =
      let a = first_part id c k e in
      ⊎_elim (λ x. inl (ap (held_of n) a ∙ x.0, x.1)) (λ x. inr x.1) (sorted id.pos k c (sym (kept (record { pos = id.pos; part = 0 })) ∙ ap (clause_of n) (sym a) ∙ e))

  sorted_held : (id : ClauseId) (c : List Literal) → Contains taken id.pos → held_of n id ≡ Some c → AreAmong variables c
  sorted_held id c k e =
      let there = held_kept n id c e in
      let a = first_part id c k there in
      ⊎_elim
      (λ x. x.1)
      (λ x. let f : Some c ≡ None = sym e ∙ ap (held_of n) a ∙ x.0 in let z : ⊥ = cc in absurd z)
      (sorted id.pos k c (sym (kept (record { pos = id.pos; part = 0 })) ∙ ap (clause_of n) (sym a) ∙ there))

  covered_by : (id : ClauseId) (c : List Literal) → held_of n id ≡ Some c → Contains opening id.pos ⊎ Contains taken id.pos
  covered_by id c e = ⊎_elim (λ x. filling.covered id c x) (λ k. inr k) (new id c e)

  left_now : AreLeft (clause_of n) taken left
  left_now = left_same (clause_of w) (clause_of n) taken left kept are

  untaken : (p : ℕ) → Contains opening p → Contains taken p → ⊥
  untaken p k m = both_ways (is_chain (entry_at log p)) (plain p k) (chains p m)

  pub retargeted : from ≤ seen → seen ≤ suc (length log) → IsSearchOf n variables opening left from seen nodes log
  retargeted from_seen within = record {
    holding = record {
      sound = sound;
      among = λ id c h. ⊎_elim
          (λ k. told_among (state_of nodes log).clauses variables opening ends filling.told id c k (sound id c (held_kept n id c h)))
          (λ k. sorted_held id c k h)
          (covered_by id c h);
      covered = λ id c h. ⊎_elim
          (λ k. inl k)
          (λ k. inr (left_kept nodes log (clause_of n) taken left sound chains left_now id c (held_kept n id c h) k))
          (covered_by id c h);
      complete = λ id c k h. others id (λ m. untaken id.pos k m) ∙ filling.complete id c k h;
      waiting = λ id c k h. ⊎_elim (λ x. inl x.0) (λ x. inr x) (sorted_kept id c (are.among id.pos k) h);
      occurs = told_occurs (state_of nodes log).clauses variables opening ends filling.told;
    };
    placed = record {
      before = before;
      plain = plain;
      chains = λ p k. chains p (are.among p k);
      stored = λ id c q. ⊎_elim
          (λ was. ⊎_elim (λ x. inl x) (λ x. inr (left_kept nodes log (clause_of n) taken left sound chains left_now id c q x)) (stored id c was))
          (λ k. inl (plain id.pos k))
          (came id c (sym (kept id) ∙ q));
      below = λ id c q not_chain. ⊎_elim (λ was. below id c was not_chain) (λ k. inr k) (came id c (sym (kept id) ∙ q));
      from_seen = from_seen;
      within = within;
    };
    listed = listed;
    stands = stands;
  }
