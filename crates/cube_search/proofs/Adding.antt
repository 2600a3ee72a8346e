-- Equalities and lemmas that come while a check is searched.
use Rattle.std.proofs.Common.{◌≡◌, ℕ, suc, ◌+◌, ◌≤◌, Bool, true, false, List, [], ◌∷◌, ◌++◌, length, Option, Some, None, refl, sym, ap, ◌∙◌, subst, inl, inr, ⊎_elim, arith}
use Rattle.std.specs.Prelude.{◌⊎◌, Contains}
use Rattle.std.proofs.lemmas.Bool.{both_ways}
use Rattle.std.proofs.lemmas.List.Elements.{Contains-append_left, Contains-push, Contains-push_cases}
use Rattle.cnf_base.specs.Assignments.{AreBelow}
use Rattle.cnf_base.specs.Literals.{Literal}
use Rattle.cnf_base.specs.declared.clause.ClauseId.{ClauseId}
use Rattle.smt_terms.specs.declared.node.Node.{Node}
use Rattle.proof_log.specs.declared.entry.Entry.{Entry}
use Rattle.proof_log.specs.declared.entry.Entry.TheVariants as step
use Rattle.proof_log.specs.declared.diary.DiaryLine.{DiaryLine}
use Rattle.proof_log.specs.declared.diary.DiaryLine.TheVariants.{Take, Put}
use Rattle.proof_log.specs.LemmaBoards.{IsLaterByMore}
use Rattle.proof_log.specs.Logs.{entry_at, state_of, IsLog}
use Rattle.proof_log.specs.Diaries.{Subject, look_of, is_chain, DiaryState, blank, count_new, line_after, AreLines, lines_after}
use Rattle.proof_log.proofs.Growth.{clause_place, chain_part, entry_within}
use Rattle.proof_log.proofs.Lines.{are_lines_snoc, lines_after_snoc, held_cases}
use Rattle.cdcl_core.specs.declared.watches.Watches.{Watches}
use Rattle.cdcl_core.specs.Search.{clause_of, held_of}
use Rattle.cdcl_core.proofs.Held.{held_kept}
use Rattle.cube_search.specs.declared.keeper.Keeper.{Keeper}
use Rattle.cube_search.specs.declared.search.Search.{Search}
use Rattle.cdcl_loop.specs.declared.engine.Engine.{Engine}
use Rattle.cube_search.specs.Holding.{IsForeign, AreSeparate, IsTold, IsHolding, IsBrought, IsFilling, IsSorted, AreLeft}
use Rattle.cube_search.specs.Keeping.{HasLine, AreEqualitiesFirst, IsKept, IsTaken, IsNotedMore, is_theory, state_in}
use Rattle.cube_search.specs.Running.{variables_in, given_in, IsSearch, IsSearchOf, IsAdding}
use Rattle.cube_search.specs.Later.{MoreStepsKeepSearches, MoreStepsKeepDiaries}
use Rattle.cube_search.proofs.Filling.{brought_kept, filling_more}
use Rattle.cube_search.proofs.FirstTaken.{first_take}
use Rattle.cube_search.proofs.Keeping.{held_here, held_still, line_still}
use Rattle.cube_search.proofs.Later.{chain_entry, longer_search, longer_told, longer_kept, longer_below}
use Rattle.cube_search.proofs.Moving.{search_moved, left_kept}
use Rattle.cube_search.proofs.Told.{longer_has, longer_same, longer_then}
use Rattle.cube_search.proofs.Waking.{retargeted}

-- ---- the steps

-- an equality or a lemma is no chain
pub theory_plain : (o : Option Entry) → is_theory o ≡ true → is_chain o ≡ false
theory_plain (Some (step.Equal t u)) e = refl
theory_plain (Some (step.Lemma l)) e = refl
theory_plain _ e = let f : ⊥ = cc in absurd f

pub theory_within : (log : List Entry) (p : ℕ) → is_theory (entry_at log p) ≡ true → p ≤ length log
theory_within log p e = go (entry_at log p) refl e
  where
    go : (o : Option Entry) → entry_at log p ≡ o → is_theory o ≡ true → p ≤ length log
    go None q e = let f : ⊥ = cc in absurd f
    go (Some x) q e = entry_within log p x q

-- ---- their lines

no_more : (b h : Bool) (n : ℕ) → b ≡ false → n + count_new b h ≡ n
no_more false h n e = omega arith
no_more true h n e = let f : ⊥ = cc in absurd f

module _ (g : Subject) (k l : Keeper) (at : ℕ) (t : IsTaken k l at) (within : at ≤ length g.log) (plain : is_chain (entry_at g.log at) ≡ false) where
  after : state_in g l ≡ line_after g (state_in g k) (Take at)
  after = ap (λ (ls : List DiaryLine). lines_after g (blank g) ls) t.lines ∙ lines_after_snoc g (blank g) k.lines.items (Take at)

  none_new : (state_in g k).chains + count_new (is_chain (entry_at g.log at)) ((state_in g k).held at) ≡ (state_in g k).chains
  none_new = no_more (is_chain (entry_at g.log at)) ((state_in g k).held at) (state_in g k).chains plain

  pub noted_step : (positions : List ℕ) → IsNotedMore g k l positions (positions ++ at ∷ [])
  noted_step positions = record {
    stand = λ h. subst (AreLines g (blank g)) (sym t.lines) (are_lines_snoc g (blank g) k.lines.items (Take at) h within);
    counts = (ap (λ (r : DiaryState). r.puts) after, ap (λ (r : DiaryState). r.chains) after ∙ none_new);
    start = t.start;
    puts = t.puts;
    chains = t.chains;
    drops = λ h. omega (arith, t.left);
    grown = λ p h. ap (λ (r : DiaryState). r.held p) after ∙ held_still (state_in g k).held at p h;
    only = λ p h. ⊎_elim
        (λ e. inr (subst (Contains (positions ++ at ∷ [])) (sym e) (Contains-push positions at), ap (λ q. is_chain (entry_at g.log q)) e ∙ plain))
        (λ old. inl old)
        (held_cases (state_in g k).held at true p (sym (ap (λ (r : DiaryState). r.held p) after) ∙ h));
    noted = λ p c. ⊎_elim
        (λ old. inl old)
        (λ e. inr (subst (λ q. (state_in g l).held q ≡ true) e (ap (λ (r : DiaryState). r.held at) after ∙ held_here (state_in g k).held at)))
        (Contains-push_cases positions at p c);
    lined = λ p c. ⊎_elim
        (λ old. inl old)
        (λ e. inr (inl (subst (λ q. Contains l.lines.items (Take q)) e (subst (λ (ls : List DiaryLine). Contains ls (Take at)) (sym t.lines) (Contains-push k.lines.items (Take at))))))
        (Contains-push_cases positions at p c);
    lines = λ p h. subst (λ (ls : List DiaryLine). HasLine ls p) (sym t.lines) (line_still k.lines.items (Take at) p h);
    later = λ p c. ⊎_elim (λ old. old) (λ q. let f : ⊥ = cc in absurd f) (Contains-push_cases k.lines.items (Take at) (Put p) (subst (λ (ls : List DiaryLine). Contains ls (Put p)) t.lines c));
    first = λ h. subst (λ (ls : List DiaryLine). AreEqualitiesFirst g.log g.from ls) (sym t.lines) (first_take g.log g.from k.lines.items at h);
  }

pub noted_same : (g : Subject) (k : Keeper) (positions : List ℕ) → IsNotedMore g k k positions positions
noted_same g k positions = record {
  stand = λ h. h;
  counts = (refl, refl);
  start = refl;
  puts = refl;
  chains = refl;
  drops = λ h. h;
  grown = λ p h. h;
  only = λ p h. inl h;
  noted = λ p c. inl c;
  lined = λ p c. inl c;
  lines = λ p h. h;
  later = λ p c. c;
  first = λ h. h;
}

pub noted_then : (g : Subject) (k l m : Keeper) (ps qs rs : List ℕ) → ((p : ℕ) → Contains qs p → Contains rs p) → IsNotedMore g k l ps qs → IsNotedMore g l m qs rs → IsNotedMore g k m ps rs
noted_then g k l m ps qs rs more a b = record {
  stand = λ h. b.stand (a.stand h);
  counts = (b.counts.0 ∙ a.counts.0, b.counts.1 ∙ a.counts.1);
  start = b.start ∙ a.start;
  puts = b.puts ∙ a.puts;
  chains = b.chains ∙ a.chains;
  drops = λ h. b.drops (a.drops h);
  grown = λ p h. b.grown p (a.grown p h);
  only = λ p h. ⊎_elim (λ x. ⊎_elim (λ y. inl y) (λ y. inr (more p y.0, y.1)) (a.only p x)) (λ x. inr x) (b.only p h);
  noted = λ p c. ⊎_elim (λ x. ⊎_elim (λ y. inl y) (λ y. inr (b.grown p y)) (a.noted p x)) (λ x. inr x) (b.noted p c);
  lined = λ p c. ⊎_elim (λ x. ⊎_elim (λ y. inl y) (λ y. inr (b.lines p y)) (a.lined p x)) (λ x. inr x) (b.lined p c);
  lines = λ p h. b.lines p (a.lines p h);
  later = λ p c. a.later p (b.later p c);
  first = λ h. b.first (a.first h);
}

-- ---- their clauses

-- what is held is of needed positions, or of more
filling_wider : (w : Watches) (rows : List (List (List Literal))) (variables opening ends needed needed' taken : List ℕ) → ((p : ℕ) → Contains needed p → Contains needed' p) → IsFilling w rows variables opening ends needed taken → IsFilling w rows variables opening ends needed' taken
filling_wider w rows variables opening ends needed needed' taken more h = record {
  sound = h.sound;
  covered = λ id c e. ⊎_elim (λ k. inl (more id.pos k)) (λ k. inr k) (h.covered id c e);
  complete = h.complete;
  told = h.told;
}

-- a search fills its opening positions
pub search_filling : (w : Watches) (rows : List (List (List Literal))) (variables opening ends taken : List ℕ) → IsHolding w rows variables opening taken → IsTold rows variables opening ends → IsFilling w rows variables opening ends opening taken
search_filling w rows variables opening ends taken h told = record { sound = h.sound; covered = h.covered; complete = h.complete; told = told }

module _ (nodes : List Node) (log : List Entry) (s t : Search) (at : ℕ) (theory : is_theory (entry_at log at) ≡ true)
    (filling : IsFilling s.engine.watches (state_of nodes log).clauses (variables_in s) s.opening.items s.ends.items s.opening.items s.taken.items)
    (brought : IsBrought s.engine.watches t.engine.watches (state_of nodes log).clauses (variables_in s) (variables_in t) at)
    (opening : t.opening.items ≡ s.opening.items ++ at ∷ []) (ends : t.ends.items ≡ s.ends.items ++ length (variables_in s) ∷ [])
    (noted : IsTaken s.diary t.diary at) (taken : t.taken ≡ s.taken) (from : t.from ≡ s.from) (seen : t.seen ≡ s.seen) (given : t.engine.given ≡ s.engine.given) where
  here : Contains t.opening.items at
  here = subst (λ (ps : List ℕ). Contains ps at) (sym opening) (Contains-push s.opening.items at)

  still : (p : ℕ) → Contains s.opening.items p → Contains t.opening.items p
  still p k = subst (λ (ps : List ℕ). Contains ps p) (sym opening) (Contains-append_left s.opening.items (at ∷ []) p k)

  wide : IsFilling s.engine.watches (state_of nodes log).clauses (variables_in s) s.opening.items s.ends.items t.opening.items s.taken.items
  wide = filling_wider s.engine.watches (state_of nodes log).clauses (variables_in s) s.opening.items s.ends.items s.opening.items t.opening.items s.taken.items still filling

  pub adding_one : IsAdding nodes log s t
  adding_one = record {
    opening = (at ∷ [], opening);
    only = λ p k. ⊎_elim
        (λ old. inl old)
        (λ e. inr (subst (λ q. is_theory (entry_at log q) ≡ true) e theory))
        (Contains-push_cases s.opening.items at p (subst (λ (ps : List ℕ). Contains ps p) opening k));
    filling =
        subst (λ (os : List ℕ). IsFilling t.engine.watches (state_of nodes log).clauses (variables_in t) os t.ends.items t.opening.items t.taken.items) (sym opening)
        (subst (λ (es : List ℕ). IsFilling t.engine.watches (state_of nodes log).clauses (variables_in t) (s.opening.items ++ at ∷ []) es t.opening.items t.taken.items) (sym ends)
        (subst (λ (ts : List ℕ). IsFilling t.engine.watches (state_of nodes log).clauses (variables_in t) (s.opening.items ++ at ∷ []) (s.ends.items ++ length (variables_in s) ∷ []) t.opening.items ts) (sym (ap (λ v. v.items) taken))
        (filling_more s.engine.watches t.engine.watches (state_of nodes log).clauses (variables_in s) (variables_in t) s.opening.items s.ends.items t.opening.items s.taken.items at here brought wide)));
    came = λ id c e. ⊎_elim (λ old. inl old) (λ p. inr (subst (Contains t.opening.items) (sym p) here)) (brought_kept s.engine.watches t.engine.watches (state_of nodes log).clauses (variables_in s) (variables_in t) at brought id c e);
    chains = λ id e. brought.kept id (λ p. both_ways (is_chain (entry_at log id.pos)) (theory_plain (entry_at log id.pos) (ap (λ q. is_theory (entry_at log q)) p ∙ theory)) e);
    noted = λ given' from'.
        subst (λ (ps : List ℕ). IsNotedMore (record { nodes = nodes; log = log; given = given'; from = from' }) s.diary t.diary s.opening.items ps) (sym opening)
        (noted_step (record { nodes = nodes; log = log; given = given'; from = from' }) s.diary t.diary at noted (theory_within log at theory) (theory_plain (entry_at log at) theory) s.opening.items);
    taken = taken;
    from = from;
    seen = seen;
    given = given;
  }

pub adding_none : (nodes : List Node) (log : List Entry) (s : Search) → IsFilling s.engine.watches (state_of nodes log).clauses (variables_in s) s.opening.items s.ends.items s.opening.items s.taken.items → IsAdding nodes log s s
adding_none nodes log s filling = record {
  opening = longer_same s.opening.items s.opening.items refl;
  only = λ p k. inl k;
  filling = filling;
  came = λ id c e. inl e;
  chains = λ id e. refl;
  noted = λ given from. noted_same (record { nodes = nodes; log = log; given = given; from = from }) s.diary s.opening.items;
  taken = refl;
  from = refl;
  seen = refl;
  given = refl;
}

pub adding_then : (nodes : List Node) (log : List Entry) (a b c : Search) → IsAdding nodes log a b → IsAdding nodes log b c → IsAdding nodes log a c
adding_then nodes log a b c h k = record {
  opening = longer_then a.opening.items b.opening.items c.opening.items h.opening k.opening;
  only = λ p m. ⊎_elim (λ x. h.only p x) (λ x. inr x) (k.only p m);
  filling = k.filling;
  came = λ id d e. ⊎_elim
      (λ x. ⊎_elim (λ y. inl y) (λ y. inr (longer_has b.opening.items c.opening.items id.pos k.opening y)) (h.came id d x))
      (λ x. inr x)
      (k.came id d e);
  chains = λ id e. k.chains id e ∙ h.chains id e;
  noted = λ given from. noted_then (record { nodes = nodes; log = log; given = given; from = from }) a.diary b.diary c.diary a.opening.items b.opening.items c.opening.items (λ p. longer_has b.opening.items c.opening.items p k.opening) (h.noted given from) (k.noted given from);
  taken = k.taken ∙ h.taken;
  from = k.from ∙ h.from;
  seen = k.seen ∙ h.seen;
  given = k.given ∙ h.given;
}

-- ---- the search

-- at level 0 it fills its opening positions
pub began_filling : (s : Search) (n : Engine) (nodes : List Node) (log : List Entry) → n.watches ≡ s.engine.watches → n.agenda.list ≡ variables_in s → IsSearch s nodes log → IsFilling n.watches (state_of nodes log).clauses n.agenda.list s.opening.items s.ends.items s.opening.items s.taken.items
began_filling s n nodes log watches listed h =
    subst (λ (w : Watches). IsFilling w (state_of nodes log).clauses n.agenda.list s.opening.items s.ends.items s.opening.items s.taken.items) (sym watches)
    (subst (λ (xs : List ℕ). IsFilling s.engine.watches (state_of nodes log).clauses xs s.opening.items s.ends.items s.opening.items s.taken.items) (sym listed)
    (search_filling s.engine.watches (state_of nodes log).clauses (variables_in s) s.opening.items s.ends.items s.taken.items h.1.holding h.2))

pub began_search : (s : Search) (n : Engine) (nodes : List Node) (log : List Entry) → n.watches ≡ s.engine.watches → n.agenda.list ≡ variables_in s → IsSearch s nodes log → IsSearchOf n.watches n.agenda.list s.opening.items s.taken.items s.from s.seen nodes log
began_search s n nodes log watches listed h = search_moved s.engine.watches n.watches (variables_in s) n.agenda.list s.opening.items s.opening.items s.taken.items s.taken.items s.from s.from s.seen s.seen nodes log watches listed refl refl refl refl h.1

module _ (nodes : List Node) (log : List Entry) (a b : Search) (n : Watches) (left : List ℕ)
    (before : IsSearchOf a.engine.watches (variables_in a) a.opening.items a.taken.items a.from a.seen nodes log)
    (adding : IsAdding nodes log a b)
    (kept : (q : ClauseId) → clause_of n q ≡ clause_of b.engine.watches q)
    (others : (q : ClauseId) → (Contains b.taken.items q.pos → ⊥) → held_of n q ≡ held_of b.engine.watches q)
    (new : (q : ClauseId) (c : List Literal) → held_of n q ≡ Some c → (held_of b.engine.watches q ≡ Some c) ⊎ Contains b.taken.items q.pos)
    (sorted : (p : ℕ) → Contains b.taken.items p → IsSorted b.engine.watches n (variables_in b) p)
    (are : AreLeft (clause_of b.engine.watches) b.taken.items left) where
  was_taken : (p : ℕ) → Contains b.taken.items p → Contains a.taken.items p
  was_taken p k = subst (λ (ts : List ℕ). Contains ts p) (ap (λ v. v.items) adding.taken) k

  now_taken : (p : ℕ) → Contains a.taken.items p → Contains b.taken.items p
  now_taken p k = subst (λ (ts : List ℕ). Contains ts p) (sym (ap (λ v. v.items) adding.taken)) k

  pub added_search : IsSearchOf n (variables_in b) b.opening.items left b.from b.seen nodes log
  added_search =
      search_moved n n (variables_in b) (variables_in b) b.opening.items b.opening.items left left a.from b.from a.seen b.seen nodes log refl refl refl refl adding.from adding.seen
      (retargeted nodes log a.engine.watches b.engine.watches n (variables_in b) b.opening.items b.ends.items b.taken.items left a.from a.seen before.listed before.stands
      (λ p k. ⊎_elim (λ old. before.placed.before p old) (λ e. let le = theory_within log p e in omega (arith, le)) (adding.only p k))
      (λ p k. ⊎_elim (λ old. before.placed.plain p old) (λ e. theory_plain (entry_at log p) e) (adding.only p k))
      (λ p k. before.placed.chains p (was_taken p k))
      (λ id c e. ⊎_elim (λ x. inl x) (λ k. inr (now_taken id.pos k)) (before.placed.stored id c e))
      (λ id c e x. ⊎_elim (λ lt. inl lt) (λ k. inr (longer_has a.opening.items b.opening.items id.pos adding.opening k)) (before.placed.below id c e x))
      adding.came adding.filling kept others new sorted are before.placed.from_seen before.placed.within)

-- ---- the diary

module _ (nodes : List Node) (log : List Entry) (given : List Literal) (from seen : ℕ) (s b : Search) (n : Watches) (left : List ℕ)
    (before : IsSearchOf s.engine.watches (variables_in s) s.opening.items s.taken.items from seen nodes log)
    (adding : IsAdding nodes log s b)
    (same : (id : ClauseId) → clause_of n id ≡ clause_of b.engine.watches id)
    (are : AreLeft (clause_of b.engine.watches) s.taken.items left)
    (now : IsSearchOf n (variables_in b) b.opening.items left from seen nodes log)
    (separate : AreSeparate (state_of nodes log).clauses log b.opening.items (suc (length log)))
    (h : IsKept (record { nodes = nodes; log = log; given = given; from = from }) s.engine.watches (variables_in s) s.diary seen) where
  abbrev about : Subject
  about = record { nodes = nodes; log = log; given = given; from = from }

  abbrev more : IsNotedMore about s.diary b.diary s.opening.items b.opening.items
  more = adding.noted given from

  -- a chain that was kept is held, or has a variable that is not listed
  kept_chain : (id : ClauseId) (c : List Literal) → Contains s.taken.items id.pos → clause_of s.engine.watches id ≡ Some c → (held_of n id ≡ Some c) ⊎ IsForeign (variables_in b) c
  kept_chain id c k e =
      let there : clause_of b.engine.watches id ≡ Some c = adding.chains id (before.placed.chains id.pos k) ∙ e in
      now.holding.waiting id c (left_kept nodes log (clause_of b.engine.watches) s.taken.items left adding.filling.sound before.placed.chains are id c there k) (same id ∙ there)

  -- what was held without being an opening position's now
  was_held : (id : ClauseId) (c : List Literal) → (state_in about s.diary).held id.pos ≡ true → look_of about id ≡ Some c → (held_of n id ≡ Some c) ⊎ IsForeign (variables_in b) c
  was_held id c old e = ⊎_elim held foreign (h.complete id c old e)
    where
      held : held_of s.engine.watches id ≡ Some c → (held_of n id ≡ Some c) ⊎ IsForeign (variables_in b) c
      held x = ⊎_elim
          (λ k. inl (now.holding.complete id c (longer_has s.opening.items b.opening.items id.pos adding.opening k) e))
          (λ k. kept_chain id c k (held_kept s.engine.watches id c x))
          (before.holding.covered id c x)

      chained : is_chain (entry_at log id.pos) ≡ true → (held_of n id ≡ Some c) ⊎ IsForeign (variables_in b) c
      chained q =
          let a = chain_entry (entry_at log id.pos) q in
          let part = chain_part nodes log id a.0 c a.1 a.2 e in
          let name : id ≡ record { pos = id.pos; part = 0 } = λ i. record { pos = id.pos; part = part.0 i } in
          let kept = h.stored id.pos old q in
          let there = before.holding.sound (record { pos = id.pos; part = 0 }) kept.0 kept.1 in
          let r : Some (kept.0) ≡ Some c = sym there ∙ ap (look_of about) (sym name) ∙ e in
          let own : clause_of s.engine.watches id ≡ Some c = ap (clause_of s.engine.watches) name ∙ kept.1 ∙ r in
          ⊎_elim
          (λ x. absurd (both_ways (is_chain (entry_at log id.pos)) x q))
          (λ k. kept_chain id c k own)
          (before.placed.stored id c own)

      apart : is_chain (entry_at log id.pos) ≡ false → (held_of n id ≡ Some c) ⊎ IsForeign (variables_in b) c
      apart q =
          let le = clause_place nodes log id c e in
          ⊎_elim
          (λ k. inl (now.holding.complete id c k e))
          (λ x. inr (x.0, x.1, (λ v. x.2 (now.holding.occurs x.0.variable v))))
          (separate id c (omega (arith, le)) q e)

      foreign : IsForeign (variables_in s) c → (held_of n id ≡ Some c) ⊎ IsForeign (variables_in b) c
      foreign x = go (is_chain (entry_at log id.pos)) refl
        where
          go : (y : Bool) → is_chain (entry_at log id.pos) ≡ y → (held_of n id ≡ Some c) ⊎ IsForeign (variables_in b) c
          go true q = chained q
          go false q = apart q

  pub kept_added : IsKept (record { nodes = nodes; log = log; given = given; from = from }) n (variables_in b) b.diary seen
  kept_added = record {
    stand = more.stand h.stand;
    puts = more.counts.0 ∙ h.puts ∙ sym more.puts;
    chains = omega (arith, more.chains, h.chains, more.counts.1);
    drops = more.drops h.drops;
    held = λ id c e. ⊎_elim
        (λ old. more.grown id.pos (h.held id c old))
        (λ k. ⊎_elim
        (λ was. more.grown id.pos (h.held id c (held_kept s.engine.watches id c (before.holding.complete id c was (now.holding.sound id c e)))))
        (λ x. x)
        (more.noted id.pos k))
        (adding.came id c (sym (same id) ∙ e));
    complete = λ id c x e. ⊎_elim (λ old. was_held id c old e) (λ k. inl (now.holding.complete id c k.0 e)) (more.only id.pos x);
    stored = λ p x chained. ⊎_elim
        (λ old. let q = h.stored p old chained in (q.0, same (record { pos = p; part = 0 }) ∙ adding.chains (record { pos = p; part = 0 }) chained ∙ q.1))
        (λ k. absurd (both_ways (is_chain (entry_at log p)) k.1 chained))
        (more.only p x);
    lined = λ p le lt e. more.lines p (h.lined p (omega (arith, le, more.start)) lt e);
    start = omega (arith, h.start, more.start);
    begun = omega (arith, h.begun, more.start);
    later = λ p c. omega (arith, more.start, h.later p (more.later p c));
    first = more.first h.first;
  }

-- ---- a log that equalities and lemmas were added to

pub search_added : MoreStepsKeepSearches
search_added s nodes log log' adds stands h = (
  h.0,
  longer_search s.engine.watches (variables_in s) s.opening.items s.taken.items s.from s.seen nodes log log' adds.more adds.is stands h.1,
  longer_told (variables_in s) s.opening.items s.ends.items nodes log log' adds.more adds.is stands (λ p k. let lt = h.1.placed.before p k in omega (arith, lt)) h.2,
)

pub writing_added : MoreStepsKeepDiaries
writing_added s nodes log log' adds stands h w =
    longer_kept nodes log log' adds.more (given_in s) s.from s.seen s.engine.watches (variables_in s) s.diary adds.is
    (omega (arith, h.1.placed.from_seen, h.1.placed.within)) h.1.placed.within w

-- on a board
pub search_more : (s : Search) (nodes nodes' : List Node) (log log' : List Entry) (known known' : ℕ → Type 0) → IsLaterByMore nodes nodes' log log' known known' → IsSearch s nodes log → IsSearch s nodes' log'
search_more s nodes nodes' log log' known known' later h =
    subst (λ n. IsSearch s n log') (sym later.nodes) (search_added s nodes log log' later.adds (subst (λ n. IsLog n log') later.nodes later.stands) h)

pub below_more : (nodes nodes' : List Node) (log log' : List Entry) (known known' : ℕ → Type 0) (given : List Literal) → IsLaterByMore nodes nodes' log log' known known' → AreBelow (state_of nodes log).next given → AreBelow (state_of nodes' log').next given
below_more nodes nodes' log log' known known' given later h =
    subst (λ n. AreBelow (state_of n log').next given) (sym later.nodes)
    (longer_below nodes log log' later.adds.more given later.adds.is (subst (λ n. IsLog n log') later.nodes later.stands) h)
