-- A diary that is kept line by line.
use Rattle.std.proofs.Common.{◌≡◌, ℕ, suc, ◌+◌, ◌-◌, ◌/◌, ◌%◌, ◌<◌, ◌≤◌, Bool, true, false, not, List, [], ◌∷◌, ◌++◌, length, Some, None, refl, sym, ap, ◌∙◌, subst, inl, inr, ⊎_elim, arith}
use Rattle.std.specs.Prelude.{◌==◌, ◌⊎◌, Contains, ltb, if◌then◌else◌}
use Rattle.std.proofs.lemmas.Bool.{eq-eqb, ne_eqb, and_parts, both_ways}
use Rattle.std.proofs.lemmas.List.Elements.{Contains-append_left, Contains-push_cases}
use Rattle.cnf_base.specs.Literals.{Literal}
use Rattle.cnf_base.specs.declared.clause.ClauseId.{ClauseId}
use Rattle.cnf_base.proofs.Lists.{Contains-first, Contains-later}
use Rattle.hint_chain.specs.Chains.{Lookup}
use Rattle.proof_log.specs.declared.entry.Entry.TheVariants as step
use Rattle.proof_log.specs.declared.diary.DiaryLine.{DiaryLine}
use Rattle.proof_log.specs.declared.diary.DiaryLine.TheVariants.{Take, Put, Drop}
use Rattle.proof_log.specs.Logs.{entry_at}
use Rattle.proof_log.specs.Diaries.{Subject, look_of, is_chain, DiaryState, blank, with_held, EachIsUsed, IsLine, allowed, line_after, AreLines, lines_after}
use Rattle.proof_log.proofs.Growth.{chain_part}
use Rattle.proof_log.proofs.Lines.{are_lines_snoc, lines_after_snoc, held_cases}
use Rattle.cdcl_core.specs.declared.watches.Watches.{Watches}
use Rattle.cdcl_core.specs.Search.{clause_of, held_of}
use Rattle.cdcl_core.proofs.Held.{held_kept}
use Rattle.cdcl_loop.specs.Engines.{IsSameBut}
use Rattle.cdcl_learn.specs.Puts as learnt
use Rattle.cube_search.specs.Holding.{IsForeign}
use Rattle.cube_search.specs.Keeping.{HasLine, AreEqualitiesFirst, IsKept, state_in}
use Rattle.cube_search.specs.declared.keeper.Keeper.{Keeper}
use Rattle.cube_search.proofs.Filling.{same_id}
use Rattle.cube_search.proofs.FirstTaken.{first_take, first_drop, first_put}

-- ---- what is held after a line

pub held_here : (held : ℕ → Bool) (p : ℕ) → with_held held p true p ≡ true
held_here held p = ap (λ b. if b then true else held p) (eq-eqb p p refl)

pub held_still : (held : ℕ → Bool) (p q : ℕ) → held q ≡ true → with_held held p true q ≡ true
held_still held p q h = go (q == p) refl
  where
    go : (b : Bool) → (q == p) ≡ b → with_held held p true q ≡ true
    go true e = ap (λ b. if b then true else held q) e
    go false e = ap (λ b. if b then true else held q) e ∙ h

pub held_other : (held : ℕ → Bool) (p q : ℕ) → (q ≡ p → ⊥) → held q ≡ true → with_held held p false q ≡ true
held_other held p q ne h = ap (λ b. if b then false else held q) (ne_eqb q p ne) ∙ h

pub dropped_cases : (held : ℕ → Bool) (p q : ℕ) → with_held held p false q ≡ true → (q ≡ p → ⊥) × (held q ≡ true)
dropped_cases held p q h = go (q == p) refl
  where
    go : (b : Bool) → (q == p) ≡ b → (q ≡ p → ⊥) × (held q ≡ true)
    go true e = let f : false ≡ true = sym (ap (λ b. if b then false else held q) e) ∙ h in let k : ⊥ = cc in absurd k
    go false e = ((λ s. let r : true ≡ false = sym (eq-eqb q p s) ∙ e in let k : ⊥ = cc in k), sym (ap (λ b. if b then false else held q) e) ∙ h)

allowed_more : (p q c d : ℕ) → p ≡ q → c ≤ d → allowed p c ≤ allowed q d
allowed_more p q c d e le = subst (λ n. allowed p c ≤ allowed n d) e (go (p % 2000 == 0) refl)
  where
    go : (b : Bool) → (p % 2000 == 0) ≡ b → allowed p c ≤ allowed p d
    go true f = subst (λ b. (if b then c / 2 else 0) ≤ (if b then d / 2 else 0)) (sym f) (omega (arith, le))
    go false f = subst (λ b. (if b then c / 2 else 0) ≤ (if b then d / 2 else 0)) (sym f) (omega arith)

pub line_still : (lines : List DiaryLine) (l : DiaryLine) (p : ℕ) → HasLine lines p → HasLine (lines ++ l ∷ []) p
line_still lines l p h = ⊎_elim (λ k. inl (Contains-append_left lines (l ∷ []) (Take p) k)) (λ k. inr (Contains-append_left lines (l ∷ []) (Put p) k)) h

-- ---- a chain that is held from here on

module _ (g : Subject) (w v : Watches) (variables : List ℕ) (held : ℕ → Bool) (at : ℕ) (clause : List Literal) (hints : List ClauseId) (chain : entry_at g.log at ≡ Some (step.Chain clause hints)) (others : IsSameBut (record { pos = at; part = 0 }) w v) where
  at_position : (id : ClauseId) (c : List Literal) → id.pos ≡ at → look_of g id ≡ Some c → (id ≡ record { pos = at; part = 0 }) × (c ≡ clause)
  at_position id c p e =
      let k = chain_part g.nodes g.log id clause c hints (ap (entry_at g.log) p ∙ chain) e in
      ((λ i. record { pos = p i; part = k.0 i }), k.1)

  more_held : ((id : ClauseId) (c : List Literal) → clause_of w id ≡ Some c → held id.pos ≡ true) → (id : ClauseId) (c : List Literal) → clause_of v id ≡ Some c → with_held held at true id.pos ≡ true
  more_held h id c e = elim (same_id id (record { pos = at; part = 0 })) [
    | inl a ↦ ap (with_held held at true) (ap (λ (x : ClauseId). x.pos) a) ∙ held_here held at
    | inr a ↦ held_still held at id.pos (h id c (sym (others.kept id a) ∙ e))
  ]

  more_complete : ((id : ClauseId) (c : List Literal) → held id.pos ≡ true → look_of g id ≡ Some c → (held_of w id ≡ Some c) ⊎ IsForeign variables c) → (held_of v (record { pos = at; part = 0 }) ≡ Some clause) ⊎ IsForeign variables clause → (id : ClauseId) (c : List Literal) → with_held held at true id.pos ≡ true → look_of g id ≡ Some c → (held_of v id ≡ Some c) ⊎ IsForeign variables c
  more_complete h here id c k e = elim (same_id id (record { pos = at; part = 0 })) [
    | inl a ↦
        let s = (at_position id c (ap (λ (x : ClauseId). x.pos) a) e).1 in
        ⊎_elim (λ x. inl (ap (held_of v) a ∙ x ∙ ap Some (sym s))) (λ x. inr (subst (IsForeign variables) (sym s) x)) here
    | inr a ↦ ⊎_elim
        (λ p. absurd (a (at_position id c p e).0))
        (λ old. ⊎_elim (λ x. inl (others.held id a ∙ x)) (λ x. inr x) (h id c old e))
        (held_cases held at true id.pos k)
  ]

  less_held : ((id : ClauseId) (c : List Literal) → clause_of w id ≡ Some c → look_of g id ≡ Some c) → clause_of v (record { pos = at; part = 0 }) ≡ None → ((id : ClauseId) (c : List Literal) → clause_of w id ≡ Some c → held id.pos ≡ true) → (id : ClauseId) (c : List Literal) → clause_of v id ≡ Some c → with_held held at false id.pos ≡ true
  less_held sound none h id c e = elim (same_id id (record { pos = at; part = 0 })) [
    | inl a ↦ (let f : Some c ≡ None = sym e ∙ ap (clause_of v) a ∙ none in let k : ⊥ = cc in absurd k)
    | inr a ↦
        let old = sym (others.kept id a) ∙ e in
        held_other held at id.pos (λ p. a (at_position id c p (sound id c old)).0) (h id c old)
  ]

  less_complete : ((id : ClauseId) (c : List Literal) → held id.pos ≡ true → look_of g id ≡ Some c → (held_of w id ≡ Some c) ⊎ IsForeign variables c) → (id : ClauseId) (c : List Literal) → with_held held at false id.pos ≡ true → look_of g id ≡ Some c → (held_of v id ≡ Some c) ⊎ IsForeign variables c
  less_complete h id c k e =
      let d = dropped_cases held at id.pos k in
      ⊎_elim (λ x. inl (others.held id (λ a. d.0 (ap (λ (y : ClauseId). y.pos) a)) ∙ x)) (λ x. inr x) (h id c d.1 e)

  more_stored : clause_of v (record { pos = at; part = 0 }) ≡ Some clause → ((p : ℕ) → held p ≡ true → is_chain (entry_at g.log p) ≡ true → (c : List Literal) × (clause_of w (record { pos = p; part = 0 }) ≡ Some c)) → (p : ℕ) → with_held held at true p ≡ true → is_chain (entry_at g.log p) ≡ true → (c : List Literal) × (clause_of v (record { pos = p; part = 0 }) ≡ Some c)
  more_stored here h p k chained = elim (same_id (record { pos = p; part = 0 }) (record { pos = at; part = 0 })) [
    | inl a ↦ (clause, ap (clause_of v) a ∙ here)
    | inr a ↦ ⊎_elim
        (λ e. absurd (a (λ i. record { pos = e i; part = 0 })))
        (λ old. let q = h p old chained in (q.0, others.kept (record { pos = p; part = 0 }) a ∙ q.1))
        (held_cases held at true p k)
  ]

  less_stored : ((p : ℕ) → held p ≡ true → is_chain (entry_at g.log p) ≡ true → (c : List Literal) × (clause_of w (record { pos = p; part = 0 }) ≡ Some c)) → (p : ℕ) → with_held held at false p ≡ true → is_chain (entry_at g.log p) ≡ true → (c : List Literal) × (clause_of v (record { pos = p; part = 0 }) ≡ Some c)
  less_stored h p k chained =
      let d = dropped_cases held at p k in
      let q = h p d.1 chained in
      (q.0, others.kept (record { pos = p; part = 0 }) (λ a. d.0 (ap (λ (y : ClauseId). y.pos) a)) ∙ q.1)

-- ---- the three lines

module _ (g : Subject) (w v : Watches) (variables : List ℕ) (k l : Keeper) (seen at : ℕ) (clause : List Literal) (hints : List ClauseId) (chain : entry_at g.log at ≡ Some (step.Chain clause hints)) (others : IsSameBut (record { pos = at; part = 0 }) w v) (same : l.start ≡ k.start) (h : IsKept g w variables k seen) where
  after : (line : DiaryLine) → l.lines.items ≡ k.lines.items ++ line ∷ [] → state_in g l ≡ line_after g (state_in g k) line
  after line e = ap (λ ls. lines_after g (blank g) ls) e ∙ lines_after_snoc g (blank g) k.lines.items line

  stands : (line : DiaryLine) → l.lines.items ≡ k.lines.items ++ line ∷ [] → IsLine g (state_in g k) line → AreLines g (blank g) l.lines.items
  stands line e i = subst (AreLines g (blank g)) (sym e) (are_lines_snoc g (blank g) k.lines.items line h.stand i)

  lined_still : (line : DiaryLine) → l.lines.items ≡ k.lines.items ++ line ∷ [] → (p : ℕ) → l.start ≤ p → p < seen → is_chain (entry_at g.log p) ≡ true → HasLine l.lines.items p
  lined_still line e p le lt c = subst (λ ls. HasLine ls p) (sym e) (line_still k.lines.items line p (h.lined p (omega (arith, le, same)) lt c))

  pub kept_put : l.lines.items ≡ k.lines.items ++ Put at ∷ [] → l.puts ≡ k.puts + 1 → l.chains ≡ k.chains + 1 → l.left ≡ allowed l.puts l.chains → IsLine g (state_in g k) (Put at) → k.start ≤ at → ((q t u : ℕ) → g.from ≤ q → q < at → entry_at g.log q ≡ Some (step.Equal t u) → Contains k.lines.items (Take q)) → held_of v (record { pos = at; part = 0 }) ≡ Some clause → IsKept g v variables l seen
  kept_put e puts chains left line start equalities here =
      let s = after (Put at) e in
      record {
        stand = stands (Put at) e line;
        puts = ap (λ r. r.puts) s ∙ ap suc h.puts ∙ omega (arith, puts);
        chains = omega (arith, ap (λ r. r.chains) s, chains, h.chains);
        drops =
            let n : l.puts ≡ suc (state_in g k).puts = omega (arith, puts, h.puts) in
            let m : l.chains ≤ suc (state_in g k).chains = omega (arith, chains, h.chains) in
            omega (arith, ap (λ r. r.drops) s, left, allowed_more l.puts (suc (state_in g k).puts) l.chains (suc (state_in g k).chains) n m);
        held = λ id c x. ap (λ r. r.held id.pos) s ∙ more_held g w v variables (state_in g k).held at clause hints chain others h.held id c x;
        complete = λ id c x y. more_complete g w v variables (state_in g k).held at clause hints chain others h.complete (inl here) id c (sym (ap (λ r. r.held id.pos) s) ∙ x) y;
        stored = λ p x e. more_stored g w v variables (state_in g k).held at clause hints chain others (held_kept v (record { pos = at; part = 0 }) clause here) h.stored p (sym (ap (λ r. r.held p) s) ∙ x) e;
        lined = lined_still (Put at) e;
        start = omega (arith, same, h.start);
        begun = omega (arith, same, h.begun);
        later = λ p c. ⊎_elim (λ old. omega (arith, same, h.later p old)) (λ q. let r : at ≡ p = cc in omega (arith, r, start, same)) (Contains-push_cases k.lines.items (Put at) (Put p) (subst (λ ls. Contains ls (Put p)) e c));
        first = subst (λ ls. AreEqualitiesFirst g.log g.from ls) (sym e) (first_put g.log g.from k.lines.items at equalities h.first);
      }

  pub kept_take : l.lines.items ≡ k.lines.items ++ Take at ∷ [] → l.puts ≡ k.puts → l.chains ≡ k.chains → l.left ≡ 0 → at ≤ length g.log → clause_of v (record { pos = at; part = 0 }) ≡ Some clause → (held_of v (record { pos = at; part = 0 }) ≡ Some clause) ⊎ IsForeign variables clause → IsKept g v variables l seen
  kept_take e puts chains left within kept here =
      let s = after (Take at) e in
      record {
        stand = stands (Take at) e within;
        puts = ap (λ r. r.puts) s ∙ h.puts ∙ sym puts;
        chains = omega (arith, ap (λ r. r.chains) s, chains, h.chains);
        drops = omega (arith, left);
        held = λ id c x. ap (λ r. r.held id.pos) s ∙ more_held g w v variables (state_in g k).held at clause hints chain others h.held id c x;
        complete = λ id c x y. more_complete g w v variables (state_in g k).held at clause hints chain others h.complete here id c (sym (ap (λ r. r.held id.pos) s) ∙ x) y;
        stored = λ p x e. more_stored g w v variables (state_in g k).held at clause hints chain others kept h.stored p (sym (ap (λ r. r.held p) s) ∙ x) e;
        lined = lined_still (Take at) e;
        start = omega (arith, same, h.start);
        begun = omega (arith, same, h.begun);
        later = λ p c. ⊎_elim (λ old. omega (arith, same, h.later p old)) (λ q. let f : ⊥ = cc in absurd f) (Contains-push_cases k.lines.items (Take at) (Put p) (subst (λ ls. Contains ls (Put p)) e c));
        first = subst (λ ls. AreEqualitiesFirst g.log g.from ls) (sym e) (first_take g.log g.from k.lines.items at h.first);
      }

  pub kept_drop : l.lines.items ≡ k.lines.items ++ Drop at ∷ [] → l.puts ≡ k.puts → l.chains ≡ k.chains - 1 → l.left ≡ k.left - 1 → 0 < k.left → ((id : ClauseId) (c : List Literal) → clause_of w id ≡ Some c → look_of g id ≡ Some c) → (c : List Literal) → clause_of w (record { pos = at; part = 0 }) ≡ Some c → clause_of v (record { pos = at; part = 0 }) ≡ None → IsKept g v variables l seen
  kept_drop e puts chains left some sound c was none =
      let s = after (Drop at) e in
      record {
        stand = stands (Drop at) e (h.held (record { pos = at; part = 0 }) c was, ap is_chain chain, omega (arith, some, h.drops));
        puts = ap (λ r. r.puts) s ∙ h.puts ∙ sym puts;
        chains = omega (arith, ap (λ r. r.chains) s, chains, h.chains);
        drops = omega (arith, ap (λ r. r.drops) s, left, h.drops);
        held = λ id d x. ap (λ r. r.held id.pos) s ∙ less_held g w v variables (state_in g k).held at clause hints chain others sound none h.held id d x;
        complete = λ id d x y. less_complete g w v variables (state_in g k).held at clause hints chain others h.complete id d (sym (ap (λ r. r.held id.pos) s) ∙ x) y;
        stored = λ p x y. less_stored g w v variables (state_in g k).held at clause hints chain others h.stored p (sym (ap (λ r. r.held p) s) ∙ x) y;
        lined = lined_still (Drop at) e;
        start = omega (arith, same, h.start);
        begun = omega (arith, same, h.begun);
        later = λ p x. ⊎_elim (λ old. omega (arith, same, h.later p old)) (λ q. let f : ⊥ = cc in absurd f) (Contains-push_cases k.lines.items (Drop at) (Put p) (subst (λ ls. Contains ls (Put p)) e x));
        first = subst (λ ls. AreEqualitiesFirst g.log g.from ls) (sym e) (first_drop g.log g.from k.lines.items at h.first);
      }

-- ---- hints that are used

pub each_used : (look more : Lookup) → ((id : ClauseId) (c : List Literal) → look id ≡ Some c → more id ≡ Some c) → (trues : List Literal) (hints : List ClauseId) → learnt.UsesEach look trues hints → EachIsUsed more trues hints
each_used look more f trues [] u = tt
each_used look more f trues (i ∷ []) u = tt
each_used look more f trues (i ∷ j ∷ is) u =
    let s = u.1.1.1.1.0 in
    (u.0, u.1.0, f i u.0 u.1.1.0, u.1.1.1.0, (s.0, s.1.0, s.1.1.0, f s.0 s.1.0 s.1.1.1.0, s.1.1.1.1), each_used look more f (trues ++ u.1.0 ∷ []) (j ∷ is) u.1.1.1.1.1)

-- ---- what is held has a line, or was held without one

line_later : (l : DiaryLine) (ls : List DiaryLine) (p : ℕ) → HasLine ls p → HasLine (l ∷ ls) p
line_later l ls p h = ⊎_elim (λ k. inl (Contains-later l (Take p) ls k)) (λ k. inr (Contains-later l (Put p) ls k)) h

pub lined_held : (g : Subject) (s : DiaryState) (ls : List DiaryLine) (p : ℕ) → (lines_after g s ls).held p ≡ true → (s.held p ≡ true) ⊎ HasLine ls p
lined_held g s [] p h = inl h
lined_held g s (Take q ∷ ls) p h = ⊎_elim
    (λ k. ⊎_elim (λ e. inr (inl (subst (λ x. Contains (Take q ∷ ls) (Take x)) (sym e) (Contains-first (Take q) ls)))) (λ old. inl old) (held_cases s.held q true p k))
    (λ k. inr (line_later (Take q) ls p k))
    (lined_held g (line_after g s (Take q)) ls p h)
lined_held g s (Put q ∷ ls) p h = ⊎_elim
    (λ k. ⊎_elim (λ e. inr (inr (subst (λ x. Contains (Put q ∷ ls) (Put x)) (sym e) (Contains-first (Put q) ls)))) (λ old. inl old) (held_cases s.held q true p k))
    (λ k. inr (line_later (Put q) ls p k))
    (lined_held g (line_after g s (Put q)) ls p h)
lined_held g s (Drop q ∷ ls) p h = ⊎_elim
    (λ k. inl (dropped_cases s.held q p k).1)
    (λ k. inr (line_later (Drop q) ls p k))
    (lined_held g (line_after g s (Drop q)) ls p h)

-- a chain that is kept has a line
pub own_line : (g : Subject) (w : Watches) (variables : List ℕ) (k : Keeper) (seen at : ℕ) (c : List Literal) → IsKept g w variables k seen → is_chain (entry_at g.log at) ≡ true → clause_of w (record { pos = at; part = 0 }) ≡ Some c → HasLine k.lines.items at
own_line g w variables k seen at c h chain e = ⊎_elim
    (λ b. absurd (both_ways (is_chain (entry_at g.log at)) (not_false (is_chain (entry_at g.log at)) (and_parts (ltb at g.from) (not (is_chain (entry_at g.log at))) b).1) chain))
    (λ l. l)
    (lined_held g (blank g) k.lines.items at (h.held (record { pos = at; part = 0 }) c e))
  where
    not_false : (b : Bool) → not b ≡ true → b ≡ false
    not_false false q = refl
    not_false true q = let f : ⊥ = cc in absurd f
