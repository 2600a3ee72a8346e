-- The lines that a run begins with.
use Rattle.std.proofs.Common.{◌≡◌, ℕ, ◌+◌, ◌<◌, ◌≤◌, Bool, true, false, not, List, [], ◌∷◌, ◌++◌, length, Some, None, refl, sym, ap, ◌∙◌, subst, inl, inr, ⊎_elim, arith, take, get_or}
use Rattle.std.specs.Prelude.{◌&&◌, ◌⊎◌, Contains, ltb}
use Rattle.std.proofs.lemmas.Bool.{cases_lt, lt-ltb, ltb-true, and_parts, both_ways}
use Rattle.std.proofs.lemmas.List.Elements.{Contains-push_cases, Contains-get_or}
use Rattle.cnf_base.specs.Literals.{Literal}
use Rattle.cnf_base.specs.declared.clause.ClauseId.{ClauseId}
use Rattle.cnf_base.proofs.Lists.{Contains-nil}
use Rattle.smt_terms.specs.declared.node.Node.{Node}
use Rattle.proof_log.specs.declared.entry.Entry.{Entry}
use Rattle.proof_log.specs.declared.diary.DiaryLine.{DiaryLine}
use Rattle.proof_log.specs.declared.diary.DiaryLine.TheVariants.{Take, Put}
use Rattle.proof_log.specs.Logs.{entry_at, state_of}
use Rattle.proof_log.specs.Diaries.{Subject, look_of, is_chain, DiaryState, blank, line_after, AreLines, lines_after}
use Rattle.proof_log.proofs.Growth.{chain_part}
use Rattle.proof_log.proofs.Lines.{are_lines_snoc, lines_after_snoc, held_cases}
use Rattle.cdcl_learn.proofs.Lists.{front_cases}
use Rattle.cdcl_core.specs.declared.watches.Watches.{Watches}
use Rattle.cdcl_core.specs.Search.{clause_of, held_of}
use Rattle.cube_search.specs.Holding.{IsForeign, AreSeparate, IsHolding, ArePlaced}
use Rattle.cube_search.specs.Keeping.{IsKept, IsTaken, IsNoting, IsNotedAll, state_in}
use Rattle.cube_search.specs.declared.keeper.Keeper.{Keeper}
use Rattle.cube_search.proofs.FirstTaken.{first_none}
use Rattle.cube_search.proofs.Keeping.{held_here, held_still}
use Rattle.cube_search.proofs.Later.{chain_entry, chain_within}

-- no chain is held at the start
pub blank_no_chain : (g : Subject) (p : ℕ) → (blank g).held p ≡ true → is_chain (entry_at g.log p) ≡ true → ⊥
blank_no_chain g p held chained = both_ways (is_chain (entry_at g.log p)) (not_false (is_chain (entry_at g.log p)) (and_parts (ltb p g.from) (not (is_chain (entry_at g.log p))) held).1) chained
  where
    not_false : (b : Bool) → not b ≡ true → b ≡ false
    not_false false q = refl
    not_false true q = let f : ⊥ = cc in absurd f

pub noting_start : (g : Subject) (w : Watches) (variables : List ℕ) (k : Keeper) → k.lines.items ≡ [] → k.puts ≡ 0 → k.chains ≡ 0 → k.left ≡ 0 → IsNoting g w variables k
noting_start g w variables k e puts chains left =
    let s : lines_after g (blank g) k.lines.items ≡ blank g = ap (lines_after g (blank g)) e in
    record {
      stand = subst (AreLines g (blank g)) (sym e) tt;
      no_puts = ap (λ (r : DiaryState). r.puts) s;
      puts = puts;
      chains = chains;
      left = left;
      grown = λ p h. ap (λ (r : DiaryState). r.held p) s ∙ h;
      only = λ p h. inl (sym (ap (λ (r : DiaryState). r.held p) s) ∙ h);
      takes = λ p c. Contains-nil (Put p) (subst (λ (ls : List DiaryLine). Contains ls (Put p)) e c);
      stored = λ p h chained. absurd (blank_no_chain g p (sym (ap (λ (r : DiaryState). r.held p) s) ∙ h) chained);
    }

module _ (g : Subject) (w : Watches) (variables : List ℕ) (k l : Keeper) (at : ℕ) (h : IsNoting g w variables k) (e : l.lines.items ≡ k.lines.items ++ Take at ∷ []) where
  after : state_in g l ≡ line_after g (state_in g k) (Take at)
  after = ap (λ (ls : List DiaryLine). lines_after g (blank g) ls) e ∙ lines_after_snoc g (blank g) k.lines.items (Take at)

  pub noted_here : (state_in g l).held at ≡ true
  noted_here = ap (λ (r : DiaryState). r.held at) after ∙ held_here (state_in g k).held at

  pub noted_still : (p : ℕ) → (state_in g k).held p ≡ true → (state_in g l).held p ≡ true
  noted_still p x = ap (λ (r : DiaryState). r.held p) after ∙ held_still (state_in g k).held at p x

  pub noting_take : l.puts ≡ k.puts → l.chains ≡ k.chains → l.left ≡ 0 → at ≤ length g.log → ((id : ClauseId) (c : List Literal) → id.pos ≡ at → look_of g id ≡ Some c → (held_of w id ≡ Some c) ⊎ IsForeign variables c) → (is_chain (entry_at g.log at) ≡ true → (c : List Literal) × (clause_of w (record { pos = at; part = 0 }) ≡ Some c)) → IsNoting g w variables l
  noting_take puts chains left within all stored = record {
    stand = subst (AreLines g (blank g)) (sym e) (are_lines_snoc g (blank g) k.lines.items (Take at) h.stand within);
    no_puts = ap (λ (r : DiaryState). r.puts) after ∙ h.no_puts;
    puts = puts ∙ h.puts;
    chains = chains ∙ h.chains;
    left = left;
    grown = λ p x. noted_still p (h.grown p x);
    only = λ p x. ⊎_elim
        (λ same. inr (λ id c q f. all id c (q ∙ same) f))
        (λ old. h.only p old)
        (held_cases (state_in g k).held at true p (sym (ap (λ (r : DiaryState). r.held p) after) ∙ x));
    takes = λ p c. ⊎_elim (λ old. h.takes p old) (λ q. let f : ⊥ = cc in f) (Contains-push_cases k.lines.items (Take at) (Put p) (subst (λ (ls : List DiaryLine). Contains ls (Put p)) e c));
    stored = λ p x chained. ⊎_elim
        (λ same. subst (λ q. (c : List Literal) × (clause_of w (record { pos = q; part = 0 }) ≡ Some c)) (sym same) (stored (subst (λ q. is_chain (entry_at g.log q) ≡ true) same chained)))
        (λ old. h.stored p old chained)
        (held_cases (state_in g k).held at true p (sym (ap (λ (r : DiaryState). r.held p) after) ∙ x));
  }

-- each clause of a chain that is kept is held, or has another variable
pub kept_whole : (g : Subject) (w : Watches) (variables opening taken : List ℕ) (at : ℕ) (d : List Literal) → IsHolding w (state_of g.nodes g.log).clauses variables opening taken → Contains taken at → is_chain (entry_at g.log at) ≡ true → clause_of w (record { pos = at; part = 0 }) ≡ Some d → (id : ClauseId) (c : List Literal) → id.pos ≡ at → look_of g id ≡ Some c → (held_of w id ≡ Some c) ⊎ IsForeign variables c
kept_whole g w variables opening taken at d holding has chain kept id c p e =
    let k = chain_entry (entry_at g.log at) chain in
    let part = chain_part g.nodes g.log id (k.0) c (k.1) (ap (entry_at g.log) p ∙ k.2) e in
    let same : id ≡ record { pos = at; part = 0 } = λ i. record { pos = p i; part = part.0 i } in
    let there = holding.sound (record { pos = at; part = 0 }) d kept in
    let equal : Some d ≡ Some c = sym there ∙ ap (look_of g) (sym same) ∙ e in
    holding.waiting id c (subst (Contains taken) (sym p) has) (ap (clause_of w) same ∙ kept ∙ equal)

pub begun : (g : Subject) (w : Watches) (variables opening taken : List ℕ) (k : Keeper) (seen : ℕ) → IsHolding w (state_of g.nodes g.log).clauses variables opening taken → ArePlaced (clause_of w) g.log opening taken g.from seen → IsNoting g w variables k → k.start ≡ seen → ((id : ClauseId) (c : List Literal) → Contains taken id.pos → clause_of w id ≡ Some c → (state_in g k).held id.pos ≡ true) → ((p : ℕ) → Contains opening p → g.from ≤ p → (state_in g k).held p ≡ true) → AreSeparate (state_of g.nodes g.log).clauses g.log opening g.from → IsKept g w variables k seen
begun g w variables opening taken k seen holding placed h start taken_held opening_held separate = record {
  stand = h.stand;
  puts = h.no_puts ∙ sym h.puts;
  chains = omega (arith, h.chains);
  drops = omega (arith, h.left);
  held = λ id c e. ⊎_elim
      (λ plain. ⊎_elim
      (λ lt. h.grown id.pos (blank_held id.pos lt plain))
      (λ x. ⊎_elim (λ lt. h.grown id.pos (blank_held id.pos lt plain)) (λ ge. opening_held id.pos x ge) (cases_lt id.pos g.from))
      (placed.below id c e plain))
      (λ x. taken_held id c x e)
      (placed.stored id c e);
  complete = λ id c x e. ⊎_elim (λ b. before id c b e) (λ all. all id c refl e) (h.only id.pos x);
  stored = h.stored;
  lined = λ p le lt c. absurd (omega (arith, le, lt, start));
  start = omega (arith, start, placed.from_seen);
  begun = omega (arith, start);
  later = λ p c. absurd (h.takes p c);
  first = first_none g.log g.from k.lines.items h.takes;
}
  where
    blank_held : (p : ℕ) → p < g.from → is_chain (entry_at g.log p) ≡ false → (blank g).held p ≡ true
    blank_held p lt plain = ap (λ b. ltb p g.from && not b) plain ∙ ap (λ b. b && true) (lt-ltb p g.from lt)

    plain_of : (b : Bool) → not b ≡ true → b ≡ false
    plain_of false e = refl
    plain_of true e = let f : ⊥ = cc in absurd f

    before : (id : ClauseId) (c : List Literal) → (blank g).held id.pos ≡ true → look_of g id ≡ Some c → (held_of w id ≡ Some c) ⊎ IsForeign variables c
    before id c b e =
        let parts = and_parts (ltb id.pos g.from) (not (is_chain (entry_at g.log id.pos))) b in
        ⊎_elim
        (λ x. inl (holding.complete id c x e))
        (λ x. inr (x.0, x.1, (λ v. x.2 (holding.occurs x.0.variable v))))
        (separate id c (ltb-true id.pos g.from parts.0) (plain_of (is_chain (entry_at g.log id.pos)) parts.1) e)

-- ---- position after position

noted_same : (g : Subject) (w : Watches) (variables : List ℕ) (old k l : Keeper) → l ≡ k → IsNotedAll g w variables old k → IsNotedAll g w variables old l
noted_same g w variables old k l e h = subst (IsNotedAll g w variables old) (sym e) h

noted_more : (g : Subject) (w : Watches) (variables : List ℕ) (old k l : Keeper) (at : ℕ) → IsTaken k l at → at ≤ length g.log → ((id : ClauseId) (c : List Literal) → id.pos ≡ at → look_of g id ≡ Some c → (held_of w id ≡ Some c) ⊎ IsForeign variables c) → (is_chain (entry_at g.log at) ≡ true → (c : List Literal) × (clause_of w (record { pos = at; part = 0 }) ≡ Some c)) → IsNotedAll g w variables old k → IsNotedAll g w variables old l
noted_more g w variables old k l at t le all stored h = record {
  noting = noting_take g w variables k l at h.noting t.lines t.puts t.chains t.left le all stored;
  kept = λ p x. noted_still g w variables k l at h.noting t.lines p (h.kept p x);
  start = t.start ∙ h.start;
}

pub noted_none : (g : Subject) (w : Watches) (variables : List ℕ) (k : Keeper) → IsNoting g w variables k → IsNotedAll g w variables k k
noted_none g w variables k h = record { noting = h; kept = λ p x. x; start = refl }

module _ (nodes : List Node) (log : List Entry) (given : List Literal) (from : ℕ) (w : Watches) (opening taken variables : List ℕ) (seen : ℕ) (holding : IsHolding w (state_of nodes log).clauses variables opening taken) (placed : ArePlaced (clause_of w) log opening taken from seen) (old k l : Keeper) (i : ℕ) (lt : i < length taken) (at : ℕ) (is : at ≡ get_or taken i at)
    (h : IsNotedAll (record { nodes = nodes; log = log; given = given; from = from }) w variables old k)
    (items items' : List ℕ)
    (step : ((clause_of w (record { pos = at; part = 0 }) ≡ None) × (items' ≡ items) × (l ≡ k)) ⊎ ((c : List Literal) × (clause_of w (record { pos = at; part = 0 }) ≡ Some c) × (items' ≡ items ++ at ∷ []) × IsTaken k l at)) where
  abbrev g : Subject
  g = record { nodes = nodes; log = log; given = given; from = from }

  has : Contains taken at
  has = subst (Contains taken) (sym is) (Contains-get_or taken i at lt)

  chained : is_chain (entry_at log at) ≡ true
  chained = placed.chains at has

  pub taken_noted : IsNotedAll (record { nodes = nodes; log = log; given = given; from = from }) w variables old l
  taken_noted = ⊎_elim
      (λ x. noted_same g w variables old k l x.2 h)
      (λ x. noted_more g w variables old k l at x.3 (chain_within log at chained) (kept_whole g w variables opening taken at x.0 holding has chained x.1) (λ e. (x.0, x.1)) h)
      step

  pub taken_held : ((id : ClauseId) (c : List Literal) → Contains (take i taken) id.pos → clause_of w id ≡ Some c → (state_in (record { nodes = nodes; log = log; given = given; from = from }) k).held id.pos ≡ true) → (id : ClauseId) (c : List Literal) → Contains (take (i + 1) taken) id.pos → clause_of w id ≡ Some c → (state_in (record { nodes = nodes; log = log; given = given; from = from }) l).held id.pos ≡ true
  taken_held f id c m e = ⊎_elim
      (λ x. subst (λ (q : Keeper). (state_in g q).held id.pos ≡ true) (sym x.2) (⊎_elim (λ old. f id c old e) (λ q. none_here x.0 (sym q ∙ sym is)) (front_cases taken i at id.pos lt m)))
      (λ x. ⊎_elim
      (λ old. noted_still g w variables k l at h.noting x.3.lines id.pos (f id c old e))
      (λ q. subst (λ n. (state_in g l).held n ≡ true) (is ∙ q) (noted_here g w variables k l at h.noting x.3.lines))
      (front_cases taken i at id.pos lt m))
      step
    where
      none_here : {A : Type 0} → clause_of w (record { pos = at; part = 0 }) ≡ None → id.pos ≡ at → A
      none_here none p =
          let e2 = chain_entry (entry_at log at) chained in
          let part = chain_part nodes log id e2.0 c e2.1 (ap (entry_at log) p ∙ e2.2) (holding.sound id c e) in
          let same : id ≡ record { pos = at; part = 0 } = λ i. record { pos = p i; part = part.0 i } in
          let f : Some c ≡ None = sym e ∙ ap (clause_of w) same ∙ none in
          let z : ⊥ = cc in absurd z

-- ---- opening positions that came while the check was searched

module _ (nodes : List Node) (log : List Entry) (given : List Literal) (from : ℕ) (w : Watches) (opening taken variables : List ℕ) (seen : ℕ) (holding : IsHolding w (state_of nodes log).clauses variables opening taken) (placed : ArePlaced (clause_of w) log opening taken from seen) (old k : Keeper) (ps : List ℕ) (i : ℕ) (lt : i < length ps) (at : ℕ) (is : at ≡ get_or ps i at) (has : Contains opening at)
    (h : IsNotedAll (record { nodes = nodes; log = log; given = given; from = from }) w variables old k)
    (held : (p : ℕ) → Contains (take i ps) p → from ≤ p → (state_in (record { nodes = nodes; log = log; given = given; from = from }) k).held p ≡ true) where
  abbrev about : Subject
  about = record { nodes = nodes; log = log; given = given; from = from }

  -- it is below the start of the search's own
  pub added_passed : at < from → (p : ℕ) → Contains (take (i + 1) ps) p → from ≤ p → (state_in about k).held p ≡ true
  added_passed low p m ge = ⊎_elim (λ a. held p a ge) (λ q. let e : at ≡ p = is ∙ q in absurd (omega (arith, low, ge, e))) (front_cases ps i at p lt m)

  module _ (l : Keeper) (t : IsTaken k l at) where
    pub added_noted : IsNotedAll (record { nodes = nodes; log = log; given = given; from = from }) w variables old l
    added_noted = noted_more about w variables old k l at t (let lt = placed.before at has in omega (arith, lt))
        (λ id c p e. inl (holding.complete id c (subst (Contains opening) (sym p) has) e))
        (λ e. absurd (both_ways (is_chain (entry_at log at)) (placed.plain at has) e)) h

    pub added_held : (p : ℕ) → Contains (take (i + 1) ps) p → from ≤ p → (state_in about l).held p ≡ true
    added_held p m ge = ⊎_elim
        (λ a. noted_still about w variables k l at h.noting t.lines p (held p a ge))
        (λ q. subst (λ n. (state_in about l).held n ≡ true) (is ∙ q) (noted_here about w variables k l at h.noting t.lines))
        (front_cases ps i at p lt m)

  pub added_next : (l : Keeper) → ((at < from) × (l ≡ k)) ⊎ IsTaken k l at → IsNotedAll (record { nodes = nodes; log = log; given = given; from = from }) w variables old l × ((p : ℕ) → Contains (take (i + 1) ps) p → from ≤ p → (state_in (record { nodes = nodes; log = log; given = given; from = from }) l).held p ≡ true)
  added_next l step = ⊎_elim
      (λ x. (noted_same about w variables old k l x.1 h, λ p m ge. subst (λ (q : Keeper). (state_in about q).held p ≡ true) (sym x.1) (added_passed x.0 p m ge)))
      (λ t. (added_noted l t, added_held l t))
      step
