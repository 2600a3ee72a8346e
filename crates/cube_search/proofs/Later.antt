-- A search over a log that grew.
use Rattle.std.proofs.Common.{◌≡◌, ℕ, suc, ◌<◌, ◌≤◌, true, List, [], ◌∷◌, ◌++◌, length, Option, Some, None, refl, sym, ap, ◌∙◌, subst, inl, inr, ⊎_elim, arith}
use Rattle.std.specs.Prelude.{Contains}
use Rattle.cnf_base.specs.Literals.{Literal, negated}
use Rattle.cnf_base.specs.Assignments.{AreBelow}
use Rattle.cnf_base.specs.declared.clause.ClauseId.{ClauseId}
use Rattle.cnf_base.proofs.Agreeing.{AreBelow-more}
use Rattle.cnf_base.proofs.Lists.{Contains-first, Contains-later}
use Rattle.hint_chain.specs.Chains.{IsChain}
use Rattle.hint_chain.proofs.Growing.{IsChain-grows}
use Rattle.smt_terms.specs.declared.node.Node.{Node}
use Rattle.proof_log.specs.declared.entry.Entry.{Entry}
use Rattle.proof_log.specs.declared.entry.Entry.TheVariants as step
use Rattle.proof_log.specs.Logs.{clause_at, entry_at, state_of, IsStep, IsLog}
use Rattle.proof_log.specs.Boards.{IsLater, IsPutAt}
use Rattle.proof_log.specs.Diaries.{Subject, look_of, is_chain, blank}
use Rattle.proof_log.proofs.Growth.{clause_place, entry_within, clauses_exist, put_is_new}
use Rattle.proof_log.proofs.Lines.{blank_within, lines_within}
use Rattle.proof_log.proofs.Growing.{below_member}
use Rattle.cdcl_core.specs.declared.watches.Watches.{Watches}
use Rattle.cdcl_core.specs.Search.{clause_of, held_of}
use Rattle.cdcl_learn.specs.Puts.{StandsIn, IsAgainst}
use Rattle.cube_search.specs.Holding.{AreAmong, IsTold}
use Rattle.cube_search.specs.Keeping.{AreEqualitiesFirst, IsKept}
use Rattle.cube_search.specs.declared.keeper.Keeper.{Keeper}
use Rattle.cube_search.specs.Running.{IsSearchOf}
use Rattle.cube_search.proofs.FirstTaken.{put_within, first_longer}
use Rattle.cube_search.proofs.Longer.{IsExtended, log_longer, entry_longer, longer_holds, clause_longer, diary_longer}
use Rattle.cube_search.proofs.Told.{told_agrees}

-- ---- chains

pub chain_entry : (o : Option Entry) → is_chain o ≡ true → (c : List Literal) × (hints : List ClauseId) × (o ≡ Some (step.Chain c hints))
chain_entry (Some (step.Chain c hints)) e = (c, hints, refl)
chain_entry _ e = let f : ⊥ = cc in absurd f

pub chain_within : (log : List Entry) (p : ℕ) → is_chain (entry_at log p) ≡ true → p ≤ length log
chain_within log p e = let k = chain_entry (entry_at log p) e in entry_within log p (step.Chain k.0 k.1) k.2

-- ---- what is held

-- over a log that steps of any kind were added to
pub longer_search : (w : Watches) (variables opening taken : List ℕ) (from seen : ℕ) (nodes : List Node) (log log' extra : List Entry) → log' ≡ log ++ extra → IsLog nodes log' → IsSearchOf w variables opening taken from seen nodes log → IsSearchOf w variables opening taken from seen nodes log'
longer_search w variables opening taken from seen nodes log log' extra is stands h =
    let more = longer_holds nodes log log' extra is stands in
    let longer = log_longer log log' extra is in
    let kept_entry : (id : ClauseId) (c : List Literal) → clause_of w id ≡ Some c → entry_at log' id.pos ≡ entry_at log id.pos = λ id c e. entry_longer log log' extra is id.pos (clause_place nodes log id c (h.holding.sound id c e)) in
    record {
      holding = record {
        sound = λ id c e. more.clauses id c (h.holding.sound id c e);
        among = h.holding.among;
        covered = h.holding.covered;
        complete = λ id c k e. h.holding.complete id c k (sym (clause_longer nodes log log' extra is id (let lt = h.placed.before id.pos k in omega (arith, lt))) ∙ e);
        waiting = h.holding.waiting;
        occurs = λ x k. let o = h.holding.occurs x k in (o.0, o.1, o.2, o.3, more.clauses o.0 o.1 o.4, o.5, o.6);
      };
      placed = record {
        before = λ p k. let lt = h.placed.before p k in omega (arith, lt, longer);
        plain = λ p k. ap is_chain (entry_longer log log' extra is p (let lt = h.placed.before p k in omega (arith, lt))) ∙ h.placed.plain p k;
        chains = λ p k. let q = h.placed.chains p k in ap is_chain (entry_longer log log' extra is p (chain_within log p q)) ∙ q;
        stored = λ id c e. ⊎_elim (λ x. inl (ap is_chain (kept_entry id c e) ∙ x)) (λ x. inr x) (h.placed.stored id c e);
        below = λ id c e x. h.placed.below id c e (sym (ap is_chain (kept_entry id c e)) ∙ x);
        from_seen = h.placed.from_seen;
        within = omega (arith, h.placed.within, longer);
      };
      listed = h.listed;
      stands = stands;
    }

pub search_later : (w : Watches) (variables opening taken : List ℕ) (from seen : ℕ) (nodes nodes' : List Node) (log log' : List Entry) (known known' : ℕ → Type 0) → IsLater nodes nodes' log log' known known' → IsSearchOf w variables opening taken from seen nodes log → IsSearchOf w variables opening taken from seen nodes' log'
search_later w variables opening taken from seen nodes nodes' log log' known known' l h =
    subst (λ n. IsSearchOf w variables opening taken from seen n log') (sym l.nodes)
    (longer_search w variables opening taken from seen nodes log log' l.grows.more l.grows.is (subst (λ n. IsLog n log') l.nodes l.stands) h)

-- the variables that were listed are those of the same positions
pub longer_told : (variables opening ends : List ℕ) (nodes : List Node) (log log' extra : List Entry) → log' ≡ log ++ extra → IsLog nodes log' → ((p : ℕ) → Contains opening p → p ≤ length log) → IsTold (state_of nodes log).clauses variables opening ends → IsTold (state_of nodes log').clauses variables opening ends
longer_told variables opening ends nodes log log' extra is stands within h =
    told_agrees (state_of nodes log).clauses variables opening ends h (state_of nodes log').clauses
    (longer_holds nodes log log' extra is stands).clauses
    (λ id k. clause_longer nodes log log' extra is id (within id.pos k))

pub told_later : (variables opening ends : List ℕ) (nodes nodes' : List Node) (log log' : List Entry) (known known' : ℕ → Type 0) → IsLater nodes nodes' log log' known known' → ((p : ℕ) → Contains opening p → p ≤ length log) → IsTold (state_of nodes log).clauses variables opening ends → IsTold (state_of nodes' log').clauses variables opening ends
told_later variables opening ends nodes nodes' log log' known known' l within h =
    subst (λ n. IsTold (state_of n log').clauses variables opening ends) (sym l.nodes)
    (longer_told variables opening ends nodes log log' l.grows.more l.grows.is (subst (λ n. IsLog n log') l.nodes l.stands) within h)

-- the next variable does not fall
pub longer_below : (nodes : List Node) (log log' extra : List Entry) (given : List Literal) → log' ≡ log ++ extra → IsLog nodes log' → AreBelow (state_of nodes log).next given → AreBelow (state_of nodes log').next given
longer_below nodes log log' extra given is stands h = AreBelow-more (state_of nodes log).next (state_of nodes log').next (longer_holds nodes log log' extra is stands).next given h

pub below_later : (nodes nodes' : List Node) (log log' : List Entry) (known known' : ℕ → Type 0) (given : List Literal) → IsLater nodes nodes' log log' known known' → AreBelow (state_of nodes log).next given → AreBelow (state_of nodes' log').next given
below_later nodes nodes' log log' known known' given l h =
    subst (λ n. AreBelow (state_of n log').next given) (sym l.nodes) (longer_below nodes log log' l.grows.more given l.grows.is (subst (λ n. IsLog n log') l.nodes l.stands) h)

-- ---- the diary

kept_extended : (g g' : Subject) (w : Watches) (variables : List ℕ) (k : Keeper) (seen : ℕ) → IsExtended g g' → g.from ≤ suc (length g.log) → seen ≤ suc (length g.log) → ((i : ClauseId) → i.pos ≤ length g.log → look_of g' i ≡ look_of g i) → IsKept g w variables k seen → IsKept g' w variables k seen
kept_extended g g' w variables k seen p from within same h =
    let d = diary_longer g g' p from k.lines.items h.stand in
    let inside = lines_within g (blank g) k.lines.items h.stand (blank_within g from) in
    record {
      stand = d.0;
      puts = ap (λ s. s.puts) d.1 ∙ h.puts;
      chains = omega (arith, h.chains, ap (λ s. s.chains) d.1);
      drops = omega (arith, h.drops, ap (λ s. s.drops) d.1);
      held = λ id c e. ap (λ s. s.held id.pos) d.1 ∙ h.held id c e;
      complete = λ id c held e.
          let old = sym (ap (λ s. s.held id.pos) d.1) ∙ held in
          h.complete id c old (sym (same id (inside id.pos old)) ∙ e);
      stored = λ q held e.
          let old = sym (ap (λ s. s.held q) d.1) ∙ held in
          h.stored q old (sym (ap is_chain (entry_longer g.log g'.log p.more p.is q (inside q old))) ∙ e);
      lined = λ q le lt e. h.lined q le lt (sym (ap is_chain (entry_longer g.log g'.log p.more p.is q (omega (arith, lt, within)))) ∙ e);
      start = omega (arith, h.start, p.from);
      begun = h.begun;
      later = h.later;
      first = subst (λ from. AreEqualitiesFirst g'.log from k.lines.items) (sym p.from)
          (first_longer g.log g'.log g.from k.lines.items (put_within g (blank g) k.lines.items h.stand) (entry_longer g.log g'.log p.more p.is) h.first);
    }

pub longer_kept : (nodes : List Node) (log log' extra : List Entry) (given : List Literal) (from seen : ℕ) (w : Watches) (variables : List ℕ) (k : Keeper) → log' ≡ log ++ extra → from ≤ suc (length log) → seen ≤ suc (length log) → IsKept (record { nodes = nodes; log = log; given = given; from = from }) w variables k seen → IsKept (record { nodes = nodes; log = log'; given = given; from = from }) w variables k seen
longer_kept nodes log log' extra given from seen w variables k is low within h =
    kept_extended (record { nodes = nodes; log = log; given = given; from = from }) (record { nodes = nodes; log = log'; given = given; from = from }) w variables k seen
    (record { nodes = refl; given = refl; from = refl; more = extra; is = is }) low within (λ i le. clause_longer nodes log log' extra is i le) h

pub kept_later : (nodes nodes' : List Node) (log log' : List Entry) (known known' : ℕ → Type 0) (given : List Literal) (from seen : ℕ) (w : Watches) (variables : List ℕ) (k : Keeper) → IsLater nodes nodes' log log' known known' → from ≤ suc (length log) → seen ≤ suc (length log) → IsKept (record { nodes = nodes; log = log; given = given; from = from }) w variables k seen → IsKept (record { nodes = nodes'; log = log'; given = given; from = from }) w variables k seen
kept_later nodes nodes' log log' known known' given from seen w variables k l low within h =
    subst (λ n. IsKept (record { nodes = n; log = log'; given = given; from = from }) w variables k seen) (sym l.nodes)
    (longer_kept nodes log log' l.grows.more given from seen w variables k l.grows.is low within h)

-- ---- chains that may be put

below_each : (n : ℕ) (c : List Literal) → ((l : Literal) → Contains c l → l.variable < n) → AreBelow n c
below_each n [] f = tt
below_each n (l ∷ c) f = (f l (Contains-first l c), below_each n c (λ m k. f m (Contains-later l m c k)))

-- opposites of given literals
against_below : (n : ℕ) (given clause : List Literal) → AreBelow n given → IsAgainst given clause → AreBelow n clause
against_below n given clause h against = below_each n clause (λ l k. below_member n given (negated l) h (against l k))

module _ (w : Watches) (variables opening taken : List ℕ) (from seen : ℕ) (nodes : List Node) (log : List Entry) (h : IsSearchOf w variables opening taken from seen nodes log) where
  -- a chain over clauses that are kept is one over those of the log
  kept_chain : (c : List Literal) (hints : List ClauseId) → IsChain (clause_of w) c hints → IsChain (clause_at (state_of nodes log).clauses) c hints
  kept_chain c hints k = IsChain-grows (clause_of w) (clause_at (state_of nodes log).clauses) h.holding.sound c hints k

  pub closing_step : (given c : List Literal) (hints : List ClauseId) → AreBelow (state_of nodes log).next given → IsAgainst given c → IsChain (clause_of w) c hints → IsStep nodes (state_of nodes log) (step.Chain c hints)
  closing_step given c hints below against k = (against_below (state_of nodes log).next given c below against, kept_chain c hints k)

  -- the literals of a learnt clause are those of its hints
  pub learnt_step : (c : List Literal) (hints : List ClauseId) → ((l : Literal) → Contains c l → StandsIn (clause_of w) hints l) → IsChain (clause_of w) c hints → IsStep nodes (state_of nodes log) (step.Chain c hints)
  learnt_step c hints stands k = (below_each (state_of nodes log).next c below, kept_chain c hints k)
    where
      below : (l : Literal) → Contains c l → l.variable < (state_of nodes log).next
      below l m =
          let s = stands l m in
          below_member (state_of nodes log).next s.1.0 l (clauses_exist nodes log h.listed h.stands s.0 s.1.0 (h.holding.sound s.0 s.1.0 s.1.1.1.0)) s.1.1.1.1

  -- and its variables those of hints that are held
  pub learnt_among : (c : List Literal) (hints : List ClauseId) → ((l : Literal) → Contains c l → StandsIn (held_of w) hints l) → AreAmong variables c
  learnt_among c hints stands l k = let s = stands l k in h.holding.among s.0 s.1.0 s.1.1.1.0 l s.1.1.1.1

  -- the position of a put is that of no kept clause
  pub put_is_fresh : (new : List Entry) (e : Entry) (at : ℕ) → IsPutAt log e at new → clause_of w (record { pos = at; part = 0 }) ≡ None
  put_is_fresh new e at p = go (clause_of w (record { pos = at; part = 0 })) refl
    where
      go : (o : Option (List Literal)) → clause_of w (record { pos = at; part = 0 }) ≡ o → o ≡ None
      go None q = refl
      go (Some c) q =
          let le = clause_place nodes log (record { pos = at; part = 0 }) c (h.holding.sound (record { pos = at; part = 0 }) c q) in
          absurd (omega (arith, le, put_is_new log new e at p))
