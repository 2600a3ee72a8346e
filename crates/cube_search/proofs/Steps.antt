-- What a call leaves of a search.
use Rattle.std.proofs.Common.{◌≡◌, ℕ, suc, ◌+◌, ◌-◌, ◌<◌, ◌≤◌, Bool, true, false, not, List, [], ◌∷◌, ◌++◌, length, Option, Some, None, Result, Ok, Err, refl, sym, ap, ◌∙◌, subst, inl, inr, ⊎_elim, arith}
use Rattle.std.specs.Prelude.{◌⊎◌, Contains, ltb, IfOk, OnOk, MatchOption}
use Rattle.std.specs.declared.alloc.AllocError.{AllocError}
use Rattle.std.proofs.lemmas.Bool.{ltb-true, and_parts, both_ways}
use Rattle.std.proofs.lemmas.List.{length_push, take_at}
use Rattle.std.proofs.lemmas.List.Elements.{Contains-push, Contains-push_cases}
use Rattle.cnf_base.specs.Literals.{Literal}
use Rattle.cnf_base.specs.Assignments.{AreBelow}
use Rattle.cnf_base.specs.declared.clause.ClauseId.{ClauseId}
use Rattle.smt_terms.specs.declared.node.Node.{Node}
use Rattle.proof_log.specs.declared.board.Sync.{Sync}
use Rattle.proof_log.specs.declared.entry.Entry.{Entry}
use Rattle.proof_log.specs.declared.entry.Entry.TheVariants as step
use Rattle.proof_log.specs.declared.diary.DiaryLine.{DiaryLine}
use Rattle.proof_log.specs.declared.diary.DiaryLine.TheVariants.{Take, Put}
use Rattle.proof_log.specs.Logs.{clause_at, entry_at, state_of}
use Rattle.proof_log.specs.Boards.{Grows, IsLater, IsPutAt, KnowsOneMore}
use Rattle.proof_log.specs.Diaries.{Subject, is_chain, allowed, blank, IsLine, IsSpent}
use Rattle.proof_log.proofs.Growth.{later_same, grown_length, entry_within, entry_stays, chain_clause, chain_part, put_entry, put_clause, put_is_new}
use Rattle.proof_log.proofs.Lines.{spent}
use Rattle.cdcl_core.specs.Levels.{IsTrueBy}
use Rattle.cdcl_core.specs.declared.watches.Watches.{Watches}
use Rattle.cdcl_core.specs.Search.{literals_of, level_of, clause_of, held_of}
use Rattle.cdcl_core.proofs.Held.{held_kept}
use Rattle.cdcl_learn.specs.Puts.{IsAgainst}
use Rattle.cube_search.specs.declared.search.Search.{Search}
use Rattle.proof_log.specs.declared.diary.Diary.{Diary}
use Rattle.cube_search.specs.Holding.{AreAmong, IsForeign, IsTold, IsAdmitted, AreOwnHeld}
use Rattle.cube_search.specs.declared.keeper.Keeper.{Keeper}
use Rattle.cube_search.specs.Keeping.{HasLine, AreEqualitiesFirst, IsKept, IsTaken, state_in}
use Rattle.cube_search.specs.Running.{variables_in, given_in, IsSearch, IsSearchOf, IsRunning, IsWriting, IsReadyToPut, IsUpToDate, IsCaughtUp, HasLooked, IsSameRun, IsLearnt, IsKeptAt, subject_of}
use Rattle.cube_search.specs.Ends.{IsClosing, IsEarlierPut, IsSpentDiary, IsEnd, IsModelEnd}
use Rattle.cube_search.specs.declared.ends.End.{End}
use Rattle.cube_search.specs.declared.ends.End.TheVariants.{Closed, Model, Spent, Stopped}
use Rattle.cdcl_loop.specs.declared.engine.Engine.{Engine}
use Rattle.cdcl_loop.specs.Engines.{IsEngine, IsOnCourse, IsSameStore, IsSameBut, IsSameTask}
use Rattle.cdcl_loop.proofs.Courses.{true_later}
use Rattle.cube_search.proofs.FirstTaken.{put_chain, put_within, first_put, own_grown, equality_clause}
use Rattle.cube_search.proofs.Keeping.{kept_put, kept_take, line_still, lined_held}
use Rattle.cube_search.proofs.Putting.{good_put}
use Rattle.cube_search.proofs.Later.{learnt_among, search_later, told_later, below_later, kept_later, chain_within, chain_entry}
use Rattle.cube_search.proofs.Moving.{search_moved, kept_moved, search_same, search_held, search_stored, kept_same}

pub running_board : (s : Search) (nodes : List Node) (log : List Entry) (known : ℕ → Type 0) → IsRunning s nodes log → IsLater nodes nodes log log known known
running_board s nodes log known h = later_same nodes log known h.1.stands

-- ---- a clause that was put

pub put_closes : (nodes nodes' : List Node) (old new : List Entry) (known known' : ℕ → Type 0) (given c : List Literal) (hints : List ClauseId) (r : Result ℕ AllocError) → IsAgainst given c → IfOk r (λ p. IsPutAt old (step.Chain c hints) p new) → IfOk r (IsClosing (state_of nodes' new).clauses given)
put_closes nodes nodes' old new known known' given c hints (Ok p) against put = (c, put_clause nodes' old new c hints p put, against)
put_closes nodes nodes' old new known known' given c hints (Err e) against put = tt

module _ (s : Search) (nodes nodes' : List Node) (log log' : List Entry) (known known' : ℕ → Type 0) (later : IsLater nodes nodes' log log' known known') where
  pub running_later : IsRunning s nodes log → IsRunning s nodes' log'
  running_later h = (
    h.0,
    search_later s.engine.watches (variables_in s) s.opening.items s.taken.items s.from s.seen nodes nodes' log log' known known' later h.1,
    h.2,
    below_later nodes nodes' log log' known known' (given_in s) later h.3,
  )

  pub writing_later : IsRunning s nodes log → IsWriting s nodes log → IsWriting s nodes' log'
  writing_later h k =
      kept_later nodes nodes' log log' known known' (given_in s) s.from s.seen s.engine.watches (variables_in s) s.diary later
      (omega (arith, h.1.placed.from_seen, h.1.placed.within)) h.1.placed.within k

-- a search that does not run
pub still_search : (s : Search) (nodes nodes' : List Node) (log log' : List Entry) (known known' : ℕ → Type 0) → IsLater nodes nodes' log log' known known' → IsSearch s nodes log → IsSearch s nodes' log'
still_search s nodes nodes' log log' known known' later h = (
  h.0,
  search_later s.engine.watches (variables_in s) s.opening.items s.taken.items s.from s.seen nodes nodes' log log' known known' later h.1,
  told_later (variables_in s) s.opening.items s.ends.items nodes nodes' log log' known known' later (λ p k. let lt = h.1.placed.before p k in omega (arith, lt)) h.2,
)

-- the variables that were listed stay, and are those of the same positions
pub told_still : (s t : Search) (nodes nodes' : List Node) (log log' : List Entry) (known known' : ℕ → Type 0) → IsLater nodes nodes' log log' known known' → t.opening ≡ s.opening → t.ends ≡ s.ends → variables_in t ≡ variables_in s → IsSearch s nodes log → IsTold (state_of nodes' log').clauses (variables_in t) t.opening.items t.ends.items
told_still s t nodes nodes' log log' known known' later opening ends listed h =
    let rows = (state_of nodes' log').clauses in
    let told = (still_search s nodes nodes' log log' known known' later h).2 in
    subst (λ (xs : List ℕ). IsTold rows xs t.opening.items t.ends.items) (sym listed)
    (subst (λ (os : List ℕ). IsTold rows (variables_in s) os t.ends.items) (sym (ap (λ v. v.items) opening))
    (subst (λ (es : List ℕ). IsTold rows (variables_in s) s.opening.items es) (sym (ap (λ v. v.items) ends)) told))

-- ---- the same run

pub same_given : (s t : Search) → IsSameRun s t → given_in t ≡ given_in s
same_given s t h = ap (λ v. v.items) h.given

-- ---- what the board told

-- where it told all that it has seen, it told of each chain that is kept
pub looked_now : (s : Search) (nodes : List Node) (log : List Entry) (told : Sync) → IsCaughtUp told log → IsRunning s nodes log → HasLooked s log told
looked_now s nodes log told e h = record {
  before = omega (arith, e);
  kept = λ p c. let le = chain_within log p (h.1.placed.chains p c) in omega (arith, e, le);
}

-- nothing more was told, and no chain is kept besides
pub looked_still : (s t : Search) (log : List Entry) (told told' : Sync) → told' ≡ told → t.taken ≡ s.taken → HasLooked s log told → HasLooked t log told'
looked_still s t log told told' e f h = record {
  before = subst (λ (u : Sync). length log < u.upto) (sym e) h.before;
  kept = λ p c. subst (λ (u : Sync). p < u.upto) (sym e) (h.kept p (subst (λ (ls : List ℕ). Contains ls p) (ap (λ v. v.items) f) c));
}

-- it told of the shorter log
pub looked_before : (s : Search) (log log' : List Entry) (told : Sync) → Grows log log' → HasLooked s log' told → HasLooked s log told
looked_before s log log' told grows h = record { before = let le = grown_length log log' grows in omega (arith, le, h.before); kept = h.kept }

earlier_put : (ls : List DiaryLine) (l : DiaryLine) (p : ℕ) → IsEarlierPut (ls ++ l ∷ []) p → Contains ls (Put p)
earlier_put ls l p c = subst (λ (ks : List DiaryLine). Contains ks (Put p)) (take_at ls (l ∷ []) (length (ls ++ l ∷ []) - 1) (let n = length_push ls l in omega (arith, n))) c

-- ---- equalities

-- a search of the same positions holds all of its own steps that are no chains' too
pub own_same : (s t : Search) (log : List Entry) → t.opening ≡ s.opening → t.from ≡ s.from → AreOwnHeld log s.opening.items s.from → AreOwnHeld log t.opening.items t.from
own_same s t log opening from h =
    subst (λ (ps : List ℕ). AreOwnHeld log ps t.from) (sym (ap (λ v. v.items) opening))
    (subst (λ (n : ℕ). AreOwnHeld log s.opening.items n) (sym from) h)

-- also where chains were added
pub own_later : (s t : Search) (log log' : List Entry) → IsSameRun s t → Grows log log' → AreOwnHeld log s.opening.items s.from → AreOwnHeld log' t.opening.items t.from
own_later s t log log' run g h = own_same s t log' run.opening run.from (own_grown log log' s.opening.items s.from g h)

-- those among its own steps were taken
pub equality_taken : (s : Search) (nodes : List Node) (log : List Entry) → IsRunning s nodes log → IsWriting s nodes log → AreOwnHeld log s.opening.items s.from → (q t u : ℕ) → s.from ≤ q → q ≤ length log → entry_at log q ≡ Some (step.Equal t u) → Contains s.diary.lines.items (Take q)
equality_taken s nodes log run w own q t u ge le e =
    let g = subject_of s nodes log in
    let plain : is_chain (entry_at log q) ≡ false = ap is_chain e in
    let c = equality_clause nodes log q t u run.1.listed run.1.stands e in
    let held = run.1.holding.complete (record { pos = q; part = 0 }) c.0 (own q ge le plain) c.1 in
    let there = w.held (record { pos = q; part = 0 }) c.0 (held_kept s.engine.watches (record { pos = q; part = 0 }) c.0 held) in
    ⊎_elim
    (λ b. (let lt = ltb-true q s.from (and_parts (ltb q s.from) (not (is_chain (entry_at log q))) b).0 in absurd (omega (arith, lt, ge))))
    (λ l. ⊎_elim (λ k. k) (λ k. absurd (both_ways (is_chain (entry_at log q)) plain (put_chain g (blank g) s.diary.lines.items w.stand q k))) l)
    (lined_held g (blank g) s.diary.lines.items q there)

-- ---- a learnt clause that is kept

module _ (s t : Search) (nodes nodes' : List Node) (log log' : List Entry) (known known' : ℕ → Type 0) (later : IsLater nodes nodes' log log' known known') (clause : List Literal) (level at : ℕ) (run : IsRunning s nodes log) (above : s.engine.base < level_of s.engine.trail) (learnt : IsLearnt s.engine.watches s.engine.trail log log' clause level at) where
  there : entry_at log' at ≡ Some (step.Chain clause learnt.hints)
  there = put_entry log log' (step.Chain clause learnt.hints) at learnt.put

  unseen : s.seen ≤ at
  unseen = omega (arith, put_is_new log log' (step.Chain clause learnt.hints) at learnt.put, run.1.placed.within)

  after : IsRunning s nodes' log'
  after = running_later s nodes nodes' log log' known known' later run

  true_given : (l : Literal) → Contains s.engine.given.items l → IsTrueBy (literals_of s.engine.trail) (level_of s.engine.trail) l
  true_given l c = true_later (literals_of s.engine.trail) s.engine.base (level_of s.engine.trail) l (omega (arith, above)) (run.2.0.all above l c)

  among : AreAmong (variables_in s) clause
  among = learnt_among s.engine.watches (variables_in s) s.opening.items s.taken.items s.from s.seen nodes log run.1 clause learnt.hints learnt.among

  pub learnt_line : IsWriting s nodes log → IsLine (subject_of s nodes' log') (state_in (subject_of s nodes' log') s.diary) (Put at)
  learnt_line w = (
    clause,
    learnt.hints,
    there,
    good_put (subject_of s nodes' log') s.engine.watches (variables_in s) (given_in s) s.diary s.seen (literals_of s.engine.trail) (level_of s.engine.trail) clause learnt.hints
        (writing_later s nodes nodes' log log' known known' later run w) after.1.holding.sound true_given refl among learnt.good,
  )

  pub kept_search : IsSameRun s t → IsKeptAt s t clause level at → IsSearchOf t.engine.watches (variables_in t) t.opening.items t.taken.items t.from t.seen nodes' log'
  kept_search same k =
      search_moved t.engine.watches t.engine.watches (variables_in s) (variables_in t) s.opening.items t.opening.items (s.taken.items ++ at ∷ []) t.taken.items s.from t.from s.seen t.seen nodes' log'
      refl same.listed (ap (λ v. v.items) same.opening) k.taken same.from k.seen
      (search_held s.engine.watches t.engine.watches (variables_in s) s.opening.items s.taken.items s.from s.seen nodes' log' at (ap is_chain there) after.1 k.others clause k.kept
      (put_clause nodes' log log' clause learnt.hints at learnt.put) k.held among)

  pub kept_running : IsSameRun s t → IsKeptAt s t clause level at → IsEngine t.engine → IsOnCourse t.engine → IsRunning t nodes' log'
  kept_running same k engine course = (
    engine,
    kept_search same k,
    course,
    subst (λ (l : List Literal). AreBelow (state_of nodes' log').next l) (sym (same_given s t same)) after.3,
  )

  equalities_taken : IsReadyToPut s nodes log → (q t u : ℕ) → s.from ≤ q → q < at → entry_at log' q ≡ Some (step.Equal t u) → Contains s.diary.lines.items (Take q)
  equalities_taken h q t u ge lt e =
      equality_taken s nodes' log' after (writing_later s nodes nodes' log log' known known' later run h.0)
      (own_grown log log' s.opening.items s.from later.grows h.1) q t u ge
      (entry_within log' q (step.Equal t u) e) e

  pub kept_writing : IsSameRun s t → IsKeptAt s t clause level at → IsReadyToPut s nodes log → IsWriting t nodes' log'
  kept_writing same k h =
      let w = h.0 in
      kept_moved nodes' log' (given_in s) (given_in t) s.from t.from t.engine.watches t.engine.watches (variables_in s) (variables_in t) t.diary s.seen t.seen
      (same_given s t same) same.from refl same.listed k.seen
      (kept_put (subject_of s nodes' log') s.engine.watches t.engine.watches (variables_in s) s.diary t.diary s.seen at clause learnt.hints there k.others k.start
      (writing_later s nodes nodes' log log' known known' later run w) k.lines k.puts k.chains k.left (learnt_line w) (omega (arith, w.begun, unseen)) (equalities_taken h) k.held)

  -- the last put
  pub spent_diary : (d : Diary) (budget : ℕ) (told : Sync) → IsCaughtUp told log → KnowsOneMore known at known' → s.diary.puts ≡ budget → d.start ≡ s.diary.start → d.lines ≡ s.diary.lines.items ++ Put at ∷ [] → IsUpToDate s nodes log known → IsSpentDiary (subject_of s nodes' log') known' told budget d
  spent_diary d budget told all more full start lines h =
      let w = writing_later s nodes nodes' log log' known known' later run h.0.0 in
      record {
        spent = subst (IsSpent (subject_of s nodes' log') budget) (sym lines)
            (spent (subject_of s nodes' log') s.diary.lines.items at budget w.stand (learnt_line h.0.0) (w.puts ∙ full));
        imported = λ p le k c. ⊎_elim
            (λ old. subst (λ (ls : List DiaryLine). HasLine ls p) (sym lines) (line_still s.diary.lines.items (Put at) p (h.1 p (omega (arith, le, start)) old (sym (ap is_chain (entry_stays log log' p later.grows (h.2 p old))) ∙ c))))
            (λ e. subst (λ (ls : List DiaryLine). HasLine ls p) (sym lines) (inr (subst (λ q. Contains (s.diary.lines.items ++ Put at ∷ []) (Put q)) (sym e) (Contains-push s.diary.lines.items (Put at)))))
            (more.1 p k);
        start = omega (arith, start, w.start);
        within = omega (arith, start, w.begun, after.1.placed.within);
        later = λ p c. ⊎_elim
            (λ old. omega (arith, start, w.later p old))
            (λ q. let r : at ≡ p = cc in omega (arith, r, start, w.begun, unseen))
            (Contains-push_cases s.diary.lines.items (Put at) (Put p) (subst (λ (ls : List DiaryLine). Contains ls (Put p)) lines c));
        looked = λ p c.
            let k = earlier_put s.diary.lines.items (Put at) p (subst (λ (ls : List DiaryLine). IsEarlierPut ls p) lines c) in
            let le = put_within (subject_of s nodes log) (blank (subject_of s nodes log)) s.diary.lines.items h.0.0.stand p k in
            omega (arith, all, le);
        first = subst (λ (ls : List DiaryLine). AreEqualitiesFirst log' s.from ls) (sym lines) (first_put log' s.from s.diary.lines.items at (equalities_taken h.0) w.first);
      }

-- ---- calls that end in another

pub on_ok : (r : Result (Unit {0}) AllocError) (X : Type 0) → X → OnOk r X
on_ok (Ok u) X x = x
on_ok (Err e) X x = tt

pub kept_at : (old new : Search) (r : Result (Unit {0}) AllocError) (clause : List Literal) (level at : ℕ) → clause_of new.engine.watches (record { pos = at; part = 0 }) ≡ Some clause → held_of new.engine.watches (record { pos = at; part = 0 }) ≡ Some clause → IsSameBut (record { pos = at; part = 0 }) old.engine.watches new.engine.watches → new.taken.items ≡ old.taken.items ++ at ∷ [] → new.seen ≡ old.seen → new.diary.start ≡ old.diary.start → OnOk r (new.diary.lines.items ≡ old.diary.lines.items ++ Put at ∷ []) → OnOk r (new.diary.puts ≡ old.diary.puts + 1) → OnOk r (new.diary.chains ≡ old.diary.chains + 1) → OnOk r (new.diary.left ≡ allowed new.diary.puts new.diary.chains) → OnOk r (IsKeptAt old new clause level at)
kept_at old new (Ok u) clause level at kept held others taken seen start lines puts chains left = record {
  kept = kept;
  held = held;
  others = others;
  taken = taken;
  seen = seen;
  start = start;
  lines = lines;
  puts = puts;
  chains = chains;
  left = left;
}
kept_at old new (Err e) clause level at kept held others taken seen start lines puts chains left = tt

-- ---- a chain of another that is taken

module _ (s t : Search) (nodes : List Node) (log : List Entry) (at : ℕ) (clause : List Literal) (run : IsRunning s nodes log) (chain : is_chain (entry_at log at) ≡ true) (there : clause_at (state_of nodes log).clauses (record { pos = at; part = 0 }) ≡ Some clause) (came : IsAdmitted s.engine.watches t.engine.watches (variables_in s) at clause) where
  pub taken_search : IsSearchOf t.engine.watches (variables_in s) s.opening.items (s.taken.items ++ at ∷ []) s.from s.seen nodes log
  taken_search = ⊎_elim
      (λ x. search_held s.engine.watches t.engine.watches (variables_in s) s.opening.items s.taken.items s.from s.seen nodes log at chain run.1 came.others clause came.kept there x.0 x.1)
      (λ x. search_stored s.engine.watches t.engine.watches (variables_in s) s.opening.items s.taken.items s.from s.seen nodes log at chain run.1 came.others clause came.kept there x.0 x.1)
      came.came

  pub taken_writing : (l : Keeper) → l.lines.items ≡ s.diary.lines.items ++ Take at ∷ [] → l.start ≡ s.diary.start → l.puts ≡ s.diary.puts → l.chains ≡ s.diary.chains → l.left ≡ 0 → IsWriting s nodes log → IsKept (subject_of s nodes log) t.engine.watches (variables_in s) l s.seen
  taken_writing l lines start puts chains left w =
      let e = chain_entry (entry_at log at) chain in
      let same = (chain_part nodes log (record { pos = at; part = 0 }) e.0 clause e.1 e.2 there).1 in
      kept_take (subject_of s nodes log) s.engine.watches t.engine.watches (variables_in s) s.diary l s.seen at e.0 e.1 e.2 came.others start w lines puts chains left (chain_within log at chain)
      (subst (λ (c : List Literal). clause_of t.engine.watches (record { pos = at; part = 0 }) ≡ Some c) same came.kept)
      (subst (λ (c : List Literal). (held_of t.engine.watches (record { pos = at; part = 0 }) ≡ Some c) ⊎ IsForeign (variables_in s) c) same (⊎_elim (λ x. inl x.0) (λ x. inr x.1) came.came))

-- the position of a chain has its clause
pub no_chain : (nodes : List Node) (log : List Entry) (at : ℕ) → is_chain (entry_at log at) ≡ true → clause_at (state_of nodes log).clauses (record { pos = at; part = 0 }) ≡ None → ⊥
no_chain nodes log at chain none =
    let e = chain_entry (entry_at log at) chain in
    let f : Some (e.0) ≡ None = sym (chain_clause nodes log at e.0 e.1 e.2) ∙ none in
    cc

module _ (s t : Search) (nodes : List Node) (log : List Entry) (at : ℕ) (clause : List Literal) (run : IsRunning s nodes log) (chain : is_chain (entry_at log at) ≡ true) (there : clause_at (state_of nodes log).clauses (record { pos = at; part = 0 }) ≡ Some clause) (opening : t.opening.items ≡ s.opening.items) (taken : t.taken.items ≡ s.taken.items ++ at ∷ []) (from : t.from ≡ s.from) (seen : t.seen ≡ s.seen) (task : IsSameTask s.engine t.engine) where
  took_given : given_in t ≡ given_in s
  took_given = ap (λ v. v.items) task.given

  pub took_running : (r : Result (Unit {0}) AllocError) → OnOk r (IsEngine t.engine) → OnOk r (IsOnCourse s.engine → IsOnCourse t.engine) → OnOk r (IsAdmitted s.engine.watches t.engine.watches (variables_in s) at clause) → OnOk r (IsRunning t nodes log)
  took_running (Err e) engine course came = tt
  took_running (Ok u) engine course came = (
    engine,
    search_moved t.engine.watches t.engine.watches (variables_in s) (variables_in t) s.opening.items t.opening.items (s.taken.items ++ at ∷ []) t.taken.items s.from t.from s.seen t.seen nodes log refl task.listed opening taken from seen
        (taken_search s t nodes log at clause run chain there came),
    course run.2,
    subst (λ (l : List Literal). AreBelow (state_of nodes log).next l) (sym took_given) run.3,
  )

  pub took_writing : (r : Result (Unit {0}) AllocError) → OnOk r (IsAdmitted s.engine.watches t.engine.watches (variables_in s) at clause) → IsTaken s.diary t.diary at → OnOk r (IsWriting s nodes log → IsWriting t nodes log)
  took_writing (Err e) came k = tt
  took_writing (Ok u) came k = λ w.
      kept_moved nodes log (given_in s) (given_in t) s.from t.from t.engine.watches t.engine.watches (variables_in s) (variables_in t) t.diary s.seen t.seen took_given from refl task.listed seen
      (taken_writing s t nodes log at clause run chain there came t.diary k.lines k.start k.puts k.chains k.left w)

pub took_line : (old new : Keeper) (at : ℕ) → IsTaken old new at → HasLine new.lines.items at
took_line old new at k = subst (λ (ls : List DiaryLine). HasLine ls at) (sym k.lines) (inl (Contains-push old.lines.items (Take at)))

pub took_still : (old new : Keeper) (at p : ℕ) → IsTaken old new at → HasLine old.lines.items p → HasLine new.lines.items p
took_still old new at p k h = subst (λ (ls : List DiaryLine). HasLine ls p) (sym k.lines) (line_still old.lines.items (Take at) p h)

-- ---- what was seen

pub search_seen : (w : Watches) (variables opening taken : List ℕ) (from seen n : ℕ) (nodes : List Node) (log : List Entry) → seen ≤ n → n ≤ suc (length log) → IsSearchOf w variables opening taken from seen nodes log → IsSearchOf w variables opening taken from n nodes log
search_seen w variables opening taken from seen n nodes log le within h = record {
  holding = h.holding;
  placed = record { before = h.placed.before; plain = h.placed.plain; chains = h.placed.chains; stored = h.placed.stored; below = h.placed.below; from_seen = omega (arith, h.placed.from_seen, le); within = within };
  listed = h.listed;
  stands = h.stands;
}

pub kept_seen : (g : Subject) (w : Watches) (variables : List ℕ) (k : Keeper) (seen n : ℕ) → seen ≤ n → ((p : ℕ) → k.start ≤ p → p < n → is_chain (entry_at g.log p) ≡ true → HasLine k.lines.items p) → IsKept g w variables k seen → IsKept g w variables k n
kept_seen g w variables k seen n le lined h = record {
  stand = h.stand;
  puts = h.puts;
  chains = h.chains;
  drops = h.drops;
  held = h.held;
  complete = h.complete;
  stored = h.stored;
  lined = lined;
  start = h.start;
  begun = omega (arith, h.begun, le);
  later = h.later;
  first = h.first;
}

pub run_then : (a b c : Search) → IsSameRun a b → IsSameRun b c → IsSameRun a c
run_then a b c h k = record { opening = k.opening ∙ h.opening; ends = k.ends ∙ h.ends; from = k.from ∙ h.from; given = k.given ∙ h.given; listed = k.listed ∙ h.listed }

-- ---- a search whose choices alone changed

module _ (s t u : Search) (e : t ≡ record s { engine = record s.engine { choices = t.engine.choices } }) where
  pub learnt_same : IsSameRun t u → IsSameRun s u
  learnt_same h = record {
    opening = h.opening ∙ ap (λ (x : Search). x.opening) e;
    ends = h.ends ∙ ap (λ (x : Search). x.ends) e;
    from = h.from ∙ ap (λ (x : Search). x.from) e;
    given = h.given ∙ ap (λ (x : Search). x.engine.given) e;
    listed = h.listed ∙ ap (λ (x : Search). x.engine.agenda.list) e;
  }

  pub learnt_kept : (clause : List Literal) (level at : ℕ) → IsKeptAt t u clause level at → IsKeptAt s u clause level at
  learnt_kept clause level at h = record {
    kept = h.kept;
    held = h.held;
    others = record {
      kept = λ q ne. h.others.kept q ne ∙ ap (λ (x : Search). clause_of x.engine.watches q) e;
      held = λ q ne. h.others.held q ne ∙ ap (λ (x : Search). held_of x.engine.watches q) e;
    };
    taken = h.taken ∙ ap (λ (x : Search). x.taken.items ++ at ∷ []) e;
    seen = h.seen ∙ ap (λ (x : Search). x.seen) e;
    start = h.start ∙ ap (λ (x : Search). x.diary.start) e;
    lines = h.lines ∙ ap (λ (x : Search). x.diary.lines.items ++ Put at ∷ []) e;
    puts = h.puts ∙ ap (λ (x : Search). x.diary.puts + 1) e;
    chains = h.chains ∙ ap (λ (x : Search). x.diary.chains + 1) e;
    left = h.left;
  }

  pub learnt_running : (nodes : List Node) (log : List Entry) → IsRunning s nodes log → IsRunning t nodes log
  learnt_running nodes log h = subst (λ (x : Search). IsRunning x nodes log) (sym e) h

-- ---- a search whose engine moved

module _ (s : Search) (n : Engine) (task : IsSameTask s.engine n) where
  pub moved_same : IsSameRun s (record s { engine = n })
  moved_same = record { opening = refl; ends = refl; from = refl; given = task.given; listed = task.listed }

  -- it holds the same clauses
  module _ (store : IsSameStore s.engine.watches n.watches) (nodes : List Node) (log : List Entry) where
    pub moved_running : IsEngine n → IsOnCourse n → IsRunning s nodes log → IsRunning (record s { engine = n }) nodes log
    moved_running engine course h = (
      engine,
      search_moved n.watches n.watches (variables_in s) n.agenda.list s.opening.items s.opening.items s.taken.items s.taken.items s.from s.from s.seen s.seen nodes log refl task.listed refl refl refl refl
          (search_same s.engine.watches n.watches (variables_in s) s.opening.items s.taken.items s.from s.seen nodes log store h.1),
      course,
      subst (λ (l : List Literal). AreBelow (state_of nodes log).next l) (sym (ap (λ v. v.items) task.given)) h.3,
    )

    pub moved_writing : IsWriting s nodes log → IsWriting (record s { engine = n }) nodes log
    moved_writing h =
        kept_moved nodes log (given_in s) n.given.items s.from s.from n.watches n.watches (variables_in s) n.agenda.list s.diary s.seen s.seen (ap (λ v. v.items) task.given) refl refl task.listed refl
        (kept_same (subject_of s nodes log) s.engine.watches n.watches (variables_in s) s.diary s.seen store h)

    pub moved_upto : (known : ℕ → Type 0) → IsUpToDate s nodes log known → IsUpToDate (record s { engine = n }) nodes log known
    moved_upto known h = ((moved_writing h.0.0, h.0.1), h.1, h.2)

-- the same watches hold the same clauses
pub same_store : (w v : Watches) → v ≡ w → IsSameStore w v
same_store w v e = record { kept = λ id. ap (λ (x : Watches). clause_of x id) e; held = λ id. ap (λ (x : Watches). held_of x id) e }

-- ---- an end under another condition

pub end_where : (P Q : Type 0) (g : Subject) (known : ℕ → Type 0) (found : Bool) (told : Sync) (positions : List ℕ) (v : ℕ → Bool) (cube budget : ℕ) (e : End) → (Q → P) → IsEnd P g known found told positions v cube budget e → IsEnd Q g known found told positions v cube budget e
end_where P Q g known found told positions v cube budget (Closed p) f h = h
end_where P Q g known found told positions v cube budget Model f h = h
end_where P Q g known found told positions v cube budget (Spent d) f h = (h.0, (λ q. h.1 (f q)))
end_where P Q g known found told positions v cube budget Stopped f h = h

-- ---- after a conflict: a clause was learnt, it is kept, and the engine may have restarted

module _ (s t u : Search) (n : Engine) (nodes nodes' : List Node) (log log' : List Entry) (known known' : ℕ → Type 0) (later : IsLater nodes nodes' log log' known known') (clause : List Literal) (level at : ℕ) (run : IsRunning s nodes log) (above : s.engine.base < level_of s.engine.trail) (learnt : IsLearnt s.engine.watches s.engine.trail log log' clause level at) (e : t ≡ record s { engine = record s.engine { choices = t.engine.choices } }) (same : IsSameRun t u) (kept : IsKeptAt t u clause level at) (engine : IsEngine u.engine) (course : IsOnCourse t.engine → IsOnCourse u.engine) where
  pub conflict_course : IsOnCourse u.engine
  conflict_course = course (subst (λ (x : Search). IsOnCourse x.engine) (sym e) run.2)

  module _ (watches : n.watches ≡ u.engine.watches) (task : IsSameTask u.engine n) where
    pub conflict_running : IsEngine n → IsOnCourse n → IsRunning (record u { engine = n }) nodes' log'
    conflict_running engine2 course2 =
        moved_running u n task (same_store u.engine.watches n.watches watches) nodes' log' engine2 course2
        (kept_running s u nodes nodes' log log' known known' later clause level at run above learnt (learnt_same s t u e same) (learnt_kept s t u e clause level at kept) engine conflict_course)

    pub conflict_same : IsSameRun s (record u { engine = n })
    conflict_same = run_then s u (record u { engine = n }) (learnt_same s t u e same) (moved_same u n task)

    pub conflict_writing : IsReadyToPut s nodes log → IsReadyToPut (record u { engine = n }) nodes' log'
    conflict_writing h = (
      moved_writing u n task (same_store u.engine.watches n.watches watches) nodes' log'
          (kept_writing s u nodes nodes' log log' known known' later clause level at run above learnt (learnt_same s t u e same) (learnt_kept s t u e clause level at kept) h),
      own_later s (record u { engine = n }) log log' conflict_same later.grows h.1,
    )

pub end_from : (s : Search) (n : Engine) (new : Search) (task : IsSameTask s.engine n) (nodes nodes' : List Node) (log log' : List Entry) (known known' : ℕ → Type 0) (found : Bool) (told : Sync) (v : ℕ → Bool) (cube budget : ℕ) (r : Result (Option End) AllocError) → (IsUpToDate s nodes log known → IsUpToDate (record s { engine = n }) nodes log known) → IfOk r (λ o. MatchOption o (IsUpToDate (record s { engine = n }) nodes log known → IsUpToDate new nodes' log' known') (IsEnd (IsUpToDate (record s { engine = n }) nodes log known) (subject_of (record s { engine = n }) nodes' log') known' found told s.opening.items v cube budget)) → IfOk r (λ o. MatchOption o (IsUpToDate s nodes log known → IsUpToDate new nodes' log' known') (IsEnd (IsUpToDate s nodes log known) (subject_of s nodes' log') known' found told s.opening.items v cube budget))
end_from s n new task nodes nodes' log log' known known' found told v cube budget (Err x) w h = tt
end_from s n new task nodes nodes' log log' known known' found told v cube budget (Ok None) w h = λ u. h (w u)
end_from s n new task nodes nodes' log log' known known' found told v cube budget (Ok (Some x)) w h =
    end_where (IsUpToDate (record s { engine = n }) nodes log known) (IsUpToDate s nodes log known) (subject_of s nodes' log') known' found told s.opening.items v cube budget x w
    (subst (λ (l : List Literal). IsEnd (IsUpToDate (record s { engine = n }) nodes log known) (record { nodes = nodes'; log = log'; given = l; from = s.from }) known' found told s.opening.items v cube budget x) (ap (λ v. v.items) task.given) h)

-- the end of a run says the same of its beginning
pub run_end : (P Q : Type 0) (s : Search) (nodes : List Node) (log : List Entry) (known : ℕ → Type 0) (found : Bool) (told : Sync) (v : ℕ → Bool) (given : List Literal) (from : ℕ) (opening : List ℕ) (cube budget : ℕ) (x : End) → (Q → P) → given_in s ≡ given → s.from ≡ from → s.opening.items ≡ opening → IsEnd P (subject_of s nodes log) known found told s.opening.items v cube budget x → IsEnd Q (record { nodes = nodes; log = log; given = given; from = from }) known found told opening v cube budget x
run_end P Q s nodes log known found told v given from opening cube budget x w a b c h =
    end_where P Q (record { nodes = nodes; log = log; given = given; from = from }) known found told opening v cube budget x w
    (subst (λ (o : List ℕ). IsEnd P (record { nodes = nodes; log = log; given = given; from = from }) known found told o v cube budget x) c
    (subst (λ (f : ℕ). IsEnd P (record { nodes = nodes; log = log; given = given; from = f }) known found told s.opening.items v cube budget x) b
    (subst (λ (l : List Literal). IsEnd P (record { nodes = nodes; log = log; given = l; from = s.from }) known found told s.opening.items v cube budget x) a h)))

-- ---- what a call gives on

pub on_any : (r : Result End AllocError) (X : Type 0) → X → OnOk r X
on_any (Ok x) X h = h
on_any (Err e) X h = tt

pub on_end : (r : Result End AllocError) (X Y : Type 0) → (X → Y) → OnOk r X → OnOk r Y
on_end (Ok x) X Y f h = f h
on_end (Err e) X Y f h = tt

pub ended : (r : Result End AllocError) (P Q : Type 0) (g : Subject) (given : List Literal) (from : ℕ) (known : ℕ → Type 0) (found : Bool) (told : Sync) (opening opening' : List ℕ) (v : ℕ → Bool) (cube budget : ℕ) → (Q → P) → g.given ≡ given → g.from ≡ from → opening ≡ opening' → IfOk r (IsEnd P g known found told opening v cube budget) → IfOk r (IsEnd Q (record { nodes = g.nodes; log = g.log; given = given; from = from }) known found told opening' v cube budget)
ended (Err x) P Q g given from known found told opening opening' v cube budget w a b c h = tt
ended (Ok x) P Q g given from known found told opening opening' v cube budget w a b c h =
    end_where P Q (record { nodes = g.nodes; log = g.log; given = given; from = from }) known found told opening' v cube budget x w
    (subst (λ (o : List ℕ). IsEnd P (record { nodes = g.nodes; log = g.log; given = given; from = from }) known found told o v cube budget x) c
    (subst (λ (f : ℕ). IsEnd P (record { nodes = g.nodes; log = g.log; given = given; from = f }) known found told opening v cube budget x) b
    (subst (λ (l : List Literal). IsEnd P (record { nodes = g.nodes; log = g.log; given = l; from = g.from }) known found told opening v cube budget x) a h)))

pub model_where : (r : Result End AllocError) (P Q X : Type 0) → (Q → P) → IfOk r (λ e. IsModelEnd e → P → X) → IfOk r (λ e. IsModelEnd e → Q → X)
model_where (Err x) P Q X f h = tt
model_where (Ok x) P Q X f h = λ is q. h is (f q)

pub models : (r : Result (Option End) AllocError) (P Q X : Type 0) → (Q → P) → IfOk r (λ o. MatchOption o (Unit {0}) (λ e. IsModelEnd e → P → X)) → IfOk r (λ o. MatchOption o (Unit {0}) (λ e. IsModelEnd e → Q → X))
models (Err x) P Q X f h = tt
models (Ok None) P Q X f h = tt
models (Ok (Some e)) P Q X f h = λ is q. h is (f q)
