-- The search of a check's cubes, one after the other, over a log that grows by chains, equalities and lemmas.
use Rattle.std.proofs.Common.{◌≡◌, ℕ, ◌+◌, ◌/◌, ◌<◌, ◌≤◌, List, [], ◌∷◌, ◌++◌, length, Option, Some, None, refl, sym, ap, ◌∙◌, subst, inl, inr, ⊎_elim, arith, length-append}
use Rattle.std.specs.Prelude.{◌⊎◌, ◌^◌, Contains, IsSome}
use Rattle.std.specs.List.{AllByRecursion}
use Rattle.std.proofs.lemmas.Bool.{cases_lt}
use Rattle.std.proofs.lemmas.List.Elements.{Contains-append_cases, recursion_from_All}
use Rattle.std.specs.Prelude.{All}
use Rattle.cnf_base.specs.Literals.{Literal, negated}
use Rattle.cnf_base.specs.Assignments.{AreBelow}
use Rattle.cnf_base.specs.declared.clause.ClauseId.{ClauseId}
use Rattle.cnf_base.proofs.Lists.{each_append, slice_get-there, slice_get-push_cases}
use Rattle.smt_terms.specs.declared.node.Node.{Node}
use Rattle.hint_chain.specs.Chains.{Lookup}
use Rattle.proof_log.specs.declared.entry.Entry.{Entry}
use Rattle.proof_log.specs.declared.diary.Diary.{Diary}
use Rattle.proof_log.specs.Logs.{clause_at, state_of}
use Rattle.proof_log.specs.Diaries.{blank}
use Rattle.proof_log.specs.LemmaBoards.{Adds}
use Rattle.proof_log.specs.Stored.{LogValue, Stands}
use Rattle.proof_log.proofs.Growth.{clause_place}
use Rattle.proof_log.proofs.Standing.{stands_over}
use Rattle.cube_tree.specs.Cubes.{cube_of}
use Rattle.cube_tree.specs.Closing.{IsClosing, Closes, AreClosing, HaveClauses, first_of}
use Rattle.cube_tree.proofs.Resolving.{members}
use Rattle.cube_search.proofs.FirstTaken.{order_longer}
use Rattle.cube_search.proofs.Longer.{clause_longer, diary_longer, log_longer, entry_longer}
use Rattle.theory_cubes.specs.Searched.{Problem, look_in, given_in, subject_in, IsSpentCube, IsClosed, IsSearchedCube, IsLowestSpent, AreTried}

-- ---- a log that grew

module _ (p : Problem) (log log' : List Entry) (adds : Adds log log') where
  look_stays : (id : ClauseId) (c : List Literal) → look_in p log id ≡ Some c → look_in p log' id ≡ Some c
  look_stays id c e = clause_longer p.nodes log log' adds.more adds.is id (clause_place p.nodes log id c e) ∙ e

  -- what closes a cube still does
  pub closes_stays : (cube : List Literal) (at : ℕ) → Closes (look_in p log) p.assumed cube at → Closes (look_in p log') p.assumed cube at
  closes_stays cube at h = record { clause = h.clause; found = look_stays (first_of at) h.clause h.found; closing = h.closing }

  closed_stays : (n : ℕ) → IsClosed p log n → IsClosed p log' n
  closed_stays n h = (h.0, closes_stays (cube_of p.variables n) h.0 h.1)

  pub spent_stays : (d : Diary) → IsSpentCube p log d → IsSpentCube p log' d
  spent_stays d h =
      let longer = log_longer log log' adds.more adds.is in
      let all = diary_longer (subject_in p log d.cube d.start) (subject_in p log' d.cube d.start) (record { nodes = refl; given = refl; from = refl; more = adds.more; is = adds.is }) h.within d.lines h.spent.stand in
      record {
        cube = h.cube;
        start = h.start;
        within = omega (arith, h.within, longer);
        spent = record { stand = all.0; puts = ap (λ s. s.puts) all.1 ∙ h.spent.puts; last = h.spent.last };
        order = order_longer (subject_in p log d.cube d.start) (blank (subject_in p log d.cube d.start)) log' d.start d.lines h.spent.stand (entry_longer log log' adds.more adds.is) h.order;
      }

  searched_stays : (n : ℕ) → IsSearchedCube p log n → IsSearchedCube p log' n
  searched_stays n h = ⊎_elim (λ (c : IsClosed p log n). inl (closed_stays n c)) (λ (s : (d : Diary) × (d.cube ≡ n) × IsSpentCube p log d). inr (s.0, s.1, spent_stays s.0 s.2)) h

  lowest_stays : (count : ℕ) (d : Diary) → IsLowestSpent p log count d → IsLowestSpent p log' count d
  lowest_stays count d h = record { own = spent_stays d h.own; lower = λ n lt. closed_stays n (h.lower n lt); later = λ n gt lt. searched_stays n (h.later n gt lt) }

  pub tried_stays : (count : ℕ) (closed : List ℕ) (spent : Option Diary) → AreTried p log count closed spent → AreTried p log' count closed spent
  tried_stays count closed None h = (h.0, λ n at e. closes_stays (cube_of p.variables n) at (h.1 n at e))
  tried_stays count closed (Some d) h = lowest_stays count d h

-- ---- what a search takes as true

pub cube_below : (next : ℕ) (variables : List ℕ) (n : ℕ) → AllByRecursion (λ x. x < next) variables → AreBelow next (cube_of variables n)
cube_below next [] n h = tt
cube_below next (x ∷ xs) n h = (h.0, cube_below next xs (n / 2) h.1)

pub given_below : (p : Problem) (next n : ℕ) → All (λ x. x < next) p.variables → AreBelow next p.assumed → AreBelow next (given_in p n)
given_below p next n variables assumed =
    each_append (λ (l : Literal). l.variable < next) (cube_of p.variables n) p.assumed
    (cube_below next p.variables n (recursion_from_All (λ x. x < next) p.variables variables)) assumed

-- opposites of what is given are opposites of the cube's literals and of what is assumed
pub against_given : (cube assumed clause : List Literal) → ((l : Literal) → Contains clause l → Contains (cube ++ assumed) (negated l)) → IsClosing assumed cube clause
against_given cube assumed clause h = members (λ l. Contains cube (negated l) ⊎ Contains assumed (negated l)) clause (λ l e. Contains-append_cases cube assumed (negated l) (h l e))

-- ---- one cube more

pub tried_none : (p : Problem) (log : List Entry) (closed : List ℕ) (spent : Option Diary) → closed ≡ [] → spent ≡ None → AreTried p log 0 closed spent
tried_none p log closed spent e f =
    subst (λ o. AreTried p log 0 closed o) (sym f)
    (subst (λ (l : List ℕ). AreTried p log 0 l None) (sym e) (refl, λ n at q. let x : ⊥ = cc in absurd x))

-- the next is closed, where all before are
pub closed_more : (p : Problem) (log : List Entry) (cube at : ℕ) (closed new : List ℕ) (spent : Option Diary) → spent ≡ None → new ≡ closed ++ at ∷ [] → AreTried p log cube closed spent → Closes (look_in p log) p.assumed (cube_of p.variables cube) at → AreTried p log (cube + 1) new spent
closed_more p log cube at closed new spent none e h here =
    let old : (length closed ≡ cube) × AreClosing (look_in p log) p.assumed p.variables closed = subst (λ o. AreTried p log cube closed o) none h in
    subst (λ o. AreTried p log (cube + 1) new o) (sym none)
    (subst (λ (l : List ℕ). AreTried p log (cube + 1) l None) (sym e) (
      omega (arith, old.0, length-append closed (at ∷ [])),
      λ n place q.
          ⊎_elim
          (λ was. old.1 n place was)
          (λ (last : (n ≡ length closed) × (at ≡ place)). subst (λ y. Closes (look_in p log) p.assumed (cube_of p.variables n) y) last.1 (subst (λ m. Closes (look_in p log) p.assumed (cube_of p.variables m) at) (sym (last.0 ∙ old.0)) here))
          (slice_get-push_cases closed at place n q),
    ))

-- where one was spent before, the next is one more that was searched
pub still_spent : (p : Problem) (log : List Entry) (cube : ℕ) (closed : List ℕ) (spent : Option Diary) → IsSome spent → AreTried p log cube closed spent → IsSearchedCube p log cube → AreTried p log (cube + 1) closed spent
still_spent p log cube closed None some h one = let f : ⊥ = cc in absurd f
still_spent p log cube closed (Some d) some h one = record {
  own = h.own;
  lower = h.lower;
  later = λ n gt lt.
      ⊎_elim
      (λ (low : n < cube). h.later n gt low)
      (λ (last : cube ≤ n). (let same : cube ≡ n = omega (arith, last, lt) in subst (IsSearchedCube p log) same one))
      (cases_lt n cube);
}

-- the next is the lowest that is spent, where all before are closed
pub spent_next : (p : Problem) (log : List Entry) (cube : ℕ) (closed : List ℕ) (spent : Option Diary) (d : Diary) → spent ≡ None → AreTried p log cube closed spent → d.cube ≡ cube → IsSpentCube p log d → IsLowestSpent p log (cube + 1) d
spent_next p log cube closed spent d none h e own =
    let old : (length closed ≡ cube) × AreClosing (look_in p log) p.assumed p.variables closed = subst (λ o. AreTried p log cube closed o) none h in
    record {
      own = own;
      lower = λ n lt. (let at = slice_get-there closed n (omega (arith, lt, e, old.0)) in (at.0, old.1 n at.0 at.1));
      later = λ n gt lt. absurd (omega (arith, gt, lt, e));
    }

-- of all cubes it is the lowest that is spent
pub lowest_found : (p : Problem) (log : List Entry) (variables closed : List ℕ) (spent : Option Diary) (d : Diary) → p.variables ≡ variables → spent ≡ Some d → AreTried p log (2 ^ length variables) closed spent → IsLowestSpent p log (2 ^ length p.variables) d
lowest_found p log variables closed spent d e is h =
    let own : IsLowestSpent p log (2 ^ length variables) d = subst (λ o. AreTried p log (2 ^ length variables) closed o) is h in
    subst (λ (xs : List ℕ). IsLowestSpent p log (2 ^ length xs) d) (sym e) own

-- ---- all cubes

pub tried_later : (p p' : Problem) (log log' : List Entry) (count : ℕ) (closed : List ℕ) (spent : Option Diary) → p' ≡ p → Adds log log' → AreTried p log count closed spent → AreTried p' log' count closed spent
tried_later p p' log log' count closed spent e adds h = subst (λ q. AreTried q log' count closed spent) (sym e) (tried_stays p log log' adds count closed spent h)

-- the look-ups of a stored log
look_same : (p : Problem) (nodes : List Node) (log : LogValue) → p.nodes ≡ nodes → Stands nodes log → clause_at log.clauses ≡ look_in p log.entries
look_same p nodes log e h = ap clause_at (stands_over nodes log h).clauses ∙ ap (λ n. clause_at (state_of n log.entries).clauses) (sym e)

-- where none was spent, each is closed at its position
pub closing_over : (p : Problem) (nodes : List Node) (log : LogValue) (count : ℕ) (variables closed places : List ℕ) (spent : Option Diary) → p.nodes ≡ nodes → p.variables ≡ variables → places ≡ closed → Stands nodes log → spent ≡ None
    → AreTried p log.entries count closed spent → AreClosing (clause_at log.clauses) p.assumed variables places
closing_over p nodes log count variables closed places spent e v same h none tried =
    let all : (length closed ≡ count) × AreClosing (look_in p log.entries) p.assumed p.variables closed = subst (λ o. AreTried p log.entries count closed o) none tried in
    subst (λ look. AreClosing look p.assumed variables places) (sym (look_same p nodes log e h))
    (subst (λ xs. AreClosing (look_in p log.entries) p.assumed xs places) v (subst (λ ps. AreClosing (look_in p log.entries) p.assumed p.variables ps) (sym same) all.1))

pub have_clauses : (look : Lookup) (assumed : List Literal) (variables places : List ℕ) → AreClosing look assumed variables places → HaveClauses look places
have_clauses look assumed variables places h n at e = let c = h n at e in (c.clause, c.found)

-- what is joined is so over the terms of the problem
pub joined : (p : Problem) (nodes : List Node) (log : LogValue) (at : ℕ) → p.nodes ≡ nodes → Stands nodes log → Closes (clause_at log.clauses) p.assumed [] at → Closes (look_in p log.entries) p.assumed [] at
joined p nodes log at e h = subst (λ look. Closes look p.assumed [] at) (look_same p nodes log e h)
