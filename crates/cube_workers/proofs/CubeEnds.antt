-- What the search of one cube came to.
use Rattle.std.proofs.Common.{◌≡◌, ℕ, suc, ◌<◌, ◌^◌, Bool, true, false, List, ◌++◌, length, sym, ap, ◌∙◌, subst, arith}
use Rattle.std.specs.Prelude.{Option, MatchBool}
use Rattle.std.proofs.lemmas.List.Elements.{Contains-append_right}
use Rattle.cnf_base.specs.Literals.{Literal}
use Rattle.smt_terms.specs.declared.node.Node.{Node}
use Rattle.proof_log.specs.declared.board.Sync.{Sync}
use Rattle.proof_log.specs.declared.entry.Entry.{Entry}
use Rattle.proof_log.specs.declared.diary.Diary.{Diary}
use Rattle.proof_log.specs.Logs.{IsLog}
use Rattle.proof_log.specs.Boards.{IsLater, LogBoardValue}
use Rattle.proof_log.specs.Diaries.{IsSpent}
use Rattle.cube_tree.specs.Cubes.{cube_of}
use Rattle.cube_search.specs.declared.search.Search.{Search}
use Rattle.cube_search.specs.declared.ends.End.{End}
use Rattle.cube_search.specs.declared.ends.End.TheVariants as end
use Rattle.cube_search.specs.Running.{IsSearch}
use Rattle.cube_search.specs.Ends.{IsEnd, IsSpentDiary}
use Rattle.cube_search.proofs.Spent.{spent_from_start, order_from}
use Rattle.cube_workers.specs.Searched.{Problem, subject_in, IsProblem, IsSearching, IsEndOf, IsModelOf, AreTried, problem_of, problem}
use Rattle.cube_workers.proofs.Cubes.{against_given, problem_stays}

-- an end of the search is one of the cube, where no other search finds a model
end_of : (p : Problem) (log : List Entry) (condition : Type 0) (knows : ℕ → Type 0) (told : Sync) (v : ℕ → Bool) (cube : ℕ) (e : End) → IsProblem p log → condition → cube < 2 ^ length p.variables
    → IsEnd condition (subject_in p log cube p.from) knows false told p.positions v cube p.budget e → IsEndOf p log v cube e
end_of p log condition knows told v cube (end.Closed at) h holds lt q = record {
  clause = q.0;
  found = q.1;
  closing = against_given (cube_of p.variables cube) p.assumed q.0 q.2;
}
end_of p log condition knows told v cube end.Model h holds lt q = record {
  clauses = q.clauses;
  literals = λ l among. q.literals l (Contains-append_right (cube_of p.variables cube) p.assumed l among);
}
end_of p log condition knows told v cube (end.Spent d) h holds lt q =
    let diary : IsSpentDiary (subject_in p log cube p.from) knows told p.budget d = q.1 holds in (
      q.0,
      record {
        cube = subst (λ n. n < 2 ^ length p.variables) (sym q.0) lt;
        start = diary.start;
        within = diary.within;
        spent = subst (λ n. IsSpent (subject_in p log n d.start) p.budget d.lines) (sym q.0) (spent_from_start (subject_in p log cube p.from) knows told p.budget d h.begun h.chains diary);
        order = order_from (subject_in p log cube p.from) knows told p.budget d d.start diary.start (omega arith) diary;
      },
    )
end_of p log condition knows told v cube end.Stopped h holds lt q = let g = q.0 in let f : ⊥ = cc in absurd f

-- the search goes on about the same problem
module _ (s s' : Search) (b b' : LogBoardValue) (known known' : ℕ → Type 0) (variables : List ℕ) (assumed : List Literal) (budget : ℕ)
    (later : IsLater b.terms.nodes b'.terms.nodes b.log.entries b'.log.entries known known') (opening : s'.opening ≡ s.opening) (from : s'.from ≡ s.from) where
  pub same_problem : problem_of s' b' variables assumed budget ≡ problem_of s b variables assumed budget
  same_problem =
      ap (λ nodes. record { nodes = nodes; positions = s'.opening.items; from = s'.from; variables = variables; assumed = assumed; budget = budget }) later.nodes
      ∙ ap (λ o. record { nodes = b.terms.nodes; positions = o.items; from = s'.from; variables = variables; assumed = assumed; budget = budget }) opening
      ∙ ap (λ k. record { nodes = b.terms.nodes; positions = s.opening.items; from = k; variables = variables; assumed = assumed; budget = budget }) from

  pub later_problem : IsProblem (problem_of s b variables assumed budget) b.log.entries → IsProblem (problem_of s' b' variables assumed budget) b'.log.entries
  later_problem h =
      subst (λ p. IsProblem p b'.log.entries) (sym same_problem)
      (problem_stays (problem_of s b variables assumed budget) b.log.entries b'.log.entries later.grows (subst (λ n. IsLog n b'.log.entries) later.nodes later.stands) h)

  pub still_searching : IsSearching s b variables assumed budget → IsSearch s' b'.terms.nodes b'.log.entries → IsSearching s' b' variables assumed budget
  still_searching h search = record { search = search; problem = later_problem h.problem }

  -- an end of the search is one of the cube
  pub ended : (condition : Type 0) (knows : ℕ → Type 0) (told : Sync) (v : ℕ → Bool) (cube : ℕ) (given : List Literal) (e : End) → given ≡ cube_of variables cube ++ assumed → IsProblem (problem_of s' b' variables assumed budget) b'.log.entries → condition → cube < 2 ^ length variables
      → IsEnd condition (record { nodes = b'.terms.nodes; log = b'.log.entries; given = given; from = s.from }) knows false told s.opening.items v cube budget e → IsEndOf (problem_of s' b' variables assumed budget) b'.log.entries v cube e
  ended condition knows told v cube given e literals h holds lt q =
      end_of (problem_of s' b' variables assumed budget) b'.log.entries condition knows told v cube e h holds lt
      (subst (λ ps. IsEnd condition (record { nodes = b'.terms.nodes; log = b'.log.entries; given = cube_of variables cube ++ assumed; from = s'.from }) knows false told ps v cube budget e) (sym (ap (λ o. o.items) opening))
      (subst (λ k. IsEnd condition (record { nodes = b'.terms.nodes; log = b'.log.entries; given = cube_of variables cube ++ assumed; from = k }) knows false told s.opening.items v cube budget e) (sym from)
      (subst (λ g. IsEnd condition (record { nodes = b'.terms.nodes; log = b'.log.entries; given = g; from = s.from }) knows false told s.opening.items v cube budget e) literals q)))

-- the problem of a search that was begun behind a log
pub start_problem : (s : Search) (b : LogBoardValue) (nodes : List Node) (log : List Entry) (positions variables : List ℕ) (assumed : List Literal) (budget : ℕ) → b.terms.nodes ≡ nodes → s.opening.items ≡ positions → s.from ≡ suc (length log)
    → problem_of s b variables assumed budget ≡ problem nodes log positions variables assumed budget
start_problem s b nodes log positions variables assumed budget e f g =
    ap (λ n. record { nodes = n; positions = s.opening.items; from = s.from; variables = variables; assumed = assumed; budget = budget }) e
    ∙ ap (λ ps. record { nodes = nodes; positions = ps; from = s.from; variables = variables; assumed = assumed; budget = budget }) f
    ∙ ap (λ k. record { nodes = nodes; positions = positions; from = k; variables = variables; assumed = assumed; budget = budget }) g

-- what the cubes came to, over the log that a board gave back
pub tried_back : (p p' : Problem) (log log' : List Entry) (count : ℕ) (closed : List ℕ) (spent : Option Diary) (found : Bool) (IsOther : Type 0) → p ≡ p' → log' ≡ log → found ≡ false → MatchBool found IsOther (AreTried p log count closed spent) → AreTried p' log' count closed spent
tried_back p p' log log' count closed spent found IsOther e f none h =
    subst (λ q. AreTried q log' count closed spent) e (subst (λ l. AreTried p l count closed spent) (sym f) (subst (λ b. MatchBool b IsOther (AreTried p log count closed spent)) none h))

-- and a model, over that log
pub model_back : (p p' : Problem) (log log' : List Entry) (v : ℕ → Bool) (found : Bool) (IsOther : Type 0) → p ≡ p' → log' ≡ log → found ≡ true → MatchBool found (IsModelOf p log v) IsOther → IsModelOf p' log' v
model_back p p' log log' v found IsOther e f one h =
    subst (λ q. IsModelOf q log' v) e (subst (λ l. IsModelOf p l v) (sym f) (subst (λ b. MatchBool b (IsModelOf p log v) IsOther) one h))
