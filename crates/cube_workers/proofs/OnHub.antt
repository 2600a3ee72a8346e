-- What the search of one cube came to, on a board of the hub.
use Rattle.std.proofs.Common.{◌≡◌, ℕ, suc, ◌<◌, ◌^◌, Bool, List, ◌++◌, length, refl, sym, ap, subst, arith}
use Rattle.std.proofs.lemmas.List.Elements.{Contains-append_right}
use Rattle.cnf_base.specs.Literals.{Literal}
use Rattle.cnf_base.specs.Assignments.{AreBelow}
use Rattle.smt_terms.specs.declared.node.Node.{Node}
use Rattle.proof_log.specs.declared.board.Sync.{Sync}
use Rattle.proof_log.specs.declared.entry.Entry.{Entry}
use Rattle.proof_log.specs.Logs.{state_of, IsLog}
use Rattle.proof_log.specs.Boards.{Grows, IsLater}
use Rattle.proof_log.specs.Diaries.{IsSpent}
use Rattle.cube_tree.specs.Cubes.{cube_of}
use Rattle.cube_search.specs.declared.ends.End.{End}
use Rattle.cube_search.specs.declared.ends.End.TheVariants as end
use Rattle.cube_search.specs.declared.search.Search.{Search}
use Rattle.cube_search.specs.Holding.{NeedNoOther}
use Rattle.cube_search.specs.Running.{IsSearch, variables_in}
use Rattle.cube_search.specs.Ends.{IsEnd, IsSpentDiary}
use Rattle.cube_search.proofs.Spent.{spent_from_start, order_from}
use Rattle.cube_search.proofs.Later.{search_later, told_later}
use Rattle.hub_board.specs.Boards.{BoardValue, IsBoard, view_in, Knows, footing_of, IsMoved}
use Rattle.hub_board.specs.Cubes.{IsOn}
use Rattle.hub_board.proofs.Seen.{board_log, opening_grows}
use Rattle.cube_workers.specs.declared.check.Check.{Check}
use Rattle.cube_workers.specs.Searched.{Problem, subject_in, IsProblem}
use Rattle.cube_workers.specs.Workers.{problem_in, IsOpenFor, IsAbout, IsCubeEnd}
use Rattle.cube_workers.proofs.Cubes.{against_given, no_other, problem_stays, given_below_next}

-- the problem over what the board has seen
pub problem_now : (b : BoardValue) (k : Check) → IsBoard b → IsOpenFor b.hist.law k → IsProblem (problem_in b.hist.law k) (view_in b).log
problem_now b k h open_for = problem_stays (problem_in b.hist.law k) b.hist.law.log.entries (view_in b).log (opening_grows b h.chains) (board_log b h) open_for.valid

pub given_is_below : (b : BoardValue) (k : Check) (cube : ℕ) (given : List Literal) → IsBoard b → IsOpenFor b.hist.law k → given ≡ cube_of k.tree.now cube ++ k.assumed.now → AreBelow (state_of b.hist.law.nodes (view_in b).log).next given
given_is_below b k cube given h open_for is =
    subst (AreBelow (state_of b.hist.law.nodes (view_in b).log).next) (sym is) (given_below_next (problem_in b.hist.law k) (view_in b).log cube (problem_now b k h open_for))

-- an end of the search is one of the cube
end_of : (p : Problem) (b : BoardValue) (condition : Type 0) (told : Sync) (v : ℕ → Bool) (cube : ℕ) (e : End) → IsProblem p (view_in b).log → condition → cube < 2 ^ length p.variables
    → IsEnd condition (subject_in p (view_in b).log cube p.from) (Knows b) (view_in b).found told p.positions v cube p.budget e → IsCubeEnd p b v cube e
end_of p b condition told v cube (end.Closed at) h holds lt q = record {
  clause = q.0;
  found = q.1;
  closing = against_given (cube_of p.variables cube) p.assumed q.0 q.2;
}
end_of p b condition told v cube end.Model h holds lt q = record {
  clauses = q.clauses;
  literals = λ l among. q.literals l (Contains-append_right (cube_of p.variables cube) p.assumed l among);
}
end_of p b condition told v cube (end.Spent d) h holds lt q =
    let diary : IsSpentDiary (subject_in p (view_in b).log cube p.from) (Knows b) told p.budget d = q.1 holds in (
      q.0,
      record {
        cube = subst (λ n. n < 2 ^ length p.variables) (sym q.0) lt;
        start = diary.start;
        within = diary.within;
        spent = subst (λ n. IsSpent (subject_in p (view_in b).log n d.start) p.budget d.lines) (sym q.0) (spent_from_start (subject_in p (view_in b).log cube p.from) (Knows b) told p.budget d h.begun h.chains diary);
        order = order_from (subject_in p (view_in b).log cube p.from) (Knows b) told p.budget d d.start diary.start (omega arith) diary;
      },
    )
end_of p b condition told v cube end.Stopped h holds lt q = q.0

pub cube_ended : (b b' : BoardValue) (k : Check) (opening : List ℕ) (from cube : ℕ) (given : List Literal) (told : Sync) (v : ℕ → Bool) (e : End) → IsBoard b → IsBoard b' → IsMoved (footing_of b) b' → IsOpenFor b.hist.law k
    → opening ≡ k.positions.now → from ≡ suc (length b.hist.law.log.entries) → given ≡ cube_of k.tree.now cube ++ k.assumed.now → cube < 2 ^ length k.tree.now
    → IsEnd (NeedNoOther (state_of b.hist.law.nodes (view_in b).log).clauses (view_in b).log opening from) (record { nodes = b'.hist.law.nodes; log = (view_in b').log; given = given; from = from }) (Knows b') (view_in b').found told opening v cube k.settings.budget e
    → IsCubeEnd (problem_in b.hist.law k) b' v cube e
cube_ended b b' k opening from cube given told v e h h' moved open_for same from_is given_is lt q =
    let p = problem_in b.hist.law k in
    let now : IsProblem p (view_in b').log =
    subst (λ s. IsProblem (problem_in s.law k) (view_in b').log) moved.hist
    (problem_now b' k h' (subst (λ s. IsOpenFor s.law k) (sym moved.hist) open_for)) in
    end_of p b' (NeedNoOther (state_of b.hist.law.nodes (view_in b).log).clauses (view_in b).log p.positions p.from) told v cube e now (no_other p (view_in b).log (problem_now b k h open_for)) lt
    (subst (λ (n : List Node). IsEnd (NeedNoOther (state_of b.hist.law.nodes (view_in b).log).clauses (view_in b).log p.positions p.from) (record { nodes = n; log = (view_in b').log; given = cube_of k.tree.now cube ++ k.assumed.now; from = p.from }) (Knows b') (view_in b').found told p.positions v cube k.settings.budget e) (ap (λ s. s.law.nodes) moved.hist)
    (subst (λ g. IsEnd (NeedNoOther (state_of b.hist.law.nodes (view_in b).log).clauses (view_in b).log p.positions p.from) (record { nodes = b'.hist.law.nodes; log = (view_in b').log; given = g; from = p.from }) (Knows b') (view_in b').found told p.positions v cube k.settings.budget e) given_is
    (subst (λ j. IsEnd (NeedNoOther (state_of b.hist.law.nodes (view_in b).log).clauses (view_in b).log p.positions j) (record { nodes = b'.hist.law.nodes; log = (view_in b').log; given = given; from = j }) (Knows b') (view_in b').found told p.positions v cube k.settings.budget e) from_is
    (subst (λ l. IsEnd (NeedNoOther (state_of b.hist.law.nodes (view_in b).log).clauses (view_in b).log l from) (record { nodes = b'.hist.law.nodes; log = (view_in b').log; given = given; from = from }) (Knows b') (view_in b').found told l v cube k.settings.budget e) same q))))

-- a search goes on over a log that grew
still_search : (s : Search) (nodes : List Node) (log log' : List Entry) → Grows log log' → IsLog nodes log' → IsSearch s nodes log → IsSearch s nodes log'
still_search s nodes log log' grows stands h =
    let later : IsLater nodes nodes log log' (λ (p : ℕ). p < 0) (λ (p : ℕ). p < 0) = record { nodes = refl; grows = grows; knows = λ p d. d; stands = stands } in (
      h.0,
      search_later s.engine.watches (variables_in s) s.opening.items s.taken.items s.from s.seen nodes nodes log log' (λ p. p < 0) (λ p. p < 0) later h.1,
      told_later (variables_in s) s.opening.items s.ends.items nodes nodes log log' (λ p. p < 0) (λ p. p < 0) later (λ p among. let low = h.1.placed.before p among in omega (arith, low, h.1.placed.from_seen, h.1.placed.within)) h.2,
    )

-- a search goes on over a board that has seen more
pub about_on : (s : Search) (b b' : BoardValue) (p : Problem) → Grows (view_in b).log (view_in b').log → IsBoard b' → IsOn b b' → IsAbout s b p → IsAbout s b' p
about_on s b b' p grows h' on k = record {
  search = still_search s b'.hist.law.nodes (view_in b).log (view_in b').log grows (board_log b' h') (subst (λ x. IsSearch s x.law.nodes (view_in b).log) (sym on.hist) k.search);
  positions = k.positions;
  from = k.from;
}
