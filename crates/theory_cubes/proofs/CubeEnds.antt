-- What the search of one cube came to.
use Rattle.std.proofs.Common.{◌≡◌, ℕ, suc, ◌<◌, ◌≤◌, ◌^◌, Bool, false, List, ◌++◌, length, refl, sym, ap, ◌∙◌, subst, arith}
use Rattle.std.specs.Prelude.{Option, None, MatchOption}
use Rattle.std.proofs.lemmas.List.Elements.{All-weaker, Contains-append_right}
use Rattle.cnf_base.specs.Literals.{Literal}
use Rattle.cnf_base.proofs.Agreeing.{AreBelow-more}
use Rattle.smt_terms.specs.declared.node.Node.{Node}
use Rattle.smt_values.specs.declared.interp.Interp.{Interp}
use Rattle.proof_log.specs.declared.board.Sync.{Sync}
use Rattle.proof_log.specs.declared.entry.Entry.{Entry}
use Rattle.proof_log.specs.declared.diary.Diary.{Diary}
use Rattle.proof_log.specs.Logs.{state_of, IsLog}
use Rattle.proof_log.specs.LemmaBoards.{IsLaterByMore}
use Rattle.proof_log.specs.Boards.{LogBoardValue}
use Rattle.proof_log.specs.Diaries.{IsSpent}
use Rattle.cube_tree.specs.Cubes.{cube_of}
use Rattle.cube_search.specs.declared.search.Search.{Search}
use Rattle.cube_search.specs.Holding.{IsLonger}
use Rattle.cube_search.specs.Ends.{IsSpentDiary}
use Rattle.cube_search.proofs.Longer.{log_longer, longer_holds}
use Rattle.cube_search.proofs.Spent.{order_from}
use Rattle.cube_search.proofs.Told.{longer_has, longer_then}
use Rattle.theory_search.specs.declared.ends.End.{End}
use Rattle.theory_search.specs.declared.ends.End.TheVariants as end
use Rattle.theory_search.specs.declared.theory.Theory.{Theory}
use Rattle.theory_search.specs.Theories.{GoesOn}
use Rattle.theory_search.specs.Ends.{IsEnd}
use Rattle.theory_cubes.specs.declared.check.TheoryCheck.{TheoryCheck}
use Rattle.theory_cubes.specs.Searched.{Problem, subject_in, IsSearching, IsEndOf, AreTried, StartsAt, problem}
use Rattle.theory_cubes.proofs.Cubes.{against_given}

-- ---- a search that goes on

next_grows : (n n' : List Node) (log log' : List Entry) (known known' : ℕ → Type 0) → IsLaterByMore n n' log log' known known' → (state_of n log).next ≤ (state_of n' log').next
next_grows n n' log log' known known' later =
    subst (λ m. (state_of n log).next ≤ (state_of m log').next) (sym later.nodes)
    (longer_holds n log log' later.adds.more later.adds.is (subst (λ m. IsLog m log') later.nodes later.stands)).next

pub still_searching : (n n' : List Node) (from : ℕ) (k : TheoryCheck) (s s' : Search) (t t' : Theory) (b b' : LogBoardValue) (known known' : ℕ → Type 0) → IsLaterByMore n n' b.log.entries b'.log.entries known known' → t'.live ≡ t.live → IsSearching (problem n from k) s t b
    → GoesOn n n' b.log.entries b'.log.entries t t' s s' → IsSearching (problem n' from k) s' t' b'
still_searching n n' from k s s' t t' b b' known known' later live h goes =
    let next = next_grows n n' b.log.entries b'.log.entries known known' later in
    record {
      search = goes.search;
      theory = goes.theory;
      apart = goes.apart h.apart;
      live = ap (λ v. v.items) live ∙ h.live;
      longer = longer_then k.positions.now s.opening.items s'.opening.items h.longer goes.longer;
      from = goes.from ∙ h.from;
      within = (let far = log_longer b.log.entries b'.log.entries later.adds.more later.adds.is in let w = h.within in omega (arith, far, w));
      variables = All-weaker (λ x. x < (state_of n b.log.entries).next) (λ x. x < (state_of n' b'.log.entries).next) (λ x lt. omega (arith, lt, next)) k.tree.now h.variables;
      assumed = AreBelow-more (state_of n b.log.entries).next (state_of n' b'.log.entries).next next k.assumed.now h.assumed;
    }

-- ---- an end of the search is one of the cube, where no other search finds a model

module _ (p : Problem) (log : List Entry) (condition : Type 0) (holds : condition) (knows : ℕ → Type 0) (told : Sync) (opening : List ℕ) (longer : IsLonger p.positions opening) (within : p.from ≤ suc (length log)) (v : ℕ → Bool) (cube : ℕ) (lt : cube < 2 ^ length p.variables) where
  closed_of : (at : ℕ) → IsEnd condition (subject_in p log cube p.from) knows false told p.live opening v cube p.budget (end.Closed at) → IsEndOf p log cube (end.Closed at)
  closed_of at q = record { clause = q.0; found = q.1; closing = against_given (cube_of p.variables cube) p.assumed q.0 q.2 }

  model_of : (m : Interp) → IsEnd condition (subject_in p log cube p.from) knows false told p.live opening v cube p.budget (end.Model m) → IsEndOf p log cube (end.Model m)
  model_of m q = (
    v,
    record {
      clauses = record {
        clauses = λ id c k e. q.clauses.clauses id c (longer_has p.positions opening id.pos longer k) e;
        literals = λ l among. q.clauses.literals l (Contains-append_right (cube_of p.variables cube) p.assumed l among);
      };
      values = q.values;
    },
  )

  spent_of : (d : Diary) → IsEnd condition (subject_in p log cube p.from) knows false told p.live opening v cube p.budget (end.Spent d) → IsEndOf p log cube (end.Spent (record { cube = d.cube; start = p.from; lines = d.lines }))
  spent_of d q =
      let diary : IsSpentDiary (subject_in p log cube p.from) knows told p.budget d = q.1 holds in (
        q.0,
        record {
          cube = subst (λ n. n < 2 ^ length p.variables) (sym q.0) lt;
          start = refl;
          within = within;
          spent = subst (λ n. IsSpent (subject_in p log n p.from) p.budget d.lines) (sym q.0) diary.spent;
          order = order_from (subject_in p log cube p.from) knows told p.budget d p.from (omega arith) diary.start diary;
        },
      )

  pub end_of : (e e' : End) → StartsAt p.from e e' → IsEnd condition (subject_in p log cube p.from) knows false told p.live opening v cube p.budget e → IsEndOf p log cube e'
  end_of (end.Closed at) e' is q = subst (IsEndOf p log cube) (sym is) (closed_of at q)
  end_of (end.Model m) e' is q = subst (IsEndOf p log cube) (sym is) (model_of m q)
  end_of (end.Spent d) e' is q = subst (IsEndOf p log cube) (sym is) (spent_of d q)
  end_of end.Stopped e' is q = let g = q.0 in let f : ⊥ = cc in absurd f

-- in the words of a run
pub ended : (p : Problem) (log : List Entry) (condition : Type 0) (knows : ℕ → Type 0) (told : Sync) (opening live : List ℕ) (v : ℕ → Bool) (cube from : ℕ) (given : List Literal) (e e' : End) → condition → IsLonger p.positions opening → p.from ≤ suc (length log) → cube < 2 ^ length p.variables
    → given ≡ cube_of p.variables cube ++ p.assumed → from ≡ p.from → live ≡ p.live → StartsAt p.from e e'
    → IsEnd condition (record { nodes = p.nodes; log = log; given = given; from = from }) knows false told live opening v cube p.budget e → IsEndOf p log cube e'
ended p log condition knows told opening live v cube from given e e' holds longer within lt literals begin same is q =
    end_of p log condition holds knows told opening longer within v cube lt e e' is
    (subst (λ (ls : List ℕ). IsEnd condition (record { nodes = p.nodes; log = log; given = cube_of p.variables cube ++ p.assumed; from = p.from }) knows false told ls opening v cube p.budget e) same
    (subst (λ (x : ℕ). IsEnd condition (record { nodes = p.nodes; log = log; given = cube_of p.variables cube ++ p.assumed; from = x }) knows false told live opening v cube p.budget e) begin
    (subst (λ (g : List Literal). IsEnd condition (record { nodes = p.nodes; log = log; given = g; from = from }) knows false told live opening v cube p.budget e) literals q)))

-- ---- over the log that a board gave back

pub tried_back : (p p' : Problem) (log log' : List Entry) (count : ℕ) (closed : List ℕ) (spent : Option Diary) (found : Option Interp) (IsOther : Interp → Type 0) → p ≡ p' → log' ≡ log → found ≡ None → MatchOption found (AreTried p log count closed spent) IsOther → AreTried p' log' count closed spent
tried_back p p' log log' count closed spent found IsOther e f none h =
    subst (λ q. AreTried q log' count closed spent) e (subst (λ l. AreTried p l count closed spent) (sym f) (subst (λ o. MatchOption o (AreTried p log count closed spent) IsOther) none h))
