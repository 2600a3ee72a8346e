use Rattle.std.proofs.Common.{◌≡◌, refl, sym, ap, ◌∙◌, subst}
use Rattle.smt_terms.specs.Terms.{TermsValue}
use Rattle.proof_log.specs.Logs.{state_of}
use Rattle.proof_log.specs.Stored.{LogValue, Stands}
use Rattle.proof_log.proofs.Standing.{stands_over}
use Rattle.cube_search.specs.Running.{IsResting}
use Rattle.theory_cubes.specs.Searched.{AreApart, problem_over}
use Rattle.theory_cubes.proofs.CubeEnds.{tried_back}
use Rattle.theory_cubes.proofs.Resting.{rests_by_steps, rests_prolonged, left_back, adds_joined}
use Rattle.theory_cubes.proofs.Starting.{on_board, same_problem}
use Rattle.theory_cubes.proofs.solving.solve.Goals as goal

pub begun-requires-clause-next : goal.begun-requires-clause-next
begun-requires-clause-next c =
    on_board c.args.terms.now c.new-board.result.terms c.args.log c.new-board.result.log (λ n l. c.next-next.result ≡ (state_of n l).next) c.new-board.ensures.terms c.new-board.ensures.log
    (c.next-next.ensures ∙ (stands_over c.args.terms.now.nodes c.args.log c.requires.stands).next)

pub begun-requires-clause-resting : goal.begun-requires-clause-resting
begun-requires-clause-resting c =
    on_board c.args.terms.now c.new-board.result.terms c.args.log c.new-board.result.log (λ n l. IsResting c.args.search.now (state_of n l).clauses l) c.new-board.ensures.terms c.new-board.ensures.log
    (rests_by_steps c.args.terms.now.nodes c.args.log c.args.search.now c.requires.stands c.requires.resting)

pub begun-requires-clause-apart : goal.begun-requires-clause-apart
begun-requires-clause-apart c =
    on_board c.args.terms.now c.new-board.result.terms c.args.log c.new-board.result.log (λ n l. AreApart n l c.args.check.now.live.now c.args.check.now.positions.now) c.new-board.ensures.terms c.new-board.ensures.log c.requires.apart

pub returns-in-Some-clause-resting : goal.returns-in-Some-clause-resting
returns-in-Some-clause-resting c =
    left_back c.search_cubes-searched.new.board.terms.nodes c.search_cubes-searched.new.board.log c.into_log-log.result c.search_cubes-searched.new.search c.into_log-log.ensures.log c.into_log-log.ensures.stands c.in-Ok-searched.ensures.searching.search

pub conclude-requires-clause-tried : goal.conclude-requires-clause-tried
conclude-requires-clause-tried c =
    let begun = same_problem c.search_cubes-searched.new.board.terms.nodes c.args.terms.now.nodes c.len-from.result c.args.log.entries c.args.check.now (c.in-Ok-searched.ensures.nodes ∙ ap (λ (t : TermsValue). t.nodes) c.new-board.ensures.terms) c.len-from.ensures in (
      problem_over c.args.terms.now.nodes c.args.log.entries c.args.check.now,
      refl,
      refl,
      tried_back _ (problem_over c.args.terms.now.nodes c.args.log.entries c.args.check.now) _ c.into_log-log.result.entries _ _ _ _ _
          begun (ap (λ (l : LogValue). l.entries) c.into_log-log.ensures.log) c.in_default-found.is c.in-Ok-searched.ensures.tried,
    )

pub returns-in_default-conclude-clause-lost : goal.returns-in_default-conclude-clause-lost
returns-in_default-conclude-clause-lost c = (
  c.conclude.ensures.stands,
  adds_joined c.args.log c.new-board.result.log c.search_cubes-searched.new.board.log c.into_log-log.result c.conclude.new.log c.new-board.ensures.log c.into_log-log.ensures.log c.in-Ok-searched.ensures.adds c.conclude.ensures.grows,
)

pub returns-clause-adds : goal.returns-clause-adds
returns-clause-adds c =
    adds_joined c.args.log c.new-board.result.log c.search_cubes-searched.new.board.log c.into_log-log.result c.conclude.new.log c.new-board.ensures.log c.into_log-log.ensures.log c.in-Ok-searched.ensures.adds c.in-Ok-conclude.ensures.grows

pub returns-clause-resting : goal.returns-clause-resting
returns-clause-resting c =
    let nodes = c.search_cubes-searched.new.board.terms.nodes in
    let same = c.in-Ok-searched.ensures.nodes ∙ ap (λ (t : TermsValue). t.nodes) c.new-board.ensures.terms in
    rests_prolonged nodes c.into_log-log.result c.conclude.new.log c.search_cubes-searched.new.search c.into_log-log.ensures.stands (subst (λ n. Stands n c.conclude.new.log) (sym same) c.in-Ok-conclude.ensures.stands) c.in-Ok-conclude.ensures.grows
    (left_back nodes c.search_cubes-searched.new.board.log c.into_log-log.result c.search_cubes-searched.new.search c.into_log-log.ensures.log c.into_log-log.ensures.stands c.in-Ok-searched.ensures.searching.search)

pub returns-clause-found : goal.returns-clause-found
returns-clause-found c =
    let begun = same_problem c.search_cubes-searched.new.board.terms.nodes c.args.terms.now.nodes c.len-from.result c.args.log.entries c.args.check.now (c.in-Ok-searched.ensures.nodes ∙ ap (λ (t : TermsValue). t.nodes) c.new-board.ensures.terms) c.len-from.ensures in
    c.in-Ok-conclude.ensures.found (problem_over c.args.terms.now.nodes c.args.log.entries c.args.check.now) refl refl
    (tried_back _ (problem_over c.args.terms.now.nodes c.args.log.entries c.args.check.now) _ c.into_log-log.result.entries _ _ _ _ _
    begun (ap (λ (l : LogValue). l.entries) c.into_log-log.ensures.log) c.in_default-found.is c.in-Ok-searched.ensures.tried)
