use Rattle.std.proofs.Common.{suc, length, refl, sym, ap, ◌∙◌, subst, arith}
use Rattle.smt_terms.specs.Terms.{TermsValue}
use Rattle.proof_log.specs.Boards.{Grows}
use Rattle.proof_log.specs.Logs.{entry_at}
use Rattle.proof_log.specs.Diaries.{is_chain}
use Rattle.proof_log.specs.Stored.{LogValue, Stands}
use Rattle.proof_log.proofs.Growth.{grows_then}
use Rattle.proof_log.proofs.Standing.{stands_over}
use Rattle.cube_search.specs.Running.{valuation_of}
use Rattle.cube_workers.specs.Searched.{Problem, IsProblem, problem, problem_of}
use Rattle.cube_workers.proofs.CubeEnds.{start_problem, tried_back, model_back}
use Rattle.cube_workers.proofs.Resting.{rests_by_steps, rests_prolonged, search_left}
use Rattle.cube_workers.proofs.alone.search_alone.Goals as goal

pub go_over-requires-clause-resting : goal.go_over-requires-clause-resting
go_over-requires-clause-resting c =
    rw (c.new-board.ensures.terms, c.new-board.ensures.log) (rests_by_steps c.args.terms.now.nodes c.args.log c.args.kept.now.search c.requires.stands c.requires.resting)

pub go_over-requires-clause-known : goal.go_over-requires-clause-known
go_over-requires-clause-known c = λ p among.
    let before = c.requires.problem.positions p among in
    let same = ap (λ (l : LogValue). length l.entries) c.new-board.ensures.log in
    omega (arith, before, same)

pub go_over-requires-clause-plain : goal.go_over-requires-clause-plain
go_over-requires-clause-plain c = λ p among.
    ap (λ (l : LogValue). is_chain (entry_at l.entries p)) c.new-board.ensures.log ∙ c.requires.problem.plain p among

pub go_over-requires-clause-below : goal.go_over-requires-clause-below
go_over-requires-clause-below c = λ p among. let before = c.requires.problem.positions p among in omega (arith, before, c.len-from.ensures)

pub go_over-requires-clause-from : goal.go_over-requires-clause-from
go_over-requires-clause-from c = c.len-from.ensures ∙ ap (λ (l : LogValue). suc (length l.entries)) (sym c.new-board.ensures.log)

pub go_over-requires-clause-stands : goal.go_over-requires-clause-stands
go_over-requires-clause-stands c =
    rw (c.new-board.ensures.terms, c.new-board.ensures.log) (stands_over c.args.terms.now.nodes c.args.log c.requires.stands).steps

pub go_over-requires-clause-listed : goal.go_over-requires-clause-listed
go_over-requires-clause-listed c = rw c.new-board.ensures.terms c.requires.listed

pub search_cubes-requires-clause-searching : goal.search_cubes-requires-clause-searching
search_cubes-requires-clause-searching c =
    let begun = start_problem c.go_over.new.self.search c.new-board.result c.args.terms.now.nodes c.args.log.entries c.args.check.now.positions.now c.args.check.now.tree.now c.args.check.now.assumed.now c.args.check.now.settings.budget (ap (λ (t : TermsValue). t.nodes) c.new-board.ensures.terms) c.in-Ok.ensures.opening (c.in-Ok.ensures.from ∙ c.len-from.ensures) in
    record {
      search = c.in-Ok.ensures.search;
      problem =
          subst (λ (l : LogValue). IsProblem (problem_of c.go_over.new.self.search c.new-board.result c.args.check.now.tree.now c.args.check.now.assumed.now c.args.check.now.settings.budget) l.entries) (sym c.new-board.ensures.log)
          (subst (λ p. IsProblem p c.args.log.entries) (sym begun) c.requires.problem);
    }

pub conclude-requires-clause-tried : goal.conclude-requires-clause-tried
conclude-requires-clause-tried c =
    let begun = start_problem c.go_over.new.self.search c.new-board.result c.args.terms.now.nodes c.args.log.entries c.args.check.now.positions.now c.args.check.now.tree.now c.args.check.now.assumed.now c.args.check.now.settings.budget (ap (λ (t : TermsValue). t.nodes) c.new-board.ensures.terms) c.in-Ok.ensures.opening (c.in-Ok.ensures.from ∙ c.len-from.ensures) in (
      problem c.args.terms.now.nodes c.args.log.entries c.args.check.now.positions.now c.args.check.now.tree.now c.args.check.now.assumed.now c.args.check.now.settings.budget,
      refl,
      refl,
      tried_back _ (problem c.args.terms.now.nodes c.args.log.entries c.args.check.now.positions.now c.args.check.now.tree.now c.args.check.now.assumed.now c.args.check.now.settings.budget) _ c.into_log-log.result.entries _ _ _ _ _
          (c.in-Ok-search_cubes.ensures.same ∙ begun) (ap (λ (l : LogValue). l.entries) c.into_log-log.ensures.log) c.if-found.false c.in-Ok-search_cubes.ensures.tried,
    )

pub returns-then-found-clause-grows : goal.returns-then-found-clause-grows
returns-then-found-clause-grows c =
    subst (λ (l : LogValue). Grows l.entries c.into_log-log.result.entries) c.new-board.ensures.log (subst (λ (l : LogValue). Grows c.new-board.result.log.entries l.entries) (sym c.into_log-log.ensures.log) c.in-Ok-search_cubes.ensures.grows)

pub returns-then-found-clause-resting : goal.returns-then-found-clause-resting
returns-then-found-clause-resting c =
    rw c.into_log-log.ensures.log (search_left c.search_cubes.new.board.terms.nodes c.search_cubes.new.board.log c.search_cubes.new.search (subst (Stands c.search_cubes.new.board.terms.nodes) c.into_log-log.ensures.log c.into_log-log.ensures.stands) c.in-Ok-search_cubes.ensures.searching.search)

pub returns-then-found-clause-found : goal.returns-then-found-clause-found
returns-then-found-clause-found c =
    let begun = start_problem c.go_over.new.self.search c.new-board.result c.args.terms.now.nodes c.args.log.entries c.args.check.now.positions.now c.args.check.now.tree.now c.args.check.now.assumed.now c.args.check.now.settings.budget (ap (λ (t : TermsValue). t.nodes) c.new-board.ensures.terms) c.in-Ok.ensures.opening (c.in-Ok.ensures.from ∙ c.len-from.ensures) in
    model_back _ (problem c.args.terms.now.nodes c.args.log.entries c.args.check.now.positions.now c.args.check.now.tree.now c.args.check.now.assumed.now c.args.check.now.settings.budget) _ c.into_log-log.result.entries (valuation_of c.search_cubes.new.search) _ _
    (c.in-Ok-search_cubes.ensures.same ∙ begun) (ap (λ (l : LogValue). l.entries) c.into_log-log.ensures.log) c.if-found.true c.in-Ok-search_cubes.ensures.tried

pub returns-clause-grows : goal.returns-clause-grows
returns-clause-grows c =
    let first : Grows c.args.log.entries c.into_log-log.result.entries =
    subst (λ (l : LogValue). Grows l.entries c.into_log-log.result.entries) c.new-board.ensures.log (subst (λ (l : LogValue). Grows c.new-board.result.log.entries l.entries) (sym c.into_log-log.ensures.log) c.in-Ok-search_cubes.ensures.grows) in
    grows_then c.args.log.entries c.into_log-log.result.entries c.conclude.new.log.entries first c.in-Ok-conclude.ensures.grows

pub returns-clause-resting : goal.returns-clause-resting
returns-clause-resting c =
    let nodes = c.search_cubes.new.board.terms.nodes in
    let before = c.into_log-log.ensures.stands in
    let begun = start_problem c.go_over.new.self.search c.new-board.result c.args.terms.now.nodes c.args.log.entries c.args.check.now.positions.now c.args.check.now.tree.now c.args.check.now.assumed.now c.args.check.now.settings.budget (ap (λ (t : TermsValue). t.nodes) c.new-board.ensures.terms) c.in-Ok.ensures.opening (c.in-Ok.ensures.from ∙ c.len-from.ensures) in
    let same = ap (λ (p : Problem). p.nodes) (c.in-Ok-search_cubes.ensures.same ∙ begun) in
    rests_prolonged nodes c.into_log-log.result c.conclude.new.log c.search_cubes.new.search before (subst (λ n. Stands n c.conclude.new.log) (sym same) c.in-Ok-conclude.ensures.stands) c.in-Ok-conclude.ensures.grows
    (rw c.into_log-log.ensures.log (search_left nodes c.search_cubes.new.board.log c.search_cubes.new.search (subst (Stands nodes) c.into_log-log.ensures.log before) c.in-Ok-search_cubes.ensures.searching.search))

pub returns-clause-found : goal.returns-clause-found
returns-clause-found c =
    let begun = start_problem c.go_over.new.self.search c.new-board.result c.args.terms.now.nodes c.args.log.entries c.args.check.now.positions.now c.args.check.now.tree.now c.args.check.now.assumed.now c.args.check.now.settings.budget (ap (λ (t : TermsValue). t.nodes) c.new-board.ensures.terms) c.in-Ok.ensures.opening (c.in-Ok.ensures.from ∙ c.len-from.ensures) in
    c.in-Ok-conclude.ensures.found (problem c.args.terms.now.nodes c.args.log.entries c.args.check.now.positions.now c.args.check.now.tree.now c.args.check.now.assumed.now c.args.check.now.settings.budget) (valuation_of c.search_cubes.new.search) refl refl
    (tried_back _ (problem c.args.terms.now.nodes c.args.log.entries c.args.check.now.positions.now c.args.check.now.tree.now c.args.check.now.assumed.now c.args.check.now.settings.budget) _ c.into_log-log.result.entries _ _ _ _ _
    (c.in-Ok-search_cubes.ensures.same ∙ begun) (ap (λ (l : LogValue). l.entries) c.into_log-log.ensures.log) c.if-found.false c.in-Ok-search_cubes.ensures.tried)

pub returns-in_default-conclude-clause-lost : goal.returns-in_default-conclude-clause-lost
returns-in_default-conclude-clause-lost c =
    let first : Grows c.args.log.entries c.into_log-log.result.entries =
    subst (λ (l : LogValue). Grows l.entries c.into_log-log.result.entries) c.new-board.ensures.log (subst (λ (l : LogValue). Grows c.new-board.result.log.entries l.entries) (sym c.into_log-log.ensures.log) c.in-Ok-search_cubes.ensures.grows) in
    (c.conclude.ensures.stands, grows_then c.args.log.entries c.into_log-log.result.entries c.conclude.new.log.entries first c.conclude.ensures.grows)
