use Rattle.std.proofs.Common.{refl, ◌∙◌, subst}
use Rattle.smt_values.specs.Held.{interpretation_of}
use Rattle.script_state.proofs.Roots.{all_scripted}
use Rattle.smt_terms.specs.Terms.{TermsValue}
use Rattle.proof_log.specs.Stored.{Stands}
use Rattle.theory_search.specs.Theories.{AreEnough, IsWalkableLog}
use Rattle.theory_cubes.specs.Searched.{AreApart, HasModel}
use Rattle.theory_cubes.specs.declared.outcome.Outcome.TheVariants as interpreted
use Rattle.check_cubes.specs.Searches.{limits_of}
use Rattle.smt_session.proofs.Concluding.{theory_problem, is_theory_problem, interpreted_as, model_checked, over_roots, refuted_with_lemmas, spent_with_lemmas}
use Rattle.smt_session.proofs.Kept.{kept_over}
use Rattle.smt_session.proofs.Modeling.{is_model}
use Rattle.smt_session.proofs.Readying.{apart, enough_reached, walkable}
use Rattle.smt_session.proofs.finding.interpret.Goals as goal

pub search_theories-requires-clause-listed : goal.search_theories-requires-clause-listed
search_theories-requires-clause-listed c = rw c.terms.ensures.terms c.requires.kept.session.state.terms

pub search_theories-requires-clause-problem : goal.search_theories-requires-clause-problem
search_theories-requires-clause-problem c =
    let asked = c.args.asked.now in
    let enough = c.requires.ready.1.enough in
    rw c.terms.ensures.terms
    (is_theory_problem c.args.state.now c.args.workspace.now.log c.requires.kept.session enough.reached asked.positions.now enough.opening asked.tree.now asked.assumed.now c.args.limits.budget c.requires.rise c.requires.given c.as_slice.result.now)

pub search_theories-requires-clause-walkable : goal.search_theories-requires-clause-walkable
search_theories-requires-clause-walkable c =
    let s = c.args.state.now in
    let log = c.args.workspace.now.log in
    over_roots (λ nodes live. IsWalkableLog nodes log.entries live) s c.terms.result.now c.as_slice.result.now c.terms.ensures.terms (c.as_slice.ensures.value ∙ c.in_ok-live.ensures)
    (walkable c.requires.ready.0 s log c.args.asked.now.positions.now c.requires.kept.session c.requires.ready.1 c.sessions_may_walk.ensures)

pub search_theories-requires-clause-enough : goal.search_theories-requires-clause-enough
search_theories-requires-clause-enough c =
    let s = c.args.state.now in
    let log = c.args.workspace.now.log in
    let positions = c.args.asked.now.positions.now in
    over_roots (λ nodes live. AreEnough nodes log.entries live positions) s c.terms.result.now c.as_slice.result.now c.terms.ensures.terms (c.as_slice.ensures.value ∙ c.in_ok-live.ensures)
    (enough_reached c.requires.ready.0 s log positions c.requires.kept.session c.requires.ready.1)

pub search_theories-requires-clause-apart : goal.search_theories-requires-clause-apart
search_theories-requires-clause-apart c =
    let s = c.args.state.now in
    let log = c.args.workspace.now.log in
    let positions = c.args.asked.now.positions.now in
    over_roots (λ nodes live. AreApart nodes log.entries live positions) s c.terms.result.now c.as_slice.result.now c.terms.ensures.terms (c.as_slice.ensures.value ∙ c.in_ok-live.ensures)
    (apart c.requires.ready.0 s log positions c.requires.kept.session c.requires.ready.1)

pub returns-in-Unsat-clause-checked : goal.returns-in-Unsat-clause-checked
returns-in-Unsat-clause-checked c =
    let asked = c.args.asked.now in
    refuted_with_lemmas (limits_of c.args.limits) c.args.state.now c.terms.result.now c.args.workspace.now.log c.search_theories.new.workspace.log c.as_slice.result.now asked.positions.now asked.tree.now asked.assumed.now c.args.limits.budget c.in_ok-found.found
    c.terms.ensures.terms c.requires.kept.session.stands c.requires.given c.in_ok-found.ensures.adds c.in_ok-found.ensures.stands c.in_ok-found.ensures.found c.in-Unsat.at c.in-Unsat.is

pub returns-in-Unsat-clause-kept : goal.returns-in-Unsat-clause-kept
returns-in-Unsat-clause-kept c =
    kept_over c.args.state.now c.terms.result.now c.args.workspace.now c.search_theories.new.workspace c.terms.ensures.terms c.requires.kept c.in_ok-found.ensures.adds c.in_ok-found.ensures.stands c.in_ok-found.ensures.steps c.in_ok-found.ensures.resting

pub written_model-requires : goal.written_model-requires
written_model-requires c =
    let s = c.args.state.now in
    let asked = c.args.asked.now in
    let old = c.args.workspace.now.log in
    let new = c.search_theories.new.workspace.log in
    let stands = subst (λ (t : TermsValue). Stands t.nodes new) c.terms.ensures.terms c.in_ok-found.ensures.stands in
    let m = interpretation_of c.in-Sat.model in
    let has : HasModel (theory_problem s.terms.nodes old.entries c.as_slice.result.now asked.positions.now asked.tree.now asked.assumed.now c.args.limits.budget) new.entries m =
    interpreted_as (limits_of c.args.limits) s c.terms.result.now old new c.as_slice.result.now asked.positions.now asked.tree.now asked.assumed.now c.args.limits.budget c.in_ok-found.found
    c.terms.ensures.terms c.requires.kept.session.stands c.requires.given c.in_ok-found.ensures.adds c.in_ok-found.ensures.stands c.in_ok-found.ensures.found (interpreted.Sat c.in-Sat.model) c.in-Sat.is in
    is_model s old new asked.positions.now asked.tree.now asked.assumed.now c.args.limits.budget c.requires.kept.session c.in_ok-found.ensures.adds stands c.requires.given c.requires.ready.1.enough.selectors m
    (subst (λ live. HasModel (theory_problem s.terms.nodes old.entries live asked.positions.now asked.tree.now asked.assumed.now c.args.limits.budget) new.entries m) (c.as_slice.ensures.value ∙ c.in_ok-live.ensures) has)
    (all_scripted s c.requires.kept.session.state)

pub returns-in-Sat-clause-checked : goal.returns-in-Sat-clause-checked
returns-in-Sat-clause-checked c =
    let new = c.search_theories.new.workspace.log in
    model_checked (limits_of c.args.limits) c.args.state.now c.args.workspace.now.log new c.in_ok-written_model-in-Sat.field-0
    (subst (λ (t : TermsValue). Stands t.nodes new) c.terms.ensures.terms c.in_ok-found.ensures.stands) c.in_ok-found.ensures.adds c.in_ok-written_model-in-Sat.ensures

pub returns-in-Sat-clause-kept : goal.returns-in-Sat-clause-kept
returns-in-Sat-clause-kept c =
    kept_over c.args.state.now c.terms.result.now c.args.workspace.now c.search_theories.new.workspace c.terms.ensures.terms c.requires.kept c.in_ok-found.ensures.adds c.in_ok-found.ensures.stands c.in_ok-found.ensures.steps c.in_ok-found.ensures.resting

pub returns-clause-checked : goal.returns-clause-checked
returns-clause-checked c =
    let asked = c.args.asked.now in
    spent_with_lemmas (limits_of c.args.limits) c.args.state.now c.terms.result.now c.args.workspace.now.log c.search_theories.new.workspace.log c.as_slice.result.now asked.positions.now asked.tree.now asked.assumed.now c.args.limits.budget c.in_ok-found.found
    c.terms.ensures.terms c.requires.kept.session.stands c.requires.given c.in_ok-found.ensures.adds c.in_ok-found.ensures.stands c.in_ok-found.ensures.found c.in-Unknown.diary refl c.requires.variables c.in-Unknown.is

pub returns-clause-kept : goal.returns-clause-kept
returns-clause-kept c =
    kept_over c.args.state.now c.terms.result.now c.args.workspace.now c.search_theories.new.workspace c.terms.ensures.terms c.requires.kept c.in_ok-found.ensures.adds c.in_ok-found.ensures.stands c.in_ok-found.ensures.steps c.in_ok-found.ensures.resting
