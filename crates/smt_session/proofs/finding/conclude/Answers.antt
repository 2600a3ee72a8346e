use Rattle.std.proofs.Common.{refl, sym, subst}
use Rattle.std.proofs.lemmas.Result.{IfOk-weaker}
use Rattle.accepted_proof.specs.Searching.{AreLimits}
use Rattle.check_cubes.specs.Searches as check_cubes
use Rattle.cube_workers.specs.Crews.{values_in}
use Rattle.cube_workers.specs.declared.outcome.Outcome.TheVariants as outcome
use Rattle.theory_cubes.proofs.Resting.{adds_chains}
use Rattle.smt_session.specs.Sessions.{limits_of, IsConcluded}
use Rattle.smt_session.proofs.Adding.{grows_by_chains, still_split}
use Rattle.smt_session.proofs.Concluding.{is_problem, concluded_then, refuted, spent, still_rise, found_as}
use Rattle.smt_session.proofs.Giving.{given_stays}
use Rattle.smt_session.proofs.Kept.{kept_over}
use Rattle.smt_session.proofs.Readying.{ready_stays}
use Rattle.smt_session.proofs.finding.conclude.Goals as goal

pub split-requires-clause-limits : goal.split-requires-clause-limits
split-requires-clause-limits g c = subst AreLimits (sym c.limits-limits.ensures) c.requires.settings.limits

pub search_cubes-requires-clause-listed : goal.search_cubes-requires-clause-listed
search_cubes-requires-clause-listed g c κs within = rw c.terms.ensures.terms c.requires.kept.session.state.terms

pub search_cubes-requires-clause-problem : goal.search_cubes-requires-clause-problem
search_cubes-requires-clause-problem g c κs within =
    let enough = c.requires.ready.1.enough in
    rw c.terms.ensures.terms
    (is_problem c.args.state.now c.args.workspace.now.log c.requires.kept.session enough.reached c.args.steps.now enough.opening c.in_ok-tree.tree c.args.given.now c.limits-limits.result.budget c.in_ok-tree.ensures.rise c.requires.given)

pub interpret-requires-clause-variables : goal.interpret-requires-clause-variables
interpret-requires-clause-variables g c = c.in_ok-tree.ensures.variables

pub interpret-requires-clause-rise : goal.interpret-requires-clause-rise
interpret-requires-clause-rise g c = c.in_ok-tree.ensures.rise

pub returns-then-may_walk-clause-checked : goal.returns-then-may_walk-clause-checked
returns-then-may_walk-clause-checked g c =
    let s = c.args.state.now in
    let old = c.args.workspace.now.log in
    let new = c.interpret.new.workspace.log in
    IfOk-weaker c.interpret.result _ _ (λ r h. subst (λ limits. IsConcluded limits s old new r) c.limits-limits.ensures h) c.interpret.ensures.checked

pub returns-in-Unsat-clause-checked : goal.returns-in-Unsat-clause-checked
returns-in-Unsat-clause-checked g c =
    let old = c.args.workspace.now.log in
    let new = c.search_cubes.new.workspace.log in
    refuted (limits_of c.args.settings) c.args.state.now c.terms.result.now old new c.args.steps.now c.in_ok-tree.tree c.args.given.now c.limits-limits.result.budget (values_in c.search_cubes.new.workspace.searches.items c.in_ok-outcome.by) c.in_ok-outcome.outcome
    c.terms.ensures.terms c.requires.kept.session.stands c.requires.given (adds_chains old.entries new.entries c.search_cubes.ensures.grows) c.search_cubes.ensures.stands c.in_ok-outcome.ensures.found c.in-Unsat.at c.in-Unsat.is

pub returns-in-Unsat-clause-kept : goal.returns-in-Unsat-clause-kept
returns-in-Unsat-clause-kept g c =
    let old = c.args.workspace.now in
    let new = c.search_cubes.new.workspace in
    kept_over c.args.state.now c.terms.result.now old new c.terms.ensures.terms c.requires.kept (adds_chains old.log.entries new.log.entries c.search_cubes.ensures.grows) c.search_cubes.ensures.stands c.search_cubes.ensures.steps c.search_cubes.ensures.resting

pub settle-requires-clause-kept : goal.settle-requires-clause-kept
settle-requires-clause-kept g c =
    let old = c.args.workspace.now in
    let new = c.search_cubes.new.workspace in
    kept_over c.args.state.now c.terms.result.now old new c.terms.ensures.terms c.requires.kept (adds_chains old.log.entries new.log.entries c.search_cubes.ensures.grows) c.search_cubes.ensures.stands c.search_cubes.ensures.steps c.search_cubes.ensures.resting

pub settle-requires-clause-ready : goal.settle-requires-clause-ready
settle-requires-clause-ready g c =
    let s = c.args.state.now in
    let old = c.args.workspace.now.log in
    let new = c.search_cubes.new.workspace.log in
    let grows = grows_by_chains s c.terms.result.now old new c.terms.ensures.terms c.search_cubes.ensures.grows c.search_cubes.ensures.stands in
    (c.requires.ready.0, ready_stays c.requires.ready.0 s old new c.args.steps.now c.requires.kept.session grows c.search_cubes.ensures.grows c.requires.ready.1)

pub settle-requires-clause-given : goal.settle-requires-clause-given
settle-requires-clause-given g c =
    let s = c.args.state.now in
    let old = c.args.workspace.now.log in
    let new = c.search_cubes.new.workspace.log in
    given_stays s old new c.args.given.now c.requires.kept.session.stands (grows_by_chains s c.terms.result.now old new c.terms.ensures.terms c.search_cubes.ensures.grows c.search_cubes.ensures.stands) c.requires.given

pub settle-requires-clause-variables : goal.settle-requires-clause-variables
settle-requires-clause-variables g c =
    let s = c.args.state.now in
    let old = c.args.workspace.now.log in
    let new = c.search_cubes.new.workspace.log in
    still_split (check_cubes.limits_of c.limits-limits.result) s s.terms.nodes old.entries new.entries c.in_ok-tree.tree (adds_chains old.entries new.entries c.search_cubes.ensures.grows) c.in_ok-tree.ensures.variables

pub settle-requires-clause-rise : goal.settle-requires-clause-rise
settle-requires-clause-rise g c =
    let s = c.args.state.now in
    let old = c.args.workspace.now.log in
    let new = c.search_cubes.new.workspace.log in
    still_rise s old new c.in_ok-tree.tree c.requires.kept.session.stands (grows_by_chains s c.terms.result.now old new c.terms.ensures.terms c.search_cubes.ensures.grows c.search_cubes.ensures.stands) c.in_ok-tree.ensures.rise

pub settle-requires-clause-model : goal.settle-requires-clause-model
settle-requires-clause-model g c =
    let old = c.args.workspace.now.log in
    let new = c.search_cubes.new.workspace.log in
    found_as (limits_of c.args.settings) c.args.state.now c.terms.result.now old new c.args.steps.now c.in_ok-tree.tree c.args.given.now c.limits-limits.result.budget (values_in c.search_cubes.new.workspace.searches.items c.in_ok-outcome.by) c.in_ok-outcome.outcome
    c.terms.ensures.terms c.requires.kept.session.stands c.requires.given (adds_chains old.entries new.entries c.search_cubes.ensures.grows) c.search_cubes.ensures.stands c.in_ok-outcome.ensures.found outcome.Sat c.in-Sat.is

pub returns-in-Sat-clause-checked : goal.returns-in-Sat-clause-checked
returns-in-Sat-clause-checked g c =
    let s = c.args.state.now in
    let old = c.args.workspace.now.log in
    let mid = c.search_cubes.new.workspace.log in
    let new = c.settle.new.workspace.log in
    let grows = grows_by_chains s c.terms.result.now old mid c.terms.ensures.terms c.search_cubes.ensures.grows c.search_cubes.ensures.stands in
    IfOk-weaker c.settle.result _ _ (λ r h. concluded_then (limits_of c.args.settings) s old mid new r grows (subst (λ limits. IsConcluded limits s mid new r) c.limits-limits.ensures h)) c.settle.ensures.checked

pub returns-clause-checked : goal.returns-clause-checked
returns-clause-checked g c =
    let old = c.args.workspace.now.log in
    let new = c.search_cubes.new.workspace.log in
    spent (limits_of c.args.settings) c.args.state.now c.terms.result.now old new c.args.steps.now c.in_ok-tree.tree c.args.given.now c.limits-limits.result.budget (values_in c.search_cubes.new.workspace.searches.items c.in_ok-outcome.by) c.in_ok-outcome.outcome
    c.terms.ensures.terms c.requires.kept.session.stands c.requires.given (adds_chains old.entries new.entries c.search_cubes.ensures.grows) c.search_cubes.ensures.stands c.in_ok-outcome.ensures.found c.in-Unknown.diary
    (check_cubes.limits_of c.limits-limits.result) c.limits-limits.ensures refl c.in_ok-tree.ensures.variables c.in-Unknown.is

pub returns-clause-kept : goal.returns-clause-kept
returns-clause-kept g c =
    let old = c.args.workspace.now in
    let new = c.search_cubes.new.workspace in
    kept_over c.args.state.now c.terms.result.now old new c.terms.ensures.terms c.requires.kept (adds_chains old.log.entries new.log.entries c.search_cubes.ensures.grows) c.search_cubes.ensures.stands c.search_cubes.ensures.steps c.search_cubes.ensures.resting
