use Rattle.std.proofs.Common.{◌≡◌, ◌<◌, length, get_or, flat_map, refl, sym, ap, ◌∙◌, subst}
use Rattle.std.specs.Prelude.{All}
use Rattle.std.proofs.lemmas.List.Elements.{Contains-get_or}
use Rattle.std.proofs.lemmas.List.Sorted.{IsNonDecreasingBy-from_sort}
use Rattle.smt_terms.specs.Terms.{TermsValue}
use Rattle.proof_log.proofs.Standing.{stands_over}
use Rattle.check_cubes.specs.Searches.{limits_of, declared_variables}
use Rattle.check_cubes.proofs.Splitting.{no_variables, variables_rise, cut_split, still_variables}
use Rattle.check_cubes.proofs.cubes.cube_variables.Goals as goal

pub returns-then-limits-eq0-clause-rise : goal.returns-then-limits-eq0-clause-rise
returns-then-limits-eq0-clause-rise c =
    let s = c.args.state.now in
    variables_rise s.terms.nodes c.args.log.now (stands_over s.terms.nodes c.args.log.now c.requires) (limits_of c.args.limits) s c.new.result.items
    (c.new.ensures.items ∙ sym (no_variables (limits_of c.args.limits) s s.terms.nodes c.args.log.now.entries c.if-limits-eq0.true))

pub reach_by_arguments-requires : goal.reach_by_arguments-requires
reach_by_arguments-requires c = record {
  held = rw c.as_slice.ensures.value (subst (λ (v : TermsValue). All (λ t. t < length v.nodes) c.in_ok-roots.roots.items) (sym c.terms-terms.ensures.terms) c.in_ok-roots.ensures.held);
}

pub declared_variables-requires : goal.declared_variables-requires
declared_variables-requires c = record {
  held = rw c.terms.ensures.terms (λ k d lt. c.in_ok-reach_by_arguments.ensures.held (get_or c.reach_by_arguments.new.reached k d) (Contains-get_or c.reach_by_arguments.new.reached k d lt));
}

pub returns-clause-variables : goal.returns-clause-variables
returns-clause-variables c =
    let s = c.args.state.now in
    let sorted = c.sort_unstable.new.self.items in
    let own = declared_variables c.terms-terms.result.now.nodes c.args.log.now.bits in
    let found : c.in_ok-variables.variables.items ≡ flat_map own c.reach_by_arguments.new.reached = c.in_ok-variables.ensures.variables ∙ ap (flat_map own) c.terms.ensures.terms in
    cut_split s.terms.nodes c.args.log.now (stands_over s.terms.nodes c.args.log.now c.requires) (limits_of c.args.limits) s c.terms-terms.result.now c.as_slice.result.now c.reach_by_arguments.new.reached c.in_ok-variables.variables.items sorted c.truncate.new.self.items
    c.terms-terms.ensures.state refl c.terms-terms.ensures.terms c.reach_by_arguments.ensures.terms (c.as_slice.ensures.value ∙ c.in_ok-roots.ensures.roots) (subst (All (λ t. t < length s.terms.nodes)) c.in_ok-roots.ensures.roots c.in_ok-roots.ensures.held)
    c.in_ok-reach_by_arguments.ensures.reach found c.sort_unstable.ensures.permutation (IsNonDecreasingBy-from_sort (λ x. x) sorted c.sort_unstable.ensures.sorted) c.truncate.ensures.items

pub returns-clause-rise : goal.returns-clause-rise
returns-clause-rise c =
    let s = c.args.state.now in
    variables_rise s.terms.nodes c.args.log.now (stands_over s.terms.nodes c.args.log.now c.requires) (limits_of c.args.limits) s c.truncate.new.self.items (returns-clause-variables c)

pub returns-clause-each : goal.returns-clause-each
returns-clause-each c = still_variables c.in_ok-variables.variables.items c.sort_unstable.new.self.items c.truncate.new.self.items c.args.limits.cubes c.in_ok-variables.ensures.each c.sort_unstable.ensures.permutation c.truncate.ensures.items
