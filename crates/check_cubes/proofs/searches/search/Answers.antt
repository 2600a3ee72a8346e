use Rattle.std.proofs.Common.{◌≤◌, suc, length, ◌∙◌, arith}
use Rattle.std.proofs.lemmas.Bool.{MatchBool-at_true, MatchBool-at_false}
use Rattle.proof_log.proofs.Standing.{stands_over}
use Rattle.check_cubes.specs.Searches.{limits_of}
use Rattle.check_cubes.proofs.Searched.{is_search, no_selector, no_bit}
use Rattle.check_cubes.proofs.searches.search.Goals as goal

pub returns-then-not-branch : goal.returns-then-not-branch
returns-then-not-branch c =
    let s = c.args.state.now in
    no_selector s c.args.log.now (stands_over s.terms.nodes c.args.log.now c.requires) (limits_of c.args.limits) c.args.cube c.args.start c.live.result.now c.live.ensures.live
    (MatchBool-at_false _ _ c.if-not-branch.true c.in_ok-push_selectors.ensures)

pub returns-then-not-branch-2 : goal.returns-then-not-branch-2
returns-then-not-branch-2 c =
    let s = c.args.state.now in
    no_bit s c.args.log.now (stands_over s.terms.nodes c.args.log.now c.requires) (limits_of c.args.limits) c.args.cube c.args.start c.assumptions.result.now c.assumptions.ensures.assumptions
    (MatchBool-at_false _ _ c.if-not-branch-2.true c.in_ok-push_assumed.ensures)

pub returns : goal.returns
returns c =
    let s = c.args.state.now in
    let late = c.if-start-len.false in
    let len = c.len.ensures in
    let within : c.args.start ≤ suc (length c.args.log.now.entries) = omega (arith, late, len) in
    is_search s c.args.log.now (stands_over s.terms.nodes c.args.log.now c.requires) (limits_of c.args.limits) c.args.cube c.args.start
    c.as_slice.result.now c.in-Some.given.items c.push_selectors.new.given.items c.push_assumed.new.given.items c.live.result.now c.assumptions.result.now c.live.ensures.live c.assumptions.ensures.assumptions
    (c.as_slice.ensures.value ∙ c.in_ok-variables.ensures.variables) within
    (MatchBool-at_true _ _ c.if-not-are_added.false c.are_added.ensures)
    (rw c.in-Some.is at c.in_ok-given.ensures)
    (MatchBool-at_true _ _ c.if-not-branch.false c.in_ok-push_selectors.ensures)
    (MatchBool-at_true _ _ c.if-not-branch-2.false c.in_ok-push_assumed.ensures)
