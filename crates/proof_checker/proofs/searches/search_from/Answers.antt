use Rattle.std.proofs.Common.{◌≤◌, suc, length, ap, ◌∙◌, arith}
use Rattle.std.proofs.lemmas.Bool.{MatchBool-at_true, MatchBool-at_false}
use Rattle.faded_log.specs.Faded.{FadedValue}
use Rattle.proof_log.specs.Stored.{LogValue}
use Rattle.check_cubes.specs.Searches.{limits_of}
use Rattle.proof_checker.proofs.Searching.{not_within, not_added, searched}
use Rattle.proof_checker.proofs.searches.search_from.Goals as goal

pub search-requires : goal.search-requires
search-requires c = rw c.base-2.ensures c.requires.base

pub returns-then-not-are_added : goal.returns-then-not-are_added
returns-then-not-are_added c = not_added (limits_of c.args.limits) c.args.state.now c.args.log.now.entries c.args.cube c.args.start (MatchBool-at_false _ _ c.if-not-are_added.true c.are_added.ensures)

pub returns : goal.returns
returns c =
    let s = c.args.state.now in
    let late = c.if-start-len.false in
    let len = c.len.ensures in
    let within : c.args.start ≤ suc (length c.args.log.now.entries) = omega (arith, late, len) in
    searched (limits_of c.args.limits) s c.args.log.now c.args.cube c.args.start c.requires c.len-end.result (c.len-end.ensures ∙ ap (λ (b : LogValue). suc (length b.entries)) c.base.ensures) within
    (MatchBool-at_true _ _ c.if-not-are_added.false c.are_added.ensures) c.search.result (rw c.base-2.ensures at c.search.ensures)
