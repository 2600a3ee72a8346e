use Rattle.std.proofs.Common.{◌+◌, ◌*◌, ◌<◌, [], ◌∷◌, length, arith, length-append}
use Rattle.proof_log.specs.Logs.{clause_at}
use Rattle.proof_log.proofs.Growth.{grows_then}
use Rattle.cube_tree.proofs.Growing.{finds_more}
use Rattle.cube_tree.proofs.Levels.{have_later, have_more, level_more}
use Rattle.cube_tree.proofs.joining.join_pairs.Goals as goal

pub returns-in_err-place-clause-grows : goal.returns-in_err-place-clause-grows
returns-in_err-place-clause-grows c = grows_then c.args.log.now.entries c.loop-m.log.entries c.resolve.new.log.entries c.loop-m.invariant.grows c.resolve.ensures.grows

pub returns-in_err-push-clause-grows : goal.returns-in_err-push-clause-grows
returns-in_err-push-clause-grows c = grows_then c.args.log.now.entries c.loop-m.log.entries c.resolve.new.log.entries c.loop-m.invariant.grows c.resolve.ensures.grows

pub loop-m-preserved : goal.loop-m-preserved
loop-m-preserved c =
    let i = c.loop-m.invariant in
    let nodes = c.args.terms.now.nodes in
    let old = clause_at c.args.log.now.clauses in
    let now = clause_at c.loop-m.log.clauses in
    let next = clause_at c.resolve.new.log.clauses in
    let lt : 2 * c.loop-m.m + 1 < length c.args.places.now = omega (arith, c.loop-m-test.true) in
    let since = finds_more nodes c.args.log.now c.loop-m.log c.requires.stands i.stands i.grows in
    let last = finds_more nodes c.loop-m.log c.resolve.new.log i.stands c.resolve.ensures.stands c.resolve.ensures.grows in
    rw c.in_ok-push.ensures.items (record {
      stands = c.resolve.ensures.stands;
      grows = grows_then c.args.log.now.entries c.loop-m.log.entries c.resolve.new.log.entries i.grows c.resolve.ensures.grows;
      clauses = have_later now next c.args.places.now last i.clauses;
      found = have_more next c.loop-m.joined.items c.in_ok-place.place (have_later now next c.loop-m.joined.items last i.found) c.in_ok-place.ensures.found;
      len = omega (arith, i.len, length-append c.loop-m.joined.items (c.in_ok-place.place ∷ []));
      closing = λ assumed rest all. level_more old now next assumed c.args.variable rest c.args.places.now c.loop-m.joined.items c.loop-m.m c.in_ok-place.place _ _ lt i.len since last (c.in_ok-place.ensures.closes assumed) all (i.closing assumed rest all);
    })
