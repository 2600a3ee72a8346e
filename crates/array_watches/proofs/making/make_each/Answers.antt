use Rattle.std.proofs.Common.{get_or, refl, arith}
use Rattle.std.proofs.lemmas.Result.{err_from_is_err_and}
use Rattle.theory_terms.specs.Shapes.{shape_at}
use Rattle.array_watches.specs.Needed.{with_watch_by, with_watches}
use Rattle.array_watches.proofs.Growing.{IsLonger, long_count, watch_by_long, same_terms, more_terms, made_extends}
use Rattle.array_watches.proofs.Putting.{part_fails}
use Rattle.array_watches.proofs.Steps.{equality_longer, watches_next, part_long, watches_end}
use Rattle.array_watches.proofs.making.make_each.Goals as goal

pub loop-equality-init : goal.loop-equality-init
loop-equality-init c = record { rest = refl; grown = same_terms c.args.terms.now }

pub make_watch-requires : goal.make_watch-requires
make_watch-requires c =
    let i = c.loop-equality.invariant in
    let lt = c.requires.held c.loop-equality.equality-index 0 c.loop-equality-test.true in
    let long : IsLonger c.args.terms.now.nodes c.loop-equality.terms.nodes = (i.grown.more, i.grown.nodes) in
    let le = long_count c.args.terms.now.nodes c.loop-equality.terms.nodes long in
    record {
      held = omega (arith, lt, le);
      arrays = equality_longer c.args.terms.now.nodes c.loop-equality.terms.nodes c.len-count.ensures.terms.list long (get_or c.args.equalities.now c.loop-equality.equality-index 0) lt
          (c.requires.arrays c.loop-equality.equality-index 0 c.loop-equality-test.true);
    }

pub loop-equality-preserved : goal.loop-equality-preserved
loop-equality-preserved c =
    let i = c.loop-equality.invariant in
    let cur = c.loop-equality.terms in
    let part = with_watch_by cur.nodes (shape_at cur.nodes (get_or c.args.equalities.now c.loop-equality.equality-index 0)) in
    record {
      rest = watches_next (with_watches c.args.terms.now.nodes c.args.equalities.now) c.args.equalities.now c.loop-equality.equality-index 0 cur c.loop-equality-test.true i.rest c.make_watch.new.terms c.in_ok-make_watch.ensures;
      grown = more_terms c.args.terms.now cur c.make_watch.new.terms i.grown
          (made_extends cur c.make_watch.new.terms part c.in_ok-make_watch.ensures (watch_by_long cur.nodes (shape_at cur.nodes (get_or c.args.equalities.now c.loop-equality.equality-index 0))));
    }

pub returns-in_err-make_watch : goal.returns-in_err-make_watch
returns-in_err-make_watch c =
    let i = c.loop-equality.invariant in
    let cur = c.loop-equality.terms in
    let goal = with_watches c.args.terms.now.nodes c.args.equalities.now in
    let p = err_from_is_err_and c.from_residual.result c.from_residual.ensures.1 in
    rw (p.1, p.2)
    (part_fails (with_watch_by cur.nodes (shape_at cur.nodes (get_or c.args.equalities.now c.loop-equality.equality-index 0))) goal c.args.terms.now cur c.in_err-make_watch.field-0.0 c.make_watch.new.terms i.grown c.in_err-make_watch.ensures
    (part_long goal c.args.equalities.now c.loop-equality.equality-index 0 cur c.loop-equality-test.true i.rest))

pub returns : goal.returns
returns c =
    let i = c.loop-equality.invariant in
    watches_end (with_watches c.args.terms.now.nodes c.args.equalities.now) c.args.equalities.now c.loop-equality.equality-index c.args.terms.now c.loop-equality.terms c.loop-equality-test.false i.rest i.grown
