use Rattle.std.proofs.Common.{◌≡◌, ◌<◌, List, length, sym, ap, ◌∙◌, subst, arith}
use Rattle.std.specs.Prelude.{Contains}
use Rattle.std.proofs.lemmas.Result.{err_from_is_err_and}
use Rattle.smt_terms.specs.declared.node.Node.{Node}
use Rattle.array_watches.specs.Reaching.{reached}
use Rattle.array_watches.specs.Needed.{is_array_equality, equalities, with_watches, with_index_words, watched}
use Rattle.array_watches.specs.Making.{AreSame, value_of, IsMaking}
use Rattle.array_watches.proofs.Members.{passed}
use Rattle.array_watches.proofs.Reached.{reached_only, reached_held, reached_all}
use Rattle.array_watches.proofs.Growing.{long_count, watches_long, index_words_long, same_terms, made_extends}
use Rattle.array_watches.proofs.Putting.{part_fails}
use Rattle.array_watches.proofs.Counting.{all_of}
use Rattle.array_watches.proofs.Steps.{whole}
use Rattle.array_watches.proofs.watches.make_all.Goals as goal

pub returns-in_err-reach_by_arguments : goal.returns-in_err-reach_by_arguments
returns-in_err-reach_by_arguments c =
    let p = err_from_is_err_and c.from_residual.result c.from_residual.ensures.1 in
    rw (p.1, p.2) (same_terms c.args.terms.now)

pub returns-in_err-equalities : goal.returns-in_err-equalities
returns-in_err-equalities c =
    let p = err_from_is_err_and c.from_residual-in_err-equalities.result c.from_residual-in_err-equalities.ensures.1 in
    rw (p.1, p.2) (same_terms c.args.terms.now)

pub make_each-requires : goal.make_each-requires
make_each-requires c =
    let list = c.len-count.ensures.terms.list in
    let is = c.as_slice.ensures.value ∙ c.in_ok-equalities.ensures in
    record {
      held = all_of c.as_slice.result.now _ (λ t k. reached_held c.args.terms.now.nodes list c.args.roots.now t (passed (is_array_equality c.args.terms.now.nodes) (reached c.args.terms.now.nodes c.args.roots.now) t (subst (λ l. Contains l t) is k)).0);
      arrays = all_of c.as_slice.result.now _ (λ t k. (passed (is_array_equality c.args.terms.now.nodes) (reached c.args.terms.now.nodes c.args.roots.now) t (subst (λ l. Contains l t) is k)).1);
    }

pub returns-in_err-make_each : goal.returns-in_err-make_each
unfolding watched
returns-in_err-make_each c =
    let is = c.as_slice.ensures.value ∙ c.in_ok-equalities.ensures in
    let eqs = equalities c.args.terms.now.nodes c.args.roots.now in
    let mid = with_watches c.args.terms.now.nodes eqs in
    let p = err_from_is_err_and c.from_residual-in_err-make_each.result c.from_residual-in_err-make_each.ensures.1 in
    rw (p.1, p.2)
    (part_fails mid (with_index_words mid (reached c.args.terms.now.nodes c.args.roots.now) 128) c.args.terms.now c.args.terms.now c.in_err-make_each.field-0.0 c.make_each.new.terms (same_terms c.args.terms.now)
    (rw (← is) c.in_err-make_each.ensures)
    (index_words_long mid (reached c.args.terms.now.nodes c.args.roots.now) 128))

pub make_index_words-requires : goal.make_index_words-requires
make_index_words-requires c =
    let is = c.as_slice.ensures.value ∙ c.in_ok-equalities.ensures in
    let list = c.len-count.ensures.terms.list in
    let le = long_count c.args.terms.now.nodes (with_watches c.args.terms.now.nodes c.as_slice.result.now) (watches_long c.args.terms.now.nodes c.as_slice.result.now) in
    let nodes = ap (λ t. length t.nodes) c.in_ok-make_each.ensures in
    record {
      held = all_of c.terms.result.now (λ t. t < length c.make_each.new.terms.nodes) (λ t k.
          (let lt = c.in_ok-reach_by_arguments.ensures.held t (subst (λ l. Contains l t) c.terms.ensures.terms k) in
          omega (arith, lt, le, nodes)));
    }

pub returns : goal.returns
unfolding watched
returns c =
    let is = c.as_slice.ensures.value ∙ c.in_ok-equalities.ensures in
    let list = c.len-count.ensures.terms.list in
    let eqs = equalities c.args.terms.now.nodes c.args.roots.now in
    let mid = with_watches c.args.terms.now.nodes eqs in
    let ts = reached c.args.terms.now.nodes c.args.roots.now in
    let walk = c.in_ok-reach_by_arguments.ensures.reach in
    let made : c.make_each.new.terms ≡ value_of mid c.args.terms.now.limit = c.in_ok-make_each.ensures ∙ ap (λ l. value_of (with_watches c.args.terms.now.nodes l) c.args.terms.now.limit) is in
    let same : AreSame ts c.terms.result.now = λ t. (
      (λ k. subst (λ l. Contains l t) (sym c.terms.ensures.terms) (walk.all t (reached_only c.args.terms.now.nodes list c.args.roots.now t k))),
      (λ k. reached_all c.args.terms.now.nodes list c.args.roots.now c.requires.held t (walk.only t (subst (λ l. Contains l t) c.terms.ensures.terms k))),
    ) in
    whole (with_index_words mid ts 128) c.args.terms.now c.make_each.new.terms c.make_index_words.new.terms c.make_index_words.result
    (made_extends c.args.terms.now c.make_each.new.terms mid made (watches_long c.args.terms.now.nodes eqs))
    (subst (λ (l : List Node). IsMaking (with_index_words l ts 128) c.make_index_words.result c.make_each.new.terms c.make_index_words.new.terms) (ap (λ t. t.nodes) made) (c.make_index_words.ensures ts same))
