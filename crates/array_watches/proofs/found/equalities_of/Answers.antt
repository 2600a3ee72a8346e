use Rattle.std.proofs.Common.{ap, ◌∙◌, subst}
use Rattle.std.specs.Prelude.{Contains}
use Rattle.std.specs.List.{filter}
use Rattle.std.proofs.lemmas.List.Sorted.{IsNonDecreasingBy-from_sort}
use Rattle.array_watches.specs.Reaching.{reached}
use Rattle.array_watches.specs.Needed.{is_array_equality}
use Rattle.array_watches.proofs.Reached.{reached_only, reached_rises, reached_all, all_held}
use Rattle.array_watches.proofs.Counting.{sorted_is, all_of}
use Rattle.array_watches.proofs.found.equalities_of.Goals as goal

pub equalities_among-requires : goal.equalities_among-requires
equalities_among-requires c =
    let list = c.len-count.ensures.terms.list in
    all_of c.terms.result.now _ (λ t k. all_held c.args.terms.now.nodes list c.args.roots.now c.requires.held t (c.requires.reach.only t (subst (λ l. Contains l t) c.terms.ensures.terms k)))

pub returns : goal.returns
returns c =
    let list = c.len-count.ensures.terms.list in
    let walk = c.requires.reach in
    sorted_is (is_array_equality c.args.terms.now.nodes) c.args.reached.now c.in_ok-found.found.items c.sort_unstable.new.self.items (reached c.args.terms.now.nodes c.args.roots.now)
    walk.once (reached_rises c.args.terms.now.nodes list c.args.roots.now)
    (λ t. ((λ k. walk.all t (reached_only c.args.terms.now.nodes list c.args.roots.now t k)), (λ k. reached_all c.args.terms.now.nodes list c.args.roots.now c.requires.held t (walk.only t k))))
    (c.in_ok-found.ensures ∙ ap (filter (is_array_equality c.args.terms.now.nodes)) c.terms.ensures.terms)
    c.sort_unstable.ensures.permutation (IsNonDecreasingBy-from_sort (λ x. x) c.sort_unstable.new.self.items c.sort_unstable.ensures.sorted)
