use Rattle.std.proofs.Common.{◌≡◌, ◌<◌, List, ℕ, length, sym, ap, ◌∙◌, subst}
use Rattle.std.specs.Prelude.{All}
use Rattle.std.proofs.lemmas.List.Sorted.{IsNonDecreasingBy-from_sort}
use Rattle.smt_terms.specs.Nodes.{node_at}
use Rattle.term_reach.specs.Reach.{arguments, IsReach}
use Rattle.smt_build.proofs.Images.{arguments_within, are_rising}
use Rattle.smt_build.proofs.definition.rising.Goals as goal

pub reach_by_arguments-requires : goal.reach_by_arguments-requires
reach_by_arguments-requires c =
    let args : c.as_slice-arguments.result.now ≡ (node_at c.args.terms.now.nodes c.args.body).args = c.as_slice-arguments.ensures ∙ ap (λ n. n.args) c.node.ensures.node in
    record { held = subst (All (λ t. t < length c.args.terms.now.nodes)) (sym args) (arguments_within c.args.terms.now.nodes c.node.ensures.terms.list c.args.body c.requires) }

pub returns : goal.returns
returns c =
    let nodes = c.args.terms.now.nodes in
    let args : c.as_slice-arguments.result.now ≡ (node_at c.args.terms.now.nodes c.args.body).args = c.as_slice-arguments.ensures ∙ ap (λ n. n.args) c.node.ensures.node in
    are_rising nodes c.node.ensures.terms.list c.args.body c.reach_by_arguments.new.reached c.in_ok-order.order.items c.sort_unstable.new.self.items c.requires
    (subst (λ (roots : List ℕ). IsReach (arguments nodes) roots c.reach_by_arguments.new.reached) args c.in_ok-reach_by_arguments.ensures.reach) (c.in_ok-order.ensures.items ∙ c.terms.ensures.terms)
    c.sort_unstable.ensures.permutation (IsNonDecreasingBy-from_sort (λ x. x) c.sort_unstable.new.self.items c.sort_unstable.ensures.sorted)
