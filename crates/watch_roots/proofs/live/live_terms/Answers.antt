use Rattle.std.proofs.Common.{◌<◌, length, get_or, sym, subst}
use Rattle.std.specs.Prelude.{All}
use Rattle.std.proofs.lemmas.List.Elements.{Contains-get_or}
use Rattle.watch_roots.specs.Roots.{AreFound}
use Rattle.watch_roots.proofs.Found.{live_found}
use Rattle.watch_roots.proofs.live.live_terms.Goals as goal

pub found_among-requires : goal.found_among-requires
found_among-requires c =
    let reached = c.reach_by_arguments.new.reached in
    subst (All (λ t. t < length c.args.terms.now.nodes)) (sym c.terms.ensures.terms)
    (λ k d lt. c.in_ok-reach_by_arguments.ensures.held (get_or reached k d) (Contains-get_or reached k d lt))

pub returns : goal.returns
returns c =
    live_found c.args.terms.now.nodes c.args.roots.now c.reach_by_arguments.new.reached c.in_ok-live.live.items c.extend_from_slice.new.self.items c.in_ok-reach_by_arguments.ensures.reach
    (subst (λ l. AreFound c.args.terms.now.nodes l c.in_ok-live.live.items) c.terms.ensures.terms c.in_ok-live.ensures) c.requires c.in_ok-extend_from_slice.ensures.items
