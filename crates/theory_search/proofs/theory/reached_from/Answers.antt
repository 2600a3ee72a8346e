use Rattle.std.proofs.Common.{length, sym, subst}
use Rattle.std.specs.Prelude.{slice_index_or}
use Rattle.std.proofs.lemmas.List.Elements.{All-contains_itself}
use Rattle.smt_terms.specs.Bits.{image_in}
use Rattle.term_reach.specs.Reach.{LeadsBelow}
use Rattle.term_reach.proofs.Ways.{root_reached}
use Rattle.access_tables.specs.Leading.{leads}
use Rattle.access_walk.proofs.Below.{leads_below}
use Rattle.theory_search.proofs.theory.reached_from.Goals as goal

pub reach-requires-clause-within : goal.reach-requires-clause-within
reach-requires-clause-within c =
    subst (λ b. LeadsBelow (length c.args.terms.now.nodes) (leads c.args.terms.now.nodes (image_in b))) (sym c.new-links.ensures)
    (leads_below c.args.terms.now.nodes c.len-count.ensures.terms.list c.args.bits.now c.requires.images)

pub reach-requires-clause-held : goal.reach-requires-clause-held
reach-requires-clause-held c = λ k d lt.
    c.requires.bits_are.held (slice_index_or c.args.live.now k d)
    (root_reached (leads c.args.terms.now.nodes (image_in c.args.bits.now)) c.args.live.now (slice_index_or c.args.live.now k d) (All-contains_itself c.args.live.now k d lt))
