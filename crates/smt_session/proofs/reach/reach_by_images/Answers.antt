use Rattle.session_terms.proofs.Placing.{never_leads_back}
use Rattle.session_terms.proofs.Planned.{bare_free}
use Rattle.smt_session.proofs.Reaching.{images_below, with_bits_held, reached_is_closed, roots_reached}
use Rattle.smt_session.proofs.reach.reach_by_images.Goals as goal

pub reach-requires-clause-acyclic : goal.reach-requires-clause-acyclic
reach-requires-clause-acyclic c =
    rw (c.terms-terms.ensures.terms, c.bits.ensures)
    (never_leads_back c.args.state.now.terms.nodes c.args.log.now.bits c.requires.order c.requires.session.state.terms
    (bare_free c.args.state.now.terms.nodes c.args.log.now c.requires.session.state.terms c.requires.session.stands))

pub reach-requires-clause-within : goal.reach-requires-clause-within
reach-requires-clause-within c =
    rw (c.terms-terms.ensures.terms, c.bits.ensures)
    (images_below c.args.state.now.terms.nodes c.args.log.now c.requires.session.state.terms c.requires.session.stands (rw c.terms-terms.ensures.terms at c.len-count.ensures.terms.different))

pub reach-requires-clause-held : goal.reach-requires-clause-held
reach-requires-clause-held c =
    rw c.terms-terms.ensures.terms
    (with_bits_held c.args.state.now.terms.nodes c.args.log.now c.requires.session.state.terms c.requires.session.stands c.args.from.now c.requires.bits)

pub returns-clause-closed : goal.returns-clause-closed
returns-clause-closed c =
    reached_is_closed c.args.state.now.terms.nodes c.args.log.now c.requires.session.state.terms c.requires.session.stands c.args.from.now c.reach.new.reached (rw (c.terms-terms.ensures.terms, c.bits.ensures) at c.in_ok-reach.ensures)

pub returns-clause-from : goal.returns-clause-from
returns-clause-from c =
    roots_reached c.args.state.now.terms.nodes c.args.log.now c.requires.session.state.terms c.requires.session.stands c.args.from.now c.reach.new.reached (rw (c.terms-terms.ensures.terms, c.bits.ensures) at c.in_ok-reach.ensures)
