use Rattle.proof_log.proofs.Linked.{stored_images_are}
use Rattle.smt_session.proofs.Plans.{images_have_bits}
use Rattle.smt_session.proofs.planned.needed_order.Goals as goal

pub plan_terms-requires-clause-images : goal.plan_terms-requires-clause-images
plan_terms-requires-clause-images c =
    rw c.bits.ensures (stored_images_are c.args.terms.now.nodes c.args.log.now c.len-from.ensures.terms.list c.len-from.ensures.terms.different c.requires.stands)

pub needed_terms-requires-clause-images : goal.needed_terms-requires-clause-images
needed_terms-requires-clause-images c = rw c.bits-2.ensures (images_have_bits c.args.terms.now.nodes c.args.log.now c.requires.stands)
