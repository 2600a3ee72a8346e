use Rattle.cnf_base.proofs.Growing.{Gains-then}
use Rattle.circ_plain.proofs.orders.below_place.Goals as goal

pub returns-clause-gains : goal.returns-clause-gains
returns-clause-gains c =
    let differ = c.in_ok-differ.ensures.gains in
    let below = rw c.in_ok-differ.ensures.literal at c.in_ok-below.ensures.gains in
    Gains-then _ _ _ _ _ differ below
