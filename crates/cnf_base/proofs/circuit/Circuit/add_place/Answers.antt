use Rattle.cnf_base.proofs.Growing.{Gains-then}
use Rattle.cnf_base.proofs.circuit.Circuit.add_place.Goals as goal

pub returns-clause-gains : goal.returns-clause-gains
returns-clause-gains c =
    let one = c.in_ok-differ.ensures.gains in
    let two = rw c.in_ok-differ.ensures.literal at c.in_ok-bit.ensures.gains in
    let three = rw c.in_ok-differ.ensures.literal at c.in_ok-next.ensures.gains in
    Gains-then _ _ _ _ _ (Gains-then _ _ _ _ _ one two) three
