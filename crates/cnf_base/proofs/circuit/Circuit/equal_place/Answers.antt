use Rattle.cnf_base.proofs.Growing.{Gains-then}
use Rattle.cnf_base.proofs.circuit.Circuit.equal_place.Goals as goal

pub returns-clause-gains : goal.returns-clause-gains
returns-clause-gains c =
    let differ = c.in_ok-differ.ensures.gains in
    let equal = rw (c.negated.ensures, c.in_ok-differ.ensures.literal) at c.in_ok-both.ensures.gains in
    Gains-then _ _ _ _ _ differ equal
