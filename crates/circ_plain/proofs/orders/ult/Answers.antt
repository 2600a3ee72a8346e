use Rattle.std.proofs.Common.{ap, rules}
use Rattle.cnf_base.specs.Circuits.{Gains}
use Rattle.cnf_base.proofs.Growing.{Gains-all}
use Rattle.circ_plain.specs.Orders.{ult_gates}
use Rattle.circ_plain.proofs.Comparing.{ult_is}
use Rattle.circ_plain.proofs.orders.ult.Goals as goal

pub returns-clause-order : goal.returns-clause-order
returns-clause-order c = λ v one holds.
    let gains : Gains c.args.circuit.now c.append.new.self (ult_gates c.args.circuit.now.next c.args.a.now c.args.b.now) = search rules in
    rw (c.in_ok-below.ensures.literal, ap (λ s. s.next) c.part-added.ensures) (ult_is v c.args.circuit.now.next c.args.a.now c.args.b.now one c.requires.same (Gains-all v _ _ _ gains holds))
