use Rattle.std.proofs.Common.{ap, rules}
use Rattle.cnf_base.specs.Circuits.{Gains}
use Rattle.cnf_base.proofs.Growing.{Gains-all}
use Rattle.circ_plain.specs.Shifts.{shl_gates}
use Rattle.circ_plain.proofs.Shifting.{shl_is}
use Rattle.circ_plain.proofs.shifts.shl.Goals as goal

pub returns-clause-number : goal.returns-clause-number
returns-clause-number c = λ v one holds.
    let gains : Gains c.args.circuit.now c.append.new.self (shl_gates c.args.circuit.now.next c.args.a.now c.args.amount.now) = search rules in
    rw (c.in_ok-bits.ensures.bits, ap (λ s. s.next) c.part-added.ensures) (shl_is v c.args.circuit.now.next c.args.a.now c.args.amount.now one (Gains-all v _ _ _ gains holds))
