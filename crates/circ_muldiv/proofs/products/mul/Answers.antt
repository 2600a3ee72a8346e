use Rattle.std.proofs.Common.{rules, ap}
use Rattle.cnf_base.specs.Circuits.{Gains}
use Rattle.cnf_base.proofs.Growing.{Gains-all}
use Rattle.circ_muldiv.specs.Products.{mul_gates}
use Rattle.circ_muldiv.proofs.Multiplying.{mul_correct}
use Rattle.circ_muldiv.proofs.products.mul.Goals as goal

pub returns-clause-product : goal.returns-clause-product
returns-clause-product c = λ v one holds.
    let start = c.args.circuit.now in
    let gains : Gains start c.append.new.self (mul_gates start.next c.args.a.now c.args.b.now) = search rules in
    rw (c.in_ok-bits.ensures.bits, ap (λ s. s.next) c.part-added.ensures) (mul_correct v start.next c.args.a.now c.args.b.now one c.requires.same (Gains-all v _ _ _ gains holds))
