use Rattle.std.proofs.Common.{◌∙◌, ap, rules}
use Rattle.cnf_base.specs.Clauses.{number}
use Rattle.cnf_base.specs.Circuits.{Gains}
use Rattle.cnf_base.proofs.Growing.{Gains-all}
use Rattle.circ_muldiv.specs.Signed.{srem_gates, srem_bits}
use Rattle.circ_muldiv.proofs.Signs.{srem_correct}
use Rattle.circ_muldiv.proofs.signed.srem.Goals as goal

pub returns-clause-remainder : goal.returns-clause-remainder
returns-clause-remainder c = λ v one holds.
    let start = c.args.circuit.now in
    let gains : Gains start c.append.new.self (srem_gates start.next c.args.a.now c.args.b.now) = search rules in
    ap (number v) (c.in_ok-bits.ensures.bits ∙ ap (λ s. srem_bits s.next c.args.a.now c.args.b.now) c.part-added.ensures)
    ∙ srem_correct v start.next c.args.a.now c.args.b.now one c.requires.some c.requires.same (Gains-all v _ _ _ gains holds)
