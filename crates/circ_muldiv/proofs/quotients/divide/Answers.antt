use Rattle.std.proofs.Common.{rules, ap, ◌∙◌}
use Rattle.cnf_base.specs.Clauses.{number}
use Rattle.cnf_base.specs.Circuits.{Gains}
use Rattle.cnf_base.proofs.Growing.{Gains-all}
use Rattle.circ_muldiv.specs.Quotients.{divide_gates, quotient_bits, remainder_bits}
use Rattle.circ_muldiv.proofs.Dividing.{divide_correct}
use Rattle.circ_muldiv.proofs.quotients.divide.Goals as goal

pub returns-clause-quotient : goal.returns-clause-quotient
returns-clause-quotient c = λ v one holds.
    let start = c.args.circuit.now in
    let gains : Gains start c.append.new.self (divide_gates start.next c.args.a.now c.args.b.now) = search rules in
    ap (number v) (c.in_ok-parts.ensures.quotient_bits ∙ ap (λ s. quotient_bits s.next c.args.a.now c.args.b.now) c.part-added.ensures)
    ∙ (divide_correct v start.next c.args.a.now c.args.b.now one c.requires.same (Gains-all v _ _ _ gains holds)).0

pub returns-clause-remainder : goal.returns-clause-remainder
returns-clause-remainder c = λ v one holds.
    let start = c.args.circuit.now in
    let gains : Gains start c.append.new.self (divide_gates start.next c.args.a.now c.args.b.now) = search rules in
    ap (number v) (c.in_ok-parts.ensures.remainder_bits ∙ ap (λ s. remainder_bits s.next c.args.a.now c.args.b.now) c.part-added.ensures)
    ∙ (divide_correct v start.next c.args.a.now c.args.b.now one c.requires.same (Gains-all v _ _ _ gains holds)).1
