use Rattle.std.proofs.Common.{rules, ap}
use Rattle.cnf_base.specs.Adders.{add_gates}
use Rattle.cnf_base.specs.Circuits.{Gains}
use Rattle.cnf_base.proofs.Growing.{Gains-all}
use Rattle.cnf_base.proofs.Adding.{add_number}
use Rattle.cnf_base.proofs.circuit.Circuit.add_with.Goals as goal

pub returns-clause-sum : goal.returns-clause-sum
returns-clause-sum c = λ v holds.
    let gains : Gains c.args.self.now c.append.new.self (add_gates c.args.self.now.next c.args.a.now c.args.b.now c.args.carry) = search rules in
    rw (c.in_ok-sum.ensures.bits, c.in_ok-sum.ensures.carry, ap (λ s. s.next) c.part-added.ensures) (add_number v c.args.self.now.next c.args.a.now c.args.b.now c.args.carry c.requires.same (Gains-all v _ _ _ gains holds))
