use Rattle.std.proofs.Common.{rules, ap}
use Rattle.cnf_base.specs.Literals.{true_literal}
use Rattle.cnf_base.specs.Choices.{equal_gates}
use Rattle.cnf_base.specs.Circuits.{Gains}
use Rattle.cnf_base.proofs.Growing.{Gains-all}
use Rattle.cnf_base.proofs.Equating.{equal_number}
use Rattle.cnf_base.proofs.circuit.Circuit.equal.Goals as goal

pub returns-clause-equality : goal.returns-clause-equality
returns-clause-equality c = λ v holds.
    let gains : Gains c.args.self.now c.append.new.self (equal_gates c.args.self.now.next true_literal c.args.a.now c.args.b.now) = search rules in
    rw (c.in_ok-literal.ensures.literal, ap (λ s. s.next) c.part-added.ensures) (equal_number v c.args.self.now.next true_literal c.args.a.now c.args.b.now c.requires.same (Gains-all v _ _ _ gains holds))
