use Rattle.std.proofs.Common.{rules, ap}
use Rattle.cnf_base.specs.Choices.{mux_gates}
use Rattle.cnf_base.specs.Circuits.{Gains}
use Rattle.cnf_base.proofs.Growing.{Gains-all}
use Rattle.cnf_base.proofs.Choosing.{mux_number}
use Rattle.cnf_base.proofs.circuit.Circuit.mux.Goals as goal

pub returns-clause-choice : goal.returns-clause-choice
returns-clause-choice c = λ v holds.
    let gains : Gains c.args.self.now c.append.new.self (mux_gates c.args.c c.args.a.now c.args.b.now) = search rules in
    rw (c.in_ok-bits.ensures.bits, ap (λ s. s.next) c.part-added.ensures) (mux_number v c.args.self.now.next c.args.c c.args.a.now c.args.b.now c.requires.same (Gains-all v _ _ _ gains holds))
