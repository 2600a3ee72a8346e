use Rattle.cnf_base.proofs.Growing.{gate_gained}
use Rattle.cnf_base.proofs.circuit.Circuit.gate.Goals as goal

pub returns-clause-meaning : goal.returns-clause-meaning
returns-clause-meaning c = gate_gained _ _ _ _ c.put_gate.ensures.literal c.put_gate.ensures.gains
