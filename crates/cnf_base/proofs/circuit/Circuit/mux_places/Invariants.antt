use Rattle.std.proofs.Common.{◌≡◌, ◌+◌, drop}
use Rattle.cnf_base.specs.Assignments.{fresh_bits}
use Rattle.cnf_base.specs.Circuits.{Grows}
use Rattle.cnf_base.specs.Choices.{mux_gates}
use Rattle.cnf_base.proofs.circuit.Circuit.mux_places.Given as goal

-- the gates so far, and those of the rest, are the whole choice
abbrev pub invariant-loop-k : goal.invariant-loop-k
invariant-loop-k l =
    let start = l.fn.self in
    record {
      next : l.self.next ≡ start.next + l.k;
      grows : Grows start l.self (mux_gates l.fn.c (drop l.k l.a) (drop l.k l.b)) (mux_gates l.fn.c l.a l.b);
      bits : l.bits.items ≡ fresh_bits start.next l.k;
    }
