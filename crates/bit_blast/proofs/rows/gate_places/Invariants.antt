use Rattle.std.proofs.Common.{◌≡◌, ◌+◌, drop}
use Rattle.cnf_base.specs.Assignments.{fresh_bits}
use Rattle.cnf_base.specs.Circuits.{Grows}
use Rattle.bit_blast.specs.Circuits.{each_gate}
use Rattle.bit_blast.proofs.rows.gate_places.Given as goal

-- the gates so far, and those of the rest, are the whole row
abbrev pub invariant-loop-k : goal.invariant-loop-k
invariant-loop-k l =
    let start = l.fn.circuit in
    record {
      next : l.circuit.next ≡ start.next + l.k;
      grows : Grows start l.circuit (each_gate l.fn.kind (drop l.k l.a) (drop l.k l.b)) (each_gate l.fn.kind l.a l.b);
      bits : l.bits.items ≡ fresh_bits start.next l.k;
    }
