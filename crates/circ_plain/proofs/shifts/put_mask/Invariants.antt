use Rattle.std.proofs.Common.{◌≡◌, ◌+◌, drop}
use Rattle.cnf_base.specs.Assignments.{fresh_bits}
use Rattle.cnf_base.specs.Circuits.{Grows}
use Rattle.circ_plain.specs.Shifts.{mask_gates}
use Rattle.circ_plain.proofs.shifts.put_mask.Given as goal

-- the gates so far, and those of the rest, are the whole row
abbrev pub invariant-loop-k : goal.invariant-loop-k
invariant-loop-k l =
    let start = l.fn.circuit in
    record {
      next : l.circuit.next ≡ start.next + l.k;
      grows : Grows start l.circuit (mask_gates l.fn.keep (drop l.k l.row)) (mask_gates l.fn.keep l.row);
      bits : l.bits.items ≡ fresh_bits start.next l.k;
    }
