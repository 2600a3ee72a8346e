use Rattle.std.proofs.Common.{◌≡◌, ◌+◌, drop}
use Rattle.cnf_base.specs.Assignments.{fresh_bits}
use Rattle.cnf_base.specs.Circuits.{Grows}
use Rattle.circ_muldiv.specs.Products.{row_gates}
use Rattle.circ_muldiv.proofs.products.put_row.Given as goal

-- the gates so far, and those of the rest, are the whole row
abbrev pub invariant-loop-k : goal.invariant-loop-k
invariant-loop-k l =
    let start = l.fn.circuit in
    record {
      next : l.circuit.next ≡ start.next + l.k;
      grows : Grows start l.circuit (row_gates (drop l.k l.a) l.b) (row_gates l.a l.b);
      bits : l.bits.items ≡ fresh_bits start.next l.k;
    }
