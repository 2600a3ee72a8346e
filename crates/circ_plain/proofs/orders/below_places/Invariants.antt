use Rattle.std.proofs.Common.{◌≡◌, ◌+◌, ◌*◌, drop}
use Rattle.cnf_base.specs.Circuits.{Grows}
use Rattle.circ_plain.specs.Orders.{below_gates, below_bit, ult_gates, ult_bit}
use Rattle.circ_plain.proofs.orders.below_places.Given as goal

-- the gates so far, and those of the rest, are the whole comparison
abbrev pub invariant-loop-k : goal.invariant-loop-k
invariant-loop-k l =
    let start = l.fn.circuit in
    let a = drop l.k l.a in
    let b = drop l.k l.b in
    record {
      next : l.circuit.next ≡ start.next + 2 * l.k;
      grows : Grows start l.circuit (below_gates l.circuit.next l.below a b) (ult_gates start.next l.a l.b);
      literal : below_bit l.circuit.next l.below a b ≡ ult_bit start.next l.a l.b;
    }
