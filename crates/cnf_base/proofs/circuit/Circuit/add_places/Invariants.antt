use Rattle.std.proofs.Common.{◌≡◌, ◌+◌, ◌*◌, ◌++◌, drop}
use Rattle.cnf_base.specs.Circuits.{Grows}
use Rattle.cnf_base.specs.Adders.{add_gates, add_bits, add_carry}
use Rattle.cnf_base.proofs.circuit.Circuit.add_places.Given as goal

-- what was added so far, and what the rest will add, are the whole adder
abbrev pub invariant-loop-k : goal.invariant-loop-k
invariant-loop-k l =
    let start = l.fn.self in
    let a = drop l.k l.a in
    let b = drop l.k l.b in
    record {
      next : l.self.next ≡ start.next + 3 * l.k;
      grows : Grows start l.self (add_gates l.self.next a b l.last) (add_gates start.next l.a l.b l.fn.carry);
      bits : l.bits.items ++ add_bits l.self.next a b ≡ add_bits start.next l.a l.b;
      carry : add_carry l.self.next a b l.last ≡ add_carry start.next l.a l.b l.fn.carry;
    }
