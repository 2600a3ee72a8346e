use Rattle.std.proofs.Common.{◌≡◌, ◌+◌, ◌*◌, drop}
use Rattle.cnf_base.specs.Literals.{true_literal}
use Rattle.cnf_base.specs.Circuits.{Grows}
use Rattle.cnf_base.specs.Choices.{equal_gates, equal_bit}
use Rattle.cnf_base.proofs.circuit.Circuit.equal_places.Given as goal

-- the gates so far, and those of the rest, are the whole equality
abbrev pub invariant-loop-k : goal.invariant-loop-k
invariant-loop-k l =
    let start = l.fn.self in
    let a = drop l.k l.a in
    let b = drop l.k l.b in
    record {
      next : l.self.next ≡ start.next + 2 * l.k;
      grows : Grows start l.self (equal_gates l.self.next l.equal a b) (equal_gates start.next true_literal l.a l.b);
      literal : equal_bit l.self.next l.equal a b ≡ equal_bit start.next true_literal l.a l.b;
    }
