use Rattle.std.proofs.Common.{◌≡◌, ◌+◌, drop}
use Rattle.cnf_base.specs.Literals.{false_literal}
use Rattle.cnf_base.specs.Circuits.{Grows}
use Rattle.circ_plain.specs.Shifts.{any_gates, any_bit}
use Rattle.circ_plain.proofs.shifts.put_any.Given as goal

-- the gates so far, and those of the rest, are the whole disjunction
abbrev pub invariant-loop-k : goal.invariant-loop-k
invariant-loop-k l =
    let start = l.fn.circuit in
    let rest = drop l.k l.bits in
    record {
      next : l.circuit.next ≡ start.next + l.k;
      grows : Grows start l.circuit (any_gates l.circuit.next l.any rest) (any_gates start.next false_literal l.bits);
      literal : any_bit l.circuit.next l.any rest ≡ any_bit start.next false_literal l.bits;
    }
