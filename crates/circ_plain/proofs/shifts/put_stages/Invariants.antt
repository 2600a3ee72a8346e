use Rattle.std.proofs.Common.{◌≡◌, ◌+◌, ◌*◌, length, drop}
use Rattle.cnf_base.specs.Circuits.{Grows}
use Rattle.circ_plain.specs.Shifts.{stage_gates, stage_bits}
use Rattle.circ_plain.proofs.shifts.put_stages.Given as goal

-- the stages so far, and those of the rest, are all stages
abbrev pub invariant-loop-place : goal.invariant-loop-place
invariant-loop-place l =
    let start = l.fn.circuit in
    let rest = drop l.place l.near in
    record {
      next : l.circuit.next ≡ start.next + length l.a * l.place;
      width : length l.row.items ≡ length l.a;
      grows : Grows start l.circuit (stage_gates l.fn.way l.fn.fill l.circuit.next l.place l.row.items rest) (stage_gates l.fn.way l.fn.fill start.next 0 l.a l.near);
      bits : stage_bits l.circuit.next l.row.items rest ≡ stage_bits start.next l.a l.near;
    }
