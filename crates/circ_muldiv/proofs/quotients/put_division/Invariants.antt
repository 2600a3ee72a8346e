use Rattle.circ_muldiv.proofs.Places.{IsDivision}
use Rattle.circ_muldiv.proofs.quotients.put_division.Given as goal

abbrev pub invariant-loop-i : goal.invariant-loop-i
invariant-loop-i l = IsDivision l.fn.circuit l.circuit l.quotient.items l.rest.items l.a l.b l.i
