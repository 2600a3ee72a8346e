use Rattle.std.proofs.Common.{◌≡◌, drop}
use Rattle.cnf_base.specs.Clauses.{number}
use Rattle.bit_blast.specs.Assigned.{assigned}
use Rattle.bit_blast.proofs.assignment.Assignment.word_of.Given as goal

abbrev pub invariant-loop-i : goal.invariant-loop-i
invariant-loop-i l = l.value ≡ number (assigned l.self) (drop l.i l.row)
