use Rattle.std.proofs.Common.{take, map}
use Rattle.cnf_base.specs.declared.clause.ClauseId.{ClauseId}
use Rattle.proof_file.specs.Finding.{AreFound}
use Rattle.proof_file.specs.Held.{file_in}
use Rattle.proof_file.proofs.needed.find_hints.Given as goal

abbrev pub invariant-loop-k : goal.invariant-loop-k
invariant-loop-k l = AreFound l.log.entries (file_in l.places).places (map (λ (h : ClauseId). h.pos) (take l.k l.hints)) l.fn.found l.found
