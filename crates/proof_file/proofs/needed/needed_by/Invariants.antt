use Rattle.std.proofs.Common.{suc, ◌-◌, length}
use Rattle.proof_file.specs.Finding.{IsSearch}
use Rattle.proof_file.specs.Held.{file_in}
use Rattle.proof_file.proofs.needed.needed_by.Given as goal

abbrev pub invariant-found : goal.invariant-found
invariant-found l = IsSearch l.log.entries (file_in l.places).places l.shown l.found l.done

abbrev pub decreases-found : goal.decreases-found
decreases-found l = suc (length l.log.entries) - l.done
