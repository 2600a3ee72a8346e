use Rattle.cdcl_core.proofs.Decisions.{IsCutTrail}
use Rattle.cdcl_core.proofs.decide.cut_back.Given as goal

abbrev pub invariant-entries : goal.invariant-entries
invariant-entries l = IsCutTrail l.fn.t l.t l.level

abbrev pub decreases-entries : goal.decreases-entries
decreases-entries l = l.t.len
