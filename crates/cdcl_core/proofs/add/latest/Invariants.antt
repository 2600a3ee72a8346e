use Rattle.cdcl_core.specs.Stamps.{codes}
use Rattle.cdcl_core.proofs.Ranks.{IsLatest}
use Rattle.cdcl_core.proofs.add.latest.Given as goal

abbrev pub invariant-loop-l : goal.invariant-loop-l
invariant-loop-l l = IsLatest (codes l.clause) l.stamps l.except l.l-index l.found l.highest
