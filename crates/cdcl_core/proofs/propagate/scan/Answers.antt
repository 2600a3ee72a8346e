use Rattle.cdcl_core.proofs.Clauses.{none_weaker, two_parts}
use Rattle.cdcl_core.proofs.propagate.scan.Goals as goal

pub returns-in-None : goal.returns-in-None
returns-in-None c = none_weaker _ c.scan_part-in-None.result (λ before. two_parts c.args.clause.now c.args.stamps.now c.args.other _ c.in-None.ensures before) c.scan_part-in-None.ensures
