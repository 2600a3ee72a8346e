use Rattle.smt_values.proofs.Rows.{rows_kept}
use Rattle.smt_values.proofs.table.FunTable.set.Goals as goal

pub invariant_of-self : goal.invariant_of-self
invariant_of-self c = rows_kept c.enter.result _ _ _ c.self.invariant c.enter.ensures.ok c.enter.ensures.err
