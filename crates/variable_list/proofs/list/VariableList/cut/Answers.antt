use Rattle.variable_list.proofs.Tables.{table_cut}
use Rattle.variable_list.proofs.list.VariableList.cut.Goals as goal

pub invariant_of-self : goal.invariant_of-self
invariant_of-self c = rw c.truncate.ensures.items (table_cut c.self.inside.places.items c.self.inside.variables.items c.args.count c.self.invariant)
