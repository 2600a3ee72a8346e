use Rattle.variable_list.proofs.Tables.{table_once, table_variables}
use Rattle.variable_list.proofs.list.VariableList.as_slice.Goals as goal

pub returns-clause-variables : goal.returns-clause-variables
returns-clause-variables c = rw (← c.self.view_is) (table_variables c.self.inside.places.items c.self.inside.variables.items c.self.invariant)

pub returns-clause-once : goal.returns-clause-once
returns-clause-once c = rw (← c.self.view_is) (table_once c.self.inside.places.items c.self.inside.variables.items c.self.invariant)
