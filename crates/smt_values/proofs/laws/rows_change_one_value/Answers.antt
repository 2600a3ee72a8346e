use Rattle.smt_values.proofs.Changing.{row_changes}
use Rattle.smt_values.proofs.laws.rows_change_one_value.Goals as goal

pub returns : goal.returns
returns c = row_changes
