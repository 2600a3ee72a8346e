use Rattle.std.proofs.Common.{◌∙◌, sym, ap, map}
use Rattle.smt_terms.specs.Scalars.{scalar_value}
use Rattle.smt_values.specs.Tables.{table_value}
use Rattle.smt_values.proofs.Rows.{value_at}
use Rattle.smt_values.proofs.table.FunTable.at.Goals as goal

pub returns : goal.returns
returns c =
    let e = rw c.as_slice.ensures.value at c.value_of.ensures in
    ap scalar_value e
    ∙ sym (value_at c.self.inside.default c.self.inside.rows.items c.args.args.now)
    ∙ ap (λ t. table_value t (map scalar_value c.args.args.now)) c.self.view_is
