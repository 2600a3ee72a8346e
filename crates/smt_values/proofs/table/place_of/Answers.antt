use Rattle.std.proofs.Common.{rules}
use Rattle.std.specs.Ordering.{is_lt}
use Rattle.std.proofs.lemmas.List.Sorted.{IsPartitionPoint-from_clause}
use Rattle.smt_values.specs.declared.table.Row.{Row}
use Rattle.smt_values.specs.Tables.{args_cmp}
use Rattle.smt_values.proofs.Rows.{rows_parted, rows_split}
use Rattle.smt_values.proofs.table.place_of.Goals as goal

pub returns-clause-split : goal.returns-clause-split
returns-clause-split c =
    let parted = rows_parted c.args.args.now c.args.rows.now c.requires in
    let point = IsPartitionPoint-from_clause (λ (r : Row). is_lt (args_cmp r.args c.args.args.now)) _ _ c.partition_point.ensures.partitioned parted (λ a r q k. search rules) in
    rows_split _ _ _ c.partition_point.ensures.bound point
