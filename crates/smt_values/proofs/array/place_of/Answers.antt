use Rattle.std.proofs.Common.{rules}
use Rattle.std.specs.Prelude.{ltb}
use Rattle.std.proofs.lemmas.List.Sorted.{IsPartitionPoint-from_clause, IsPartitionedBy-ltb}
use Rattle.smt_values.specs.Arrays.{Entry}
use Rattle.smt_values.proofs.Entries.{rising_nondecreasing, splits_at}
use Rattle.smt_values.proofs.array.place_of.Goals as goal

pub returns-clause-splits : goal.returns-clause-splits
returns-clause-splits c =
    let parted = IsPartitionedBy-ltb (λ (e : Entry). e.0.value) _ c.args.number (rising_nondecreasing c.args.entries.now c.requires) in
    let point = IsPartitionPoint-from_clause (λ (e : Entry). ltb e.0.value c.args.number) _ _ c.partition_point.ensures.partitioned parted (λ a r q k. search rules) in
    splits_at _ _ _ c.partition_point.ensures.bound point
