use Rattle.std.proofs.Common.{ℕ, rules}
use Rattle.std.specs.Prelude.{ltb}
use Rattle.std.proofs.lemmas.List.Sorted.{IsPartitionPoint-from_clause, IsPartitionedBy-ltb}
use Rattle.proof_log.proofs.Rows.{rising_nondecreasing, splits_at}
use Rattle.proof_log.proofs.pairs.place_of.Goals as goal

pub returns-clause-splits : goal.returns-clause-splits
returns-clause-splits g c =
    let parted = IsPartitionedBy-ltb (λ (e : ℕ × g.row.V.Denot). e.0) _ c.args.lower (rising_nondecreasing c.args.items.now c.requires) in
    let point = IsPartitionPoint-from_clause (λ (e : ℕ × g.row.V.Denot). ltb e.0 c.args.lower) _ _ c.partition_point.ensures.partitioned parted (λ a r q k. search rules) in
    splits_at _ _ _ c.partition_point.ensures.bound point
