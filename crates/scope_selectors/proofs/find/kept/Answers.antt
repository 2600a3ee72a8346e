use Rattle.std.proofs.Common.{leb, rules}
use Rattle.std.proofs.lemmas.List.Sorted.{IsPartitionPoint-from_clause, IsPartitionedBy-leb}
use Rattle.scope_selectors.specs.declared.live.Live.{Live}
use Rattle.scope_selectors.proofs.Searching.{filter_parted}
use Rattle.scope_selectors.proofs.find.kept.Goals as goal

pub returns : goal.returns
returns c =
    let parted = IsPartitionedBy-leb (λ (a : Live). a.level) _ c.args.levels c.requires in
    let point = IsPartitionPoint-from_clause (λ (a : Live). leb a.level c.args.levels) _ _ c.partition_point.ensures.partitioned parted (λ a r q k. search rules) in
    filter_parted (λ (a : Live). leb a.level c.args.levels) _ _ point
