use Rattle.array_watches.proofs.Counting.{once_apart, once_same}
use Rattle.array_watches.proofs.indexes.leave_once.Goals as goal

pub returns-clause-once : goal.returns-clause-once
returns-clause-once c = once_apart c.sort_unstable.new.self.items c.dedup.new.self.items c.sort_unstable.ensures.sorted c.dedup.ensures.filtered

pub returns-clause-same : goal.returns-clause-same
returns-clause-same c = once_same c.args.numbers.now.items c.sort_unstable.new.self.items c.dedup.new.self.items c.sort_unstable.ensures.permutation c.dedup.ensures.filtered
