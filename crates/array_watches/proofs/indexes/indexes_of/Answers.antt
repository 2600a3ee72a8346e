use Rattle.std.proofs.Common.{subst}
use Rattle.array_watches.specs.Making.{AreSame}
use Rattle.array_watches.proofs.indexes.indexes_of.Goals as goal

pub returns-clause-same : goal.returns-clause-same
returns-clause-same c = subst (AreSame c.leave_once.new.numbers.items) c.in_ok-found.ensures c.leave_once.ensures.same
