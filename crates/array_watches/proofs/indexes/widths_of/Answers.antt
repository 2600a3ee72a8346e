use Rattle.std.proofs.Common.{subst}
use Rattle.array_watches.specs.Making.{AreSame}
use Rattle.array_watches.proofs.indexes.widths_of.Goals as goal

pub returns : goal.returns
returns c = subst (AreSame c.leave_once.new.numbers.items) c.in_ok-found.ensures c.leave_once.ensures.same
