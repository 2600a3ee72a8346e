use Rattle.walk_rows.proofs.Fitted.{still_unlinked}
use Rattle.walk_rows.proofs.own.OwnBits.give.Goals as goal

pub invariant_of-self : goal.invariant_of-self
invariant_of-self c = still_unlinked _ c.set.result c.self.inside.bits c.set.new.self c.args.term c.args.row.now c.self.invariant c.set.ensures.ok c.set.ensures.err
