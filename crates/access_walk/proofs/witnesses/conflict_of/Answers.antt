use Rattle.std.proofs.Common.{refl}
use Rattle.access_walk.proofs.witnesses.conflict_of.Goals as goal

pub returns-then-is_joined : goal.returns-then-is_joined
returns-then-is_joined c = (c.if-is_joined.ensures, refl)

pub returns-else-is_joined : goal.returns-else-is_joined
returns-else-is_joined c = c.if-is_joined.ensures
