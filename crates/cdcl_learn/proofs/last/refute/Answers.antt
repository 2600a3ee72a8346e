use Rattle.std.proofs.Common.{◌∙◌}
use Rattle.cdcl_core.specs.Search.{literals_of}
use Rattle.cdcl_learn.proofs.Fronts.{stands_row}
use Rattle.cdcl_learn.proofs.last.refute.Goals as goal

pub refute_at-requires-clause-within : goal.refute_at-requires-clause-within
refute_at-requires-clause-within c = (stands_row (literals_of c.args.trail.now) c.in-Some.place c.negated.result c.in-Some.ensures).0

pub refute_at-requires-clause-opposite : goal.refute_at-requires-clause-opposite
refute_at-requires-clause-opposite c = (stands_row (literals_of c.args.trail.now) c.in-Some.place c.negated.result c.in-Some.ensures).1 ∙ c.negated.ensures
