use Rattle.cdcl_core.specs.Search.{literals_of, level_of}
use Rattle.cdcl_learn.proofs.Orders.{first_added}
use Rattle.cdcl_learn.proofs.tests.hold.Goals as goal

pub returns-clause-decided : goal.returns-clause-decided
returns-clause-decided c = first_added (literals_of c.args.trail.now) (literals_of c.add.new.trail) (level_of c.args.trail.now) _ _ c.requires.decided c.in_ok-add.ensures.literals
