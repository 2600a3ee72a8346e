use Rattle.cdcl_core.specs.Search.{literals_of, level_of}
use Rattle.cdcl_learn.specs.Rows.{AreDecidedFirst}
use Rattle.cdcl_learn.proofs.Facts.{rising_of}
use Rattle.cdcl_learn.proofs.Orders.{first_decided, first_extended}
use Rattle.cdcl_learn.proofs.tests.assume.Goals as goal

pub returns-then-is_some-clause-decided : goal.returns-then-is_some-clause-decided
returns-then-is_some-clause-decided c = first_extended (literals_of c.args.trail.now) (literals_of c.propagate-conflict.new.trail) (level_of c.args.trail.now) c.requires.decided c.propagate-conflict.ensures.literals

pub returns-clause-decided : goal.returns-clause-decided
returns-clause-decided c =
    let before : AreDecidedFirst (literals_of c.propagate-conflict.new.trail) = first_extended (literals_of c.args.trail.now) (literals_of c.propagate-conflict.new.trail) (level_of c.args.trail.now) c.requires.decided c.propagate-conflict.ensures.literals in
    let decided : AreDecidedFirst (literals_of c.decide.new.trail) = first_decided (literals_of c.propagate-conflict.new.trail) (literals_of c.decide.new.trail) c.args.l (level_of c.propagate-conflict.new.trail) before
    (rising_of c.propagate-conflict.new.self c.propagate-conflict.new.trail c.propagate-conflict.ensures.settled).top c.decide.ensures.literals in
    first_extended (literals_of c.decide.new.trail) (literals_of c.propagate.new.trail) (level_of c.decide.new.trail) decided c.propagate.ensures.literals
