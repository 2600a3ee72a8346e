use Rattle.std.proofs.Common.{subst}
use Rattle.std.specs.Prelude.{MatchBool}
use Rattle.cdcl_core.specs.Levels.{IsTrueBy, IsFalseBy}
use Rattle.cdcl_core.specs.Search.{literals_of, level_of}
use Rattle.cdcl_loop.proofs.Courses.{decides_given}
use Rattle.cdcl_loop.proofs.Trails.{levels_below}
use Rattle.cdcl_loop.proofs.Working.{worked_none}
use Rattle.cdcl_loop.proofs.engine.Engine.assume_one.Goals as goal

pub returns-in-Some-false-clause-clash : goal.returns-in-Some-false-clause-clash
returns-in-Some-false-clause-clash c = (
  c.requires.engine,
  c.requires.course,
  subst (λ b. MatchBool b (IsTrueBy (literals_of c.args.self.now.trail) (level_of c.args.self.now.trail) c.args.literal) (IsFalseBy (literals_of c.args.self.now.trail) (level_of c.args.self.now.trail) c.args.literal)) c.in-Some-false.field-0-test c.in-Some-false.ensures,
  (decides_given (literals_of c.args.self.now.trail) (level_of c.args.self.now.trail) c.args.self.now.base c.args.self.now.given.items c.requires.at_base (levels_below c.args.self.now.watches c.args.self.now.trail c.requires.engine.settled) c.requires.course.0, c.requires.given),
)

pub returns-in-Some-true-clause-work : goal.returns-in-Some-true-clause-work
returns-in-Some-true-clause-work c = worked_none c.args.self.now

pub returns-in-Some-false-clause-work : goal.returns-in-Some-false-clause-work
returns-in-Some-false-clause-work c = worked_none c.args.self.now
