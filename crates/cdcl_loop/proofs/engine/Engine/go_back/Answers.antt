use Rattle.std.proofs.Common.{filter}
use Rattle.std.specs.Prelude.{nat_le}
use Rattle.cdcl_core.specs.Search.{literals_of, level_of}
use Rattle.cdcl_loop.proofs.Agendas.{scanned_same}
use Rattle.cdcl_loop.proofs.Courses.{went_below, went_above}
use Rattle.cdcl_loop.proofs.Trails.{trail_back}
use Rattle.cdcl_loop.proofs.engine.Engine.go_back.Goals as goal

pub returns-then-level-self-clause-engine : goal.returns-then-level-self-clause-engine
returns-then-level-self-clause-engine c = trail_back c.args.self.now.watches c.args.self.now.watches c.args.self.now.trail c.backjump.new.trail c.args.level c.requires.engine c.backjump.ensures.settled c.backjump.ensures.literals

pub returns-then-level-self-clause-course : goal.returns-then-level-self-clause-course
returns-then-level-self-clause-course c = λ h. (
  went_below (literals_of c.args.self.now.trail) (literals_of c.backjump.new.trail) (level_of c.args.self.now.trail) c.args.self.now.base c.args.level (level_of c.backjump.new.trail) c.args.self.now.given.items
      c.backjump.ensures.literals c.backjump.ensures.level c.requires.lower c.if-level-self.true h.0,
  scanned_same c.go_back.new.self (filter (λ r. nat_le r.1 c.args.level) (literals_of c.args.self.now.trail)) (literals_of c.backjump.new.trail) c.args.level (level_of c.backjump.new.trail) c.backjump.ensures.literals c.backjump.ensures.level
      (c.go_back.ensures.scanned (literals_of c.args.self.now.trail) (level_of c.args.self.now.trail) c.requires.lower h.1),
)

pub returns-else-level-self-clause-engine : goal.returns-else-level-self-clause-engine
returns-else-level-self-clause-engine c = trail_back c.args.self.now.watches c.args.self.now.watches c.args.self.now.trail c.backjump.new.trail c.args.level c.requires.engine c.backjump.ensures.settled c.backjump.ensures.literals

pub returns-else-level-self-clause-course : goal.returns-else-level-self-clause-course
returns-else-level-self-clause-course c = λ h. (
  went_above (literals_of c.args.self.now.trail) (literals_of c.backjump.new.trail) (level_of c.args.self.now.trail) c.args.self.now.base c.args.level (level_of c.backjump.new.trail) c.args.self.now.given.items
      c.backjump.ensures.literals c.backjump.ensures.level c.requires.lower c.if-level-self.false h.0,
  scanned_same c.go_back.new.self (filter (λ r. nat_le r.1 c.args.level) (literals_of c.args.self.now.trail)) (literals_of c.backjump.new.trail) c.args.level (level_of c.backjump.new.trail) c.backjump.ensures.literals c.backjump.ensures.level
      (c.go_back.ensures.scanned (literals_of c.args.self.now.trail) (level_of c.args.self.now.trail) c.requires.lower h.1),
)
