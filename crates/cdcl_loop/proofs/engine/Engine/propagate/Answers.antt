use Rattle.std.proofs.Common.{◌-◌, length, ap, ◌∙◌}
use Rattle.cdcl_core.specs.Search.{literals_of, level_of}
use Rattle.cdcl_loop.specs.Counts.{with_propagations}
use Rattle.cdcl_loop.specs.Efforts.{effort_of}
use Rattle.cdcl_loop.proofs.Agendas.{scanned_extended}
use Rattle.cdcl_loop.proofs.Courses.{course_grew}
use Rattle.cdcl_loop.proofs.Trails.{trail_extended}
use Rattle.cdcl_loop.proofs.engine.Engine.propagate.Goals as goal

pub returns-clause-engine : goal.returns-clause-engine
returns-clause-engine c = trail_extended c.args.self.now.watches c.propagate-conflict.new.self c.args.self.now.trail c.propagate-conflict.new.trail c.requires c.propagate-conflict.ensures.settled c.propagate-conflict.ensures.literals

pub returns-clause-course : goal.returns-clause-course
returns-clause-course c = λ h. (
  course_grew (literals_of c.args.self.now.trail) (literals_of c.propagate-conflict.new.trail) (level_of c.args.self.now.trail) (level_of c.propagate-conflict.new.trail) c.args.self.now.base c.args.self.now.given.items c.propagate-conflict.ensures.literals c.propagate-conflict.ensures.level h.0,
  scanned_extended c.args.self.now.agenda (literals_of c.args.self.now.trail) (literals_of c.propagate-conflict.new.trail) (level_of c.args.self.now.trail) (level_of c.propagate-conflict.new.trail) c.propagate-conflict.ensures.literals c.propagate-conflict.ensures.level h.1,
)

pub returns-clause-effort : goal.returns-clause-effort
returns-clause-effort c = c.count_behind.ensures ∙ ap (λ n. with_propagations (effort_of c.args.self.now) (length (literals_of c.propagate-conflict.new.trail) - n)) (ap length c.literals-before.ensures)
