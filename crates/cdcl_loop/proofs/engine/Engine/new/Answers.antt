use Rattle.std.proofs.Common.{refl}
use Rattle.cdcl_core.specs.Search.{literals_of, level_of}
use Rattle.cdcl_loop.proofs.Agendas.{scanned_same}
use Rattle.cdcl_loop.proofs.Courses.{course_begun}
use Rattle.cdcl_loop.proofs.engine.Engine.new.Goals as goal

pub returns-clause-course : goal.returns-clause-course
returns-clause-course c =
    let rows = literals_of c.args.trail in (
      course_begun rows (level_of c.args.trail) _ c.requires.trail.raised c.requires.level,
      scanned_same c.new-2.result rows rows 0 (level_of c.args.trail) refl c.requires.level (c.new-2.ensures.scanned rows),
    )
