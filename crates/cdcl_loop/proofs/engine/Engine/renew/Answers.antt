use Rattle.std.proofs.Common.{refl}
use Rattle.cdcl_core.specs.Search.{literals_of, level_of}
use Rattle.cdcl_loop.proofs.Agendas.{scanned_same}
use Rattle.cdcl_loop.proofs.Courses.{course_begun}
use Rattle.cdcl_loop.proofs.engine.Engine.renew.Goals as goal

pub returns-clause-course : goal.returns-clause-course
returns-clause-course c =
    let rows = literals_of c.go_back.new.self.trail in
    let level = level_of c.go_back.new.self.trail in (
      course_begun rows level _ c.go_back.ensures.engine.raised c.go_back.ensures.level,
      scanned_same c.cut.new.self rows rows 0 level refl c.go_back.ensures.level (c.cut.ensures.scanned rows),
    )
