use Rattle.cdcl_core.specs.Search.{literals_of, level_of}
use Rattle.cdcl_loop.proofs.engine.Engine.list.Goals as goal

pub returns-in_err-add-clause-course : goal.returns-in_err-add-clause-course
returns-in_err-add-clause-course c = λ h. (h.0, c.add.ensures.scanned (literals_of c.args.self.now.trail) (level_of c.args.self.now.trail) h.1)

pub returns-clause-course : goal.returns-clause-course
returns-clause-course c = λ h. (h.0, c.add.ensures.scanned (literals_of c.args.self.now.trail) (level_of c.args.self.now.trail) h.1)
