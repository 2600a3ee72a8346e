use Rattle.std.proofs.Common.{ℕ, ◌∙◌, sym, subst}
use Rattle.cdcl_core.specs.Levels.{IsExtended}
use Rattle.cdcl_core.specs.Search.{literals_of, level_of}
use Rattle.cdcl_loop.proofs.Agendas.{scanned_extended}
use Rattle.cdcl_loop.proofs.Courses.{course_grew}
use Rattle.cdcl_loop.proofs.Trails.{trail_extended}
use Rattle.cdcl_loop.proofs.engine.Engine.wake.Goals as goal

pub returns-clause-engine : goal.returns-clause-engine
returns-clause-engine c =
    trail_extended c.args.self.now.watches c.wake.new.self c.args.self.now.trail c.wake.new.trail c.requires.engine c.wake.ensures.settled
    (subst (λ (n : ℕ). IsExtended (literals_of c.args.self.now.trail) n (literals_of c.wake.new.trail)) (sym c.requires.level) c.wake.ensures.literals)

pub returns-clause-course : goal.returns-clause-course
returns-clause-course c = λ h.
    let grown = subst (λ (n : ℕ). IsExtended (literals_of c.args.self.now.trail) n (literals_of c.wake.new.trail)) (sym c.requires.level) c.wake.ensures.literals in
    let level = c.wake.ensures.level ∙ sym c.requires.level in (
      course_grew (literals_of c.args.self.now.trail) (literals_of c.wake.new.trail) (level_of c.args.self.now.trail) (level_of c.wake.new.trail) c.args.self.now.base c.args.self.now.given.items grown level h.0,
      scanned_extended c.args.self.now.agenda (literals_of c.args.self.now.trail) (literals_of c.wake.new.trail) (level_of c.args.self.now.trail) (level_of c.wake.new.trail) grown level h.1,
    )
