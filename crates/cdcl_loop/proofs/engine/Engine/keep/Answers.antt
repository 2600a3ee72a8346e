use Rattle.std.proofs.Common.{◌<◌, List, ap, ◌∙◌, subst, arith}
use Rattle.cnf_base.specs.declared.clause.ClauseId.{ClauseId}
use Rattle.cdcl_core.specs.Levels.{Row, IsAdded}
use Rattle.cdcl_core.specs.Search.{literals_of, level_of, clause_of, held_of}
use Rattle.cdcl_learn.proofs.Orders.{rests_after}
use Rattle.cdcl_loop.specs.declared.engine.Engine.{Engine}
use Rattle.cdcl_loop.proofs.Agendas.{scanned_added}
use Rattle.cdcl_loop.proofs.Courses.{course_came}
use Rattle.cdcl_loop.proofs.Trails.{trail_added}
use Rattle.cdcl_loop.proofs.engine.Engine.keep.Goals as goal

pub add-requires-clause-rests : goal.add-requires-clause-rests
add-requires-clause-rests c = λ j h.
    let low : j < c.args.level = omega (arith, h, c.go_back.ensures.level) in
    rw c.go_back.ensures.literals (rests_after (literals_of c.args.self.now.trail) c.args.level j c.args.clause (omega (arith, low)) (c.requires.unit.rests j low))

pub returns-clause-engine : goal.returns-clause-engine
returns-clause-engine c =
    trail_added c.go_back.new.self.watches c.add.new.self c.go_back.new.self.trail c.add.new.trail (record { pos = c.args.at; part = 0 }) c.args.clause
    c.go_back.ensures.engine c.in_ok-add.ensures.settled
    c.in_ok-add.ensures.literals

pub returns-clause-course : goal.returns-clause-course
returns-clause-course c = λ h.
    let back = c.go_back.ensures.course h in (
      course_came (literals_of c.go_back.new.self.trail) (literals_of c.add.new.trail) (level_of c.go_back.new.self.trail) (level_of c.add.new.trail) c.go_back.new.self.base (record { pos = c.args.at; part = 0 }) c.args.clause c.go_back.new.self.given.items
          c.in_ok-add.ensures.literals c.in_ok-add.ensures.level back.0,
      scanned_added c.go_back.new.self.agenda (literals_of c.go_back.new.self.trail) (literals_of c.add.new.trail) (level_of c.go_back.new.self.trail) (level_of c.add.new.trail) (record { pos = c.args.at; part = 0 }) c.args.clause
          c.in_ok-add.ensures.literals c.in_ok-add.ensures.level back.1,
    )

pub returns-clause-others : goal.returns-clause-others
returns-clause-others c = record {
  kept = λ q ne. c.add.ensures.others q ne ∙ ap (λ (e : Engine). clause_of e.watches q) c.go_back.ensures.same;
  held = λ q ne. c.add.ensures.others_held q ne ∙ ap (λ (e : Engine). held_of e.watches q) c.go_back.ensures.same;
}

pub returns-clause-literals : goal.returns-clause-literals
returns-clause-literals c =
    let id : ClauseId = record { pos = c.args.at; part = 0 } in
    subst (λ (rows : List Row). IsAdded rows c.args.level id c.args.clause (literals_of c.add.new.trail)) c.go_back.ensures.literals
    (subst (λ n. IsAdded (literals_of c.go_back.new.self.trail) n id c.args.clause (literals_of c.add.new.trail)) c.go_back.ensures.level c.in_ok-add.ensures.literals)

pub returns-in_err-add-clause-others : goal.returns-in_err-add-clause-others
returns-in_err-add-clause-others c = record {
  kept = λ q ne. c.add.ensures.others q ne ∙ ap (λ (e : Engine). clause_of e.watches q) c.go_back.ensures.same;
  held = λ q ne. c.add.ensures.others_held q ne ∙ ap (λ (e : Engine). held_of e.watches q) c.go_back.ensures.same;
}
