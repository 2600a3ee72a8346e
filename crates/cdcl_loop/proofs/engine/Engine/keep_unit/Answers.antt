use Rattle.std.proofs.Common.{◌≡◌, List, Some, ap, ◌∙◌, arith}
use Rattle.std.proofs.Math.ListN.{set}
use Rattle.cnf_base.specs.declared.clause.ClauseId.{ClauseId}
use Rattle.cnf_base.specs.Literals.{Literal}
use Rattle.cdcl_core.specs.Search.{literals_of, level_of}
use Rattle.cdcl_learn.specs.Rows.{literal_at}
use Rattle.cdcl_loop.proofs.Agendas.{scanned_grown}
use Rattle.cdcl_loop.proofs.Restating.{unit_still, unit_low, restated_true, restated_course, trail_restated}
use Rattle.cdcl_loop.proofs.engine.Engine.keep_unit.Goals as goal

pub add-requires-clause-rests : goal.add-requires-clause-rests
add-requires-clause-rests c = λ j h. absurd (omega (arith, h, c.requires.level))

pub restate-requires-clause-within : goal.restate-requires-clause-within
restate-requires-clause-within c =
    let w = c.args.self.now.watches in
    let t = c.args.self.now.trail in
    let p = c.args.place in
    let id : ClauseId = record { pos = c.args.at; part = 0 } in
    let still = unit_still w t c.add.new.trail p id c.args.clause c.requires.engine c.requires.within c.requires.one c.in_ok-add.ensures.literals in
    rw still c.requires.within

pub restate-requires-clause-level : goal.restate-requires-clause-level
restate-requires-clause-level c =
    let w = c.args.self.now.watches in
    let t = c.args.self.now.trail in
    let p = c.args.place in
    let id : ClauseId = record { pos = c.args.at; part = 0 } in
    let still = unit_still w t c.add.new.trail p id c.args.clause c.requires.engine c.requires.within c.requires.one c.in_ok-add.ensures.literals in
    rw still (unit_low w t p c.requires.engine c.requires.within c.requires.level)

pub restate-requires-clause-clause : goal.restate-requires-clause-clause
restate-requires-clause-clause c =
    let w = c.args.self.now.watches in
    let t = c.args.self.now.trail in
    let p = c.args.place in
    let id : ClauseId = record { pos = c.args.at; part = 0 } in
    let still = unit_still w t c.add.new.trail p id c.args.clause c.requires.engine c.requires.within c.requires.one c.in_ok-add.ensures.literals in
    rw still (c.in_ok-add.ensures.kept ∙ ap (λ (ls : List Literal). Some ls) c.requires.one)

pub returns-clause-engine : goal.returns-clause-engine
returns-clause-engine c =
    let w = c.args.self.now.watches in
    let t = c.args.self.now.trail in
    let p = c.args.place in
    let id : ClauseId = record { pos = c.args.at; part = 0 } in
    let still = unit_still w t c.add.new.trail p id c.args.clause c.requires.engine c.requires.within c.requires.one c.in_ok-add.ensures.literals in
    let low = unit_low w t p c.requires.engine c.requires.within c.requires.level in
    let rows : literals_of c.restate.new.trail ≡ set (literals_of t) p (literal_at (literals_of t) p, 0, Some id) = rw still at c.restate.ensures.literals in
    trail_restated w c.add.new.self t c.restate.new.trail p id c.requires.engine c.restate.ensures.settled c.requires.within low rows

pub returns-clause-course : goal.returns-clause-course
returns-clause-course c = λ h.
    let w = c.args.self.now.watches in
    let t = c.args.self.now.trail in
    let p = c.args.place in
    let id : ClauseId = record { pos = c.args.at; part = 0 } in
    let still = unit_still w t c.add.new.trail p id c.args.clause c.requires.engine c.requires.within c.requires.one c.in_ok-add.ensures.literals in
    let low = unit_low w t p c.requires.engine c.requires.within c.requires.level in
    let rows : literals_of c.restate.new.trail ≡ set (literals_of t) p (literal_at (literals_of t) p, 0, Some id) = rw still at c.restate.ensures.literals in
    let level : level_of c.restate.new.trail ≡ level_of t = c.restate.ensures.level ∙ c.add.ensures.level in (
      rw (rows, level) (restated_course (literals_of t) p id c.requires.within low (level_of t) c.args.self.now.base c.args.self.now.given.items h.0),
      scanned_grown c.args.self.now.agenda (literals_of t) (literals_of c.restate.new.trail) (level_of t) (level_of c.restate.new.trail) level
          (λ j l x. rw rows (restated_true (literals_of t) p id c.requires.within low j l x)) h.1,
    )

pub returns-clause-literals : goal.returns-clause-literals
returns-clause-literals c =
    let w = c.args.self.now.watches in
    let t = c.args.self.now.trail in
    let p = c.args.place in
    let id : ClauseId = record { pos = c.args.at; part = 0 } in
    let still = unit_still w t c.add.new.trail p id c.args.clause c.requires.engine c.requires.within c.requires.one c.in_ok-add.ensures.literals in
    rw still at c.restate.ensures.literals

pub returns-clause-level : goal.returns-clause-level
returns-clause-level c = c.restate.ensures.level ∙ (c.add.ensures.level ∙ c.requires.level)
