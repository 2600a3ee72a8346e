use Rattle.std.proofs.Common.{List, ◌++◌, ◌∷◌, [], None, ap, ◌∙◌, ◌+◌}
use Rattle.cdcl_core.specs.Levels.{Row}
use Rattle.cdcl_core.specs.Search.{literals_of, level_of}
use Rattle.cdcl_loop.proofs.Assuming.{decided_trail, decided_free, decided_scanned, open_same}
use Rattle.cdcl_loop.proofs.engine.Engine.decide.Goals as goal

pub decide-requires-clause-unset : goal.decide-requires-clause-unset
decide-requires-clause-unset c = open_same c.args.self.now.trail c.reserve.new.trail c.in-Some.literal c.in_ok-reserve.ensures.literals c.in_ok-reserve.ensures.level c.in-Some.ensures.next.1

pub returns-clause-engine : goal.returns-clause-engine
returns-clause-engine c = decided_trail c.args.self.now c.reserve.new.self c.reserve.new.self c.reserve.new.trail c.decide.new.trail c.decide.new.trail c.in-Some.literal c.requires.engine c.in_ok-reserve.ensures.settled c.in_ok-reserve.ensures.literals c.in_ok-reserve.ensures.level c.decide.ensures.settled c.decide.ensures.literals c.decide.ensures.level

pub returns-clause-course : goal.returns-clause-course
returns-clause-course c = (
  decided_free c.args.self.now c.reserve.new.self c.reserve.new.self c.reserve.new.trail c.decide.new.trail c.decide.new.trail c.in-Some.literal c.requires.engine c.in_ok-reserve.ensures.settled c.in_ok-reserve.ensures.literals c.in_ok-reserve.ensures.level c.decide.ensures.settled c.decide.ensures.literals c.decide.ensures.level c.requires.assumed.all c.requires.course.0,
  decided_scanned c.args.self.now c.reserve.new.self c.reserve.new.self c.reserve.new.trail c.decide.new.trail c.decide.new.trail c.in-Some.literal c.requires.engine c.in_ok-reserve.ensures.settled c.in_ok-reserve.ensures.literals c.in_ok-reserve.ensures.level c.decide.ensures.settled c.decide.ensures.literals c.decide.ensures.level c.mark.new.self (c.in_ok-mark.ensures.scanned (literals_of c.args.self.now.trail) (level_of c.args.self.now.trail) c.open_literal.ensures.scanned),
)

pub returns-in_default-clause-course : goal.returns-in_default-clause-course
returns-in_default-clause-course c = (c.requires.course.0, c.open_literal.ensures.scanned)

pub returns-clause-decided : goal.returns-clause-decided
returns-clause-decided c = λ e. record {
  literal = c.in-Some.literal;
  listed = c.in-Some.ensures.next.0;
  unset = c.in-Some.ensures.next.1;
  literals = c.decide.ensures.literals
      ∙ ap (λ (rows : List Row). rows ++ (c.in-Some.literal, level_of c.reserve.new.trail + 1, None) ∷ []) c.in_ok-reserve.ensures.literals
      ∙ ap (λ n. literals_of c.args.self.now.trail ++ (c.in-Some.literal, n + 1, None) ∷ []) c.in_ok-reserve.ensures.level;
  level = c.decide.ensures.level ∙ ap (λ n. n + 1) c.in_ok-reserve.ensures.level;
}
