use Rattle.std.proofs.Common.{◌∙◌}
use Rattle.cdcl_core.specs.Search.{literals_of, level_of}
use Rattle.cdcl_loop.proofs.Assuming.{assumed_course, assumed_scanned, assumed_trail, assumed_base, assumed_literal, assumed_still, assumed_only, open_same}
use Rattle.cdcl_loop.proofs.engine.Engine.assume_open.Goals as goal

pub decide-requires-clause-unset : goal.decide-requires-clause-unset
decide-requires-clause-unset c = open_same c.args.self.now.trail c.reserve.new.trail c.args.literal c.in_ok-reserve.ensures.literals c.in_ok-reserve.ensures.level c.requires.unset

pub returns-in-Some-clause-store : goal.returns-in-Some-clause-store
returns-in-Some-clause-store c = record {
  kept = λ id. c.propagate-conflict.ensures.kept id ∙ c.in_ok-reserve.ensures.kept id;
  held = λ id. c.propagate-conflict.ensures.held id ∙ c.in_ok-reserve.ensures.held id;
}

pub returns-in-Some-clause-assuming : goal.returns-in-Some-clause-assuming
returns-in-Some-clause-assuming c = record {
  engine = assumed_trail c.args.self.now c.reserve.new.self c.propagate-conflict.new.self c.reserve.new.trail c.decide.new.trail c.propagate-conflict.new.trail c.args.literal c.requires.engine c.in_ok-reserve.ensures.settled c.in_ok-reserve.ensures.literals c.in_ok-reserve.ensures.level c.decide.ensures.settled c.decide.ensures.literals c.decide.ensures.level c.level-self.result c.level-self.ensures c.propagate-conflict.ensures.settled c.propagate-conflict.ensures.literals c.propagate-conflict.ensures.level c.requires.given c.requires.at_base c.requires.course.0;
  course = (
    assumed_course c.args.self.now c.reserve.new.self c.propagate-conflict.new.self c.reserve.new.trail c.decide.new.trail c.propagate-conflict.new.trail c.args.literal c.requires.engine c.in_ok-reserve.ensures.settled c.in_ok-reserve.ensures.literals c.in_ok-reserve.ensures.level c.decide.ensures.settled c.decide.ensures.literals c.decide.ensures.level c.level-self.result c.level-self.ensures c.propagate-conflict.ensures.settled c.propagate-conflict.ensures.literals c.propagate-conflict.ensures.level c.requires.given c.requires.at_base c.requires.course.0,
    assumed_scanned c.args.self.now c.reserve.new.self c.propagate-conflict.new.self c.reserve.new.trail c.decide.new.trail c.propagate-conflict.new.trail c.args.literal c.requires.engine c.in_ok-reserve.ensures.settled c.in_ok-reserve.ensures.literals c.in_ok-reserve.ensures.level c.decide.ensures.settled c.decide.ensures.literals c.decide.ensures.level c.level-self.result c.level-self.ensures c.propagate-conflict.ensures.settled c.propagate-conflict.ensures.literals c.propagate-conflict.ensures.level c.requires.given c.requires.at_base c.requires.course.0 c.mark.new.self (c.in_ok-mark.ensures.scanned (literals_of c.args.self.now.trail) (level_of c.args.self.now.trail) c.requires.course.1),
  );
  at_base = assumed_base c.args.self.now c.reserve.new.self c.propagate-conflict.new.self c.reserve.new.trail c.decide.new.trail c.propagate-conflict.new.trail c.args.literal c.requires.engine c.in_ok-reserve.ensures.settled c.in_ok-reserve.ensures.literals c.in_ok-reserve.ensures.level c.decide.ensures.settled c.decide.ensures.literals c.decide.ensures.level c.level-self.result c.level-self.ensures c.propagate-conflict.ensures.settled c.propagate-conflict.ensures.literals c.propagate-conflict.ensures.level c.requires.given c.requires.at_base c.requires.course.0;
  made = assumed_literal c.args.self.now c.reserve.new.self c.propagate-conflict.new.self c.reserve.new.trail c.decide.new.trail c.propagate-conflict.new.trail c.args.literal c.requires.engine c.in_ok-reserve.ensures.settled c.in_ok-reserve.ensures.literals c.in_ok-reserve.ensures.level c.decide.ensures.settled c.decide.ensures.literals c.decide.ensures.level c.level-self.result c.level-self.ensures c.propagate-conflict.ensures.settled c.propagate-conflict.ensures.literals c.propagate-conflict.ensures.level c.requires.given c.requires.at_base c.requires.course.0;
  kept = assumed_still c.args.self.now c.reserve.new.self c.propagate-conflict.new.self c.reserve.new.trail c.decide.new.trail c.propagate-conflict.new.trail c.args.literal c.requires.engine c.in_ok-reserve.ensures.settled c.in_ok-reserve.ensures.literals c.in_ok-reserve.ensures.level c.decide.ensures.settled c.decide.ensures.literals c.decide.ensures.level c.level-self.result c.level-self.ensures c.propagate-conflict.ensures.settled c.propagate-conflict.ensures.literals c.propagate-conflict.ensures.level c.requires.given c.requires.at_base c.requires.course.0;
}

pub returns-in-Some-clause-clash : goal.returns-in-Some-clause-clash
returns-in-Some-clause-clash c = (
  c.in-Some.ensures.conflict,
  assumed_only c.args.self.now c.reserve.new.self c.propagate-conflict.new.self c.reserve.new.trail c.decide.new.trail c.propagate-conflict.new.trail c.args.literal c.requires.engine c.in_ok-reserve.ensures.settled c.in_ok-reserve.ensures.literals c.in_ok-reserve.ensures.level c.decide.ensures.settled c.decide.ensures.literals c.decide.ensures.level c.level-self.result c.level-self.ensures c.propagate-conflict.ensures.settled c.propagate-conflict.ensures.literals c.propagate-conflict.ensures.level c.requires.given c.requires.at_base c.requires.course.0,
)

pub returns-in-None-clause-store : goal.returns-in-None-clause-store
returns-in-None-clause-store c = record {
  kept = λ id. c.propagate-conflict.ensures.kept id ∙ c.in_ok-reserve.ensures.kept id;
  held = λ id. c.propagate-conflict.ensures.held id ∙ c.in_ok-reserve.ensures.held id;
}

pub returns-in-None-clause-assuming : goal.returns-in-None-clause-assuming
returns-in-None-clause-assuming c = record {
  engine = assumed_trail c.args.self.now c.reserve.new.self c.propagate-conflict.new.self c.reserve.new.trail c.decide.new.trail c.propagate-conflict.new.trail c.args.literal c.requires.engine c.in_ok-reserve.ensures.settled c.in_ok-reserve.ensures.literals c.in_ok-reserve.ensures.level c.decide.ensures.settled c.decide.ensures.literals c.decide.ensures.level c.level-self.result c.level-self.ensures c.propagate-conflict.ensures.settled c.propagate-conflict.ensures.literals c.propagate-conflict.ensures.level c.requires.given c.requires.at_base c.requires.course.0;
  course = (
    assumed_course c.args.self.now c.reserve.new.self c.propagate-conflict.new.self c.reserve.new.trail c.decide.new.trail c.propagate-conflict.new.trail c.args.literal c.requires.engine c.in_ok-reserve.ensures.settled c.in_ok-reserve.ensures.literals c.in_ok-reserve.ensures.level c.decide.ensures.settled c.decide.ensures.literals c.decide.ensures.level c.level-self.result c.level-self.ensures c.propagate-conflict.ensures.settled c.propagate-conflict.ensures.literals c.propagate-conflict.ensures.level c.requires.given c.requires.at_base c.requires.course.0,
    assumed_scanned c.args.self.now c.reserve.new.self c.propagate-conflict.new.self c.reserve.new.trail c.decide.new.trail c.propagate-conflict.new.trail c.args.literal c.requires.engine c.in_ok-reserve.ensures.settled c.in_ok-reserve.ensures.literals c.in_ok-reserve.ensures.level c.decide.ensures.settled c.decide.ensures.literals c.decide.ensures.level c.level-self.result c.level-self.ensures c.propagate-conflict.ensures.settled c.propagate-conflict.ensures.literals c.propagate-conflict.ensures.level c.requires.given c.requires.at_base c.requires.course.0 c.mark.new.self (c.in_ok-mark.ensures.scanned (literals_of c.args.self.now.trail) (level_of c.args.self.now.trail) c.requires.course.1),
  );
  at_base = assumed_base c.args.self.now c.reserve.new.self c.propagate-conflict.new.self c.reserve.new.trail c.decide.new.trail c.propagate-conflict.new.trail c.args.literal c.requires.engine c.in_ok-reserve.ensures.settled c.in_ok-reserve.ensures.literals c.in_ok-reserve.ensures.level c.decide.ensures.settled c.decide.ensures.literals c.decide.ensures.level c.level-self.result c.level-self.ensures c.propagate-conflict.ensures.settled c.propagate-conflict.ensures.literals c.propagate-conflict.ensures.level c.requires.given c.requires.at_base c.requires.course.0;
  made = assumed_literal c.args.self.now c.reserve.new.self c.propagate-conflict.new.self c.reserve.new.trail c.decide.new.trail c.propagate-conflict.new.trail c.args.literal c.requires.engine c.in_ok-reserve.ensures.settled c.in_ok-reserve.ensures.literals c.in_ok-reserve.ensures.level c.decide.ensures.settled c.decide.ensures.literals c.decide.ensures.level c.level-self.result c.level-self.ensures c.propagate-conflict.ensures.settled c.propagate-conflict.ensures.literals c.propagate-conflict.ensures.level c.requires.given c.requires.at_base c.requires.course.0;
  kept = assumed_still c.args.self.now c.reserve.new.self c.propagate-conflict.new.self c.reserve.new.trail c.decide.new.trail c.propagate-conflict.new.trail c.args.literal c.requires.engine c.in_ok-reserve.ensures.settled c.in_ok-reserve.ensures.literals c.in_ok-reserve.ensures.level c.decide.ensures.settled c.decide.ensures.literals c.decide.ensures.level c.level-self.result c.level-self.ensures c.propagate-conflict.ensures.settled c.propagate-conflict.ensures.literals c.propagate-conflict.ensures.level c.requires.given c.requires.at_base c.requires.course.0;
}
