use Rattle.std.proofs.Common.{◌∙◌, Some, arith}
use Rattle.smt_session.specs.Sessions.{limits_of}
use Rattle.smt_run.proofs.Ends.{answered_unless}
use Rattle.smt_run.proofs.Drilled.{drilled_over, undrawn, told_usage}
use Rattle.smt_run.proofs.running.drill.Goals as goal

pub returns-in-Err-clause-drills : goal.returns-in-Err-clause-drills
returns-in-Err-clause-drills g c = λ script. undrawn _ _ _ _

pub returns-clause-usage : goal.returns-clause-usage
returns-clause-usage g c = told_usage _ _ _ _ _ _ c.solve-solved.ensures.usage c.tell.ensures.told

pub returns-clause-drills : goal.returns-clause-drills
returns-clause-drills g c = λ script.
    drilled_over (limits_of c.args.settings) c.args.draw.seed c.args.draw.size c.solve-solved.result _ c.solve-solved.new.script c.solve-solved.new.answers.bytes c.solve-solved.new.answers.refused script _ _ _ _ c.new-given.result c.new-kept.result
    (c.new-given.ensures ∙ c.as_slice.ensures ∙ c.in-Ok.ensures) c.new-kept.ensures c.requires.size c.solve-solved.ensures.usage
    (record {
      beside = c.solve-solved.ensures.beside;
      whole = c.solve-solved.ensures.whole;
      prefix = c.solve-solved.ensures.prefix;
      answered = c.solve-solved.ensures.answered;
      complete = λ x y. answered_unless (Some c.new-given.result) (Some c.solve-solved.new.script) _ _ _ c.solve-solved.ensures.usage c.solve-solved.ensures.too_long c.solve-solved.ensures.cause x y;
      at_end = c.solve-solved.ensures.at_end;
      within = c.solve-solved.ensures.within;
      too_long = c.solve-solved.ensures.too_long;
      header = c.solve-solved.ensures.header;
      cause = c.solve-solved.ensures.cause;
    }) c.tell.ensures.told
