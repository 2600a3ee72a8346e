use Rattle.std.proofs.Common.{inl, inr}
use Rattle.smt_check.proofs.Parts.{adds_none, later_same}
use Rattle.smt_run.proofs.Written.{within_none}
use Rattle.smt_check.proofs.Reported.{told_nothing}
use Rattle.smt_run.proofs.Ends.{memory_usage, memory_done, memory_refused, memory_end, right_told, refused_told}
use Rattle.smt_run.proofs.running.check_proof.Goals as goal

pub returns-in-Err-clause-usage : goal.returns-in-Err-clause-usage
returns-in-Err-clause-usage g c = memory_usage

pub returns-in-Err-clause-ended : goal.returns-in-Err-clause-ended
returns-in-Err-clause-ended g c = memory_end _

pub returns-in-Err-clause-right : goal.returns-in-Err-clause-right
returns-in-Err-clause-right g c = memory_done _

pub returns-in-Err-clause-refused : goal.returns-in-Err-clause-refused
returns-in-Err-clause-refused g c = memory_refused _

pub returns-in-Err-clause-front : goal.returns-in-Err-clause-front
returns-in-Err-clause-front g c = told_nothing (g.S.Source.left c.args.script.now) (g.P.Source.left c.args.proof.now) (g.W.Sink.written c.args.answers.now)

pub returns-in-Err-clause-read : goal.returns-in-Err-clause-read
returns-in-Err-clause-read g c = (within_none _, within_none _)

pub returns-in-Err-clause-answers : goal.returns-in-Err-clause-answers
returns-in-Err-clause-answers g c = adds_none _

pub returns-in-Err-clause-later : goal.returns-in-Err-clause-later
returns-in-Err-clause-later g c = later_same _

pub returns-in-Err-clause-cause : goal.returns-in-Err-clause-cause
returns-in-Err-clause-cause g c = tt

pub returns : goal.returns
returns g c = record {
  usage = c.check.ensures.usage;
  ended = c.check.ensures.ended;
  right = λ e. right_told (g.S.Source.left c.args.script.now) (g.P.Source.left c.args.proof.now) (g.W.Sink.written c.args.answers.now) (g.W.Sink.written c.check.new.answers) _ c.what_is_accepted_is_right.ensures e (c.check.ensures.ended (inl e));
  refused = λ e. refused_told (g.S.Source.left c.args.script.now) (g.P.Source.left c.args.proof.now) (g.W.Sink.written c.args.answers.now) (g.W.Sink.written c.check.new.answers) _ c.accepted_proofs_pass.ensures c.texts_are_judged_one_way.ensures e (c.check.ensures.ended (inr e));
  front = c.check.ensures.front;
  read = c.check.ensures.read;
  answers = c.check.ensures.answers;
  later = c.check.ensures.later;
  cause = c.check.ensures.cause;
}
