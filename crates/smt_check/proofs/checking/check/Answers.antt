use Rattle.std.proofs.Common.{sym, ◌∙◌, arith}
use Rattle.proof_checker.specs.Checkings.{verdicts_by}
use Rattle.smt_check.specs.declared.status.Status.TheVariants.{NoMemory}
use Rattle.smt_check.proofs.Parts.{adds_more, rose_after}
use Rattle.smt_check.proofs.Reported.{stopped_usage, stopped_end, stopped_read, end_usage, end_read, end_cause, write_usage, write_end, line_ends, line_front, whole_front}
use Rattle.smt_check.proofs.checking.check.Goals as goal

-- the check of the texts stopped

pub returns-in-Err-clause-usage : goal.returns-in-Err-clause-usage
returns-in-Err-clause-usage g c = stopped_usage _ _ _ _ _ c.in-Err.ensures.read

pub returns-in-Err-clause-ended : goal.returns-in-Err-clause-ended
returns-in-Err-clause-ended g c = stopped_end _ _ _ _ _ _ c.in-Err.ensures.read

pub returns-in-Err-clause-front : goal.returns-in-Err-clause-front
returns-in-Err-clause-front g c = c.check_texts.ensures.front

pub returns-in-Err-clause-read : goal.returns-in-Err-clause-read
returns-in-Err-clause-read g c = stopped_read _ _ _ _ _ c.in-Err.ensures.read

pub returns-in-Err-clause-answers : goal.returns-in-Err-clause-answers
returns-in-Err-clause-answers g c = c.check_texts.ensures.answers

pub returns-in-Err-clause-later : goal.returns-in-Err-clause-later
returns-in-Err-clause-later g c = c.check_texts.ensures.later

pub returns-in-Err-clause-cause : goal.returns-in-Err-clause-cause
returns-in-Err-clause-cause g c = c.in-Err.ensures.cause

-- no memory for the last line

pub returns-in-Err-end_line-clause-usage : goal.returns-in-Err-end_line-clause-usage
returns-in-Err-end_line-clause-usage g c = stopped_usage _ _ _ _ NoMemory c.in-Ok.ensures.read

pub returns-in-Err-end_line-clause-ended : goal.returns-in-Err-end_line-clause-ended
returns-in-Err-end_line-clause-ended g c = stopped_end _ _ _ _ _ NoMemory c.in-Ok.ensures.read

pub returns-in-Err-end_line-clause-front : goal.returns-in-Err-end_line-clause-front
returns-in-Err-end_line-clause-front g c = c.check_texts.ensures.front

pub returns-in-Err-end_line-clause-read : goal.returns-in-Err-end_line-clause-read
returns-in-Err-end_line-clause-read g c = c.in-Ok.ensures.read

pub returns-in-Err-end_line-clause-answers : goal.returns-in-Err-end_line-clause-answers
returns-in-Err-end_line-clause-answers g c = c.check_texts.ensures.answers

pub returns-in-Err-end_line-clause-later : goal.returns-in-Err-end_line-clause-later
returns-in-Err-end_line-clause-later g c = c.check_texts.ensures.later

pub returns-in-Err-end_line-clause-cause : goal.returns-in-Err-end_line-clause-cause
returns-in-Err-end_line-clause-cause g c = tt

-- all is told

pub returns-in-Ok-write_whole-clause-usage : goal.returns-in-Ok-write_whole-clause-usage
returns-in-Ok-write_whole-clause-usage g c = λ e. end_usage _ (sym c.end_status.ensures ∙ e)

pub returns-in-Ok-write_whole-clause-ended : goal.returns-in-Ok-write_whole-clause-ended
returns-in-Ok-write_whole-clause-ended g c = λ _. line_ends (g.S.Source.left c.args.script.now) (g.P.Source.left c.args.proof.now) (g.W.Sink.written c.args.answers.now) (g.W.Sink.written c.check_texts.new.answers) (g.W.Sink.written c.write_whole.new.sink) (verdicts_by c.in-Ok.judgement.checker) c.in-Ok.judgement.refusal _ c.in-Ok.ensures.judged c.in-Ok.ensures.told (c.as_slice.ensures ∙ c.in-Ok-end_line.ensures) _ c.in-Ok-write_whole.ensures.bytes c.end_status.ensures

pub returns-in-Ok-write_whole-clause-front : goal.returns-in-Ok-write_whole-clause-front
returns-in-Ok-write_whole-clause-front g c = whole_front (g.S.Source.left c.args.script.now) (g.P.Source.left c.args.proof.now) (g.W.Sink.written c.args.answers.now) (g.W.Sink.written c.check_texts.new.answers) (g.W.Sink.written c.write_whole.new.sink) (verdicts_by c.in-Ok.judgement.checker) c.in-Ok.judgement.refusal _ c.in-Ok.ensures.judged c.in-Ok.ensures.told (c.as_slice.ensures ∙ c.in-Ok-end_line.ensures) c.in-Ok.ensures.known c.in-Ok-write_whole.ensures.bytes

pub returns-in-Ok-write_whole-clause-read : goal.returns-in-Ok-write_whole-clause-read
returns-in-Ok-write_whole-clause-read g c = rw c.end_status.ensures (end_read _ _ _ _ _ c.in-Ok.ensures.read)

pub returns-in-Ok-write_whole-clause-answers : goal.returns-in-Ok-write_whole-clause-answers
returns-in-Ok-write_whole-clause-answers g c = adds_more _ _ _ c.check_texts.ensures.answers (_, c.in-Ok-write_whole.ensures.bytes)

pub returns-in-Ok-write_whole-clause-later : goal.returns-in-Ok-write_whole-clause-later
returns-in-Ok-write_whole-clause-later g c =
    let w = c.check_texts.ensures.later in
    record { script = w.script; answers = omega (arith, w.answers, c.write_whole.ensures.cause.later); proof = w.proof }

pub returns-in-Ok-write_whole-clause-cause : goal.returns-in-Ok-write_whole-clause-cause
returns-in-Ok-write_whole-clause-cause g c = rw c.end_status.ensures (end_cause _ _ _)

-- the sink failed

pub returns-clause-usage : goal.returns-clause-usage
returns-clause-usage g c = write_usage

pub returns-clause-ended : goal.returns-clause-ended
returns-clause-ended g c = write_end _

pub returns-clause-front : goal.returns-clause-front
returns-clause-front g c =
    let b = c.in-Err-write_whole.ensures.bytes in
    line_front (g.S.Source.left c.args.script.now) (g.P.Source.left c.args.proof.now) (g.W.Sink.written c.args.answers.now) (g.W.Sink.written c.check_texts.new.answers) (g.W.Sink.written c.write_whole.new.sink) (verdicts_by c.in-Ok.judgement.checker) c.in-Ok.judgement.refusal _ c.in-Ok.ensures.judged c.in-Ok.ensures.told (c.as_slice.ensures ∙ c.in-Ok-end_line.ensures) c.in-Ok.ensures.known b.0 b.2

pub returns-clause-read : goal.returns-clause-read
returns-clause-read g c = c.in-Ok.ensures.read

pub returns-clause-answers : goal.returns-clause-answers
returns-clause-answers g c = adds_more _ _ _ c.check_texts.ensures.answers (_, c.in-Err-write_whole.ensures.bytes.2)

pub returns-clause-later : goal.returns-clause-later
returns-clause-later g c =
    let w = c.check_texts.ensures.later in
    record { script = w.script; answers = omega (arith, w.answers, c.write_whole.ensures.cause.later); proof = w.proof }

pub returns-clause-cause : goal.returns-clause-cause
returns-clause-cause g c =
    let w = c.check_texts.ensures.later in
    rose_after _ _ _ w.answers c.in-Err-write_whole.ensures.cause.failed
