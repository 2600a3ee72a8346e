use Rattle.std.proofs.Common.{take, drop, sym, ◌∙◌, arith, append-nil, take-append-drop, []}
use Rattle.dimacs_run.proofs.Ways.{within_none}
use Rattle.dimacs_run.proofs.Told.{adds_none, front_none, line_told, front_told, right_told, cause_silent}
use Rattle.dimacs_run.proofs.refuting.refute.Goals as goal

-- no memory for the buffer

pub returns-in-Err-clause-right : goal.returns-in-Err-clause-right
returns-in-Err-clause-right g c = λ e. let z : ⊥ = cc in absurd z

pub returns-in-Err-clause-front : goal.returns-in-Err-clause-front
returns-in-Err-clause-front g c = front_none (g.S.Source.left c.args.clauses.now) (g.P.Source.left c.args.refutation.now) (g.W.Sink.written c.args.answers.now)

pub returns-in-Err-clause-answers : goal.returns-in-Err-clause-answers
returns-in-Err-clause-answers g c = adds_none _

pub returns-in-Err-clause-read : goal.returns-in-Err-clause-read
returns-in-Err-clause-read g c = (within_none _, within_none _)

pub returns-in-Err-clause-later : goal.returns-in-Err-clause-later
returns-in-Err-clause-later g c = record { clauses = omega arith; answers = omega arith; refutation = omega arith }

pub returns-in-Err-clause-cause : goal.returns-in-Err-clause-cause
returns-in-Err-clause-cause g c = tt

-- a text was not read

pub returns-in-Err-judge-clause-right : goal.returns-in-Err-judge-clause-right
returns-in-Err-judge-clause-right g c = λ e. let z : ⊥ = cc in absurd z

pub returns-in-Err-judge-clause-front : goal.returns-in-Err-judge-clause-front
returns-in-Err-judge-clause-front g c = front_none (g.S.Source.left c.args.clauses.now) (g.P.Source.left c.args.refutation.now) (g.W.Sink.written c.args.answers.now)

pub returns-in-Err-judge-clause-answers : goal.returns-in-Err-judge-clause-answers
returns-in-Err-judge-clause-answers g c = adds_none _

pub returns-in-Err-judge-clause-read : goal.returns-in-Err-judge-clause-read
returns-in-Err-judge-clause-read g c = c.in-Err-judge.ensures.read

pub returns-in-Err-judge-clause-later : goal.returns-in-Err-judge-clause-later
returns-in-Err-judge-clause-later g c = record { clauses = c.judge.ensures.clauses_later; answers = omega arith; refutation = c.judge.ensures.refutation_later }

pub returns-in-Err-judge-clause-cause : goal.returns-in-Err-judge-clause-cause
returns-in-Err-judge-clause-cause g c = cause_silent _ _ _ _ _ _ _ c.in-Err-judge.ensures.cause

-- no memory for the line

pub returns-in-Err-ending_line-clause-right : goal.returns-in-Err-ending_line-clause-right
returns-in-Err-ending_line-clause-right g c = λ e. let z : ⊥ = cc in absurd z

pub returns-in-Err-ending_line-clause-front : goal.returns-in-Err-ending_line-clause-front
returns-in-Err-ending_line-clause-front g c = front_none (g.S.Source.left c.args.clauses.now) (g.P.Source.left c.args.refutation.now) (g.W.Sink.written c.args.answers.now)

pub returns-in-Err-ending_line-clause-answers : goal.returns-in-Err-ending_line-clause-answers
returns-in-Err-ending_line-clause-answers g c = adds_none _

pub returns-in-Err-ending_line-clause-read : goal.returns-in-Err-ending_line-clause-read
returns-in-Err-ending_line-clause-read g c = c.in-Ok-judge.ensures.read

pub returns-in-Err-ending_line-clause-later : goal.returns-in-Err-ending_line-clause-later
returns-in-Err-ending_line-clause-later g c = record { clauses = c.judge.ensures.clauses_later; answers = omega arith; refutation = c.judge.ensures.refutation_later }

pub returns-in-Err-ending_line-clause-cause : goal.returns-in-Err-ending_line-clause-cause
returns-in-Err-ending_line-clause-cause g c = tt

-- all is told

pub returns-in-Ok-write_whole-clause-ended : goal.returns-in-Ok-write_whole-clause-ended
returns-in-Ok-write_whole-clause-ended g c = line_told (g.S.Source.left c.args.clauses.now) (g.P.Source.left c.args.refutation.now) (g.W.Sink.written c.args.answers.now) (g.W.Sink.written c.write_whole.new.sink) c.in-Ok-judge.fault c.in-Ok-judge.ensures.judged _ (c.as_slice.ensures ∙ c.in-Ok-ending_line.ensures) c.in-Ok-write_whole.ensures.bytes

pub returns-in-Ok-write_whole-clause-right : goal.returns-in-Ok-write_whole-clause-right
returns-in-Ok-write_whole-clause-right g c = λ e. right_told (g.S.Source.left c.args.clauses.now) (g.P.Source.left c.args.refutation.now) (g.W.Sink.written c.args.answers.now) (g.W.Sink.written c.write_whole.new.sink) c.in-Ok-judge.fault c.refutations_are_right.ensures e (line_told (g.S.Source.left c.args.clauses.now) (g.P.Source.left c.args.refutation.now) (g.W.Sink.written c.args.answers.now) (g.W.Sink.written c.write_whole.new.sink) c.in-Ok-judge.fault c.in-Ok-judge.ensures.judged _ (c.as_slice.ensures ∙ c.in-Ok-ending_line.ensures) c.in-Ok-write_whole.ensures.bytes)

pub returns-in-Ok-write_whole-clause-front : goal.returns-in-Ok-write_whole-clause-front
returns-in-Ok-write_whole-clause-front g c = front_told (g.S.Source.left c.args.clauses.now) (g.P.Source.left c.args.refutation.now) (g.W.Sink.written c.args.answers.now) (g.W.Sink.written c.write_whole.new.sink) c.in-Ok-judge.fault c.in-Ok-judge.ensures.judged _ _ [] (c.as_slice.ensures ∙ c.in-Ok-ending_line.ensures) (sym (append-nil _)) c.in-Ok-write_whole.ensures.bytes

pub returns-in-Ok-write_whole-clause-answers : goal.returns-in-Ok-write_whole-clause-answers
returns-in-Ok-write_whole-clause-answers g c = (_, c.in-Ok-write_whole.ensures.bytes)

pub returns-in-Ok-write_whole-clause-read : goal.returns-in-Ok-write_whole-clause-read
returns-in-Ok-write_whole-clause-read g c = c.in-Ok-judge.ensures.read

pub returns-in-Ok-write_whole-clause-later : goal.returns-in-Ok-write_whole-clause-later
returns-in-Ok-write_whole-clause-later g c = record { clauses = c.judge.ensures.clauses_later; answers = c.write_whole.ensures.cause.later; refutation = c.judge.ensures.refutation_later }

-- the sink failed

pub returns-clause-right : goal.returns-clause-right
returns-clause-right g c = λ e. let z : ⊥ = cc in absurd z

pub returns-clause-front : goal.returns-clause-front
returns-clause-front g c = let b = c.in-Err-write_whole.ensures.bytes in front_told (g.S.Source.left c.args.clauses.now) (g.P.Source.left c.args.refutation.now) (g.W.Sink.written c.args.answers.now) (g.W.Sink.written c.write_whole.new.sink) c.in-Ok-judge.fault c.in-Ok-judge.ensures.judged _ (take b.0 c.as_slice.result.now) (drop b.0 c.as_slice.result.now) (c.as_slice.ensures ∙ c.in-Ok-ending_line.ensures) (sym (take-append-drop b.0 c.as_slice.result.now)) b.2

pub returns-clause-answers : goal.returns-clause-answers
returns-clause-answers g c = (_, c.in-Err-write_whole.ensures.bytes.2)

pub returns-clause-read : goal.returns-clause-read
returns-clause-read g c = c.in-Ok-judge.ensures.read

pub returns-clause-later : goal.returns-clause-later
returns-clause-later g c = record { clauses = c.judge.ensures.clauses_later; answers = c.write_whole.ensures.cause.later; refutation = c.judge.ensures.refutation_later }

pub returns-clause-cause : goal.returns-clause-cause
returns-clause-cause g c = c.in-Err-write_whole.ensures.cause.failed
