use Rattle.std.proofs.Common.{◌≡◌, List, ℕ, refl, subst, inl, inr}
use Rattle.std.specs.Io.KnownBytes.{Appends}
use Rattle.smt_run.specs.Commands.{stream}
use Rattle.smt_run.specs.Drilling.{IsCutOff}
use Rattle.smt_run.proofs.Drilled.{cut_off, adds_written}
use Rattle.smt_run.proofs.drilling.tell_summary.Goals as goal

pub returns-in-Err-clause-told : goal.returns-in-Err-clause-told
returns-in-Err-clause-told g c = inr (inr (refl, refl))

pub returns-in-Ok-write_whole-clause-told : goal.returns-in-Ok-write_whole-clause-told
returns-in-Ok-write_whole-clause-told g c =
    let b = rw c.as_slice.ensures at c.in-Ok-write_whole.ensures.bytes in
    inl (refl, subst (λ (t : List ℕ). Appends (g.W.Sink.written c.args.answers.now) (g.W.Sink.written c.write_whole.new.sink) t) c.in-Ok.ensures b)

pub returns-in-Ok-write_whole-clause-answers : goal.returns-in-Ok-write_whole-clause-answers
returns-in-Ok-write_whole-clause-answers g c = (_, c.in-Ok-write_whole.ensures.bytes)

pub returns-clause-told : goal.returns-clause-told
returns-clause-told g c =
    let b = rw c.as_slice.ensures at c.in-Err-write_whole.ensures.bytes in
    let old = stream (g.W.Sink.written c.args.answers.now) (g.W.Sink.faults c.args.answers.now) in
    let new = stream (g.W.Sink.written c.write_whole.new.sink) (g.W.Sink.faults c.write_whole.new.sink) in
    inr (inl (refl, subst (λ (t : List ℕ). IsCutOff t old new) c.in-Ok.ensures (cut_off c.in-Ok.text b.0 old new b.2 c.in-Err-write_whole.ensures.cause.failed)))

pub returns-clause-answers : goal.returns-clause-answers
returns-clause-answers g c = (_, c.in-Err-write_whole.ensures.bytes.2)
