use Rattle.std.proofs.Common.{sym, subst, arith, length-drop}
use Rattle.std.proofs.Math.Seq.{take-add}
use Rattle.std.proofs.lemmas.List.{take_rest}
use Rattle.std.proofs.KnownBytes.{Appends-trans}
use Rattle.std.specs.Io.KnownBytes.{Appends}
use Rattle.smt_desk.proofs.stream.write_whole.Goals as goal

pub loop-at-preserved : goal.loop-at-preserved
loop-at-preserved g c =
    let written = g.K.Sink.written in
    let n = c.in_ok-at.field-0 in
    let bound = c.in_ok-at.ensures.bound in
    record {
      within = omega (arith, c.in_ok-at.ensures.bound, length-drop c.loop-at.at c.args.bytes.now);
      written =
          subst (Appends (written c.args.sink.now) (written c.write.new.self)) (sym (take-add c.loop-at.at n c.args.bytes.now))
          (Appends-trans _ (written c.loop-at.sink) _ _ _ c.loop-at.invariant.written (rw (take_rest c.args.bytes.now c.loop-at.at) at c.in_ok-at.ensures.bytes));
      later = omega (arith, c.in_ok-at.ensures.cause.later, c.loop-at.invariant.later);
    }
