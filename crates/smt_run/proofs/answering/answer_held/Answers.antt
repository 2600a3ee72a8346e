use Rattle.std.proofs.Common.{refl, [], ◌∷◌, ◌++◌}
use Rattle.std.proofs.lemmas.Result.{err_from_is_err_and}
use Rattle.std.proofs.lemmas.Bool.{not-true}
use Rattle.smt_text.proofs.Cuts.{first_chunk_shrinks, Begins-push}
use Rattle.smt_check.specs.Runs.{counts}
use Rattle.smt_check.proofs.Parts.{adds_more, cause_after}
use Rattle.smt_run.specs.Adding.{moment_of, streams}
use Rattle.smt_run.proofs.Written.{Written-none, Written-more}
use Rattle.smt_run.proofs.Turning.{Advances-none, Advances-trans, held_stop, held_at}
use Rattle.smt_run.proofs.answering.answer_held.Goals as goal

pub commands-init : goal.commands-init
commands-init g c = record { written = Written-none _ _ _; chunks = []; begins = refl; advances = Advances-none _ _ _ _ refl refl c.requires }

pub returns-in_default-clause-broken : goal.returns-in_default-clause-broken
returns-in_default-clause-broken g c =
    let start = streams (g.W.Sink.written c.args.answers.now) (g.Q.Sink.written c.args.proof.now) in
    let here = streams (g.W.Sink.written c.commands.answers) (g.Q.Sink.written c.commands.proof) in
    held_stop c.args.framer.now c.commands.framer (moment_of c.args.so_far.session) c.args.so_far.refused c.commands.so_far start here c.commands.invariant.chunks
    (not-true c.commands.so_far.ended c.commands-test.true) c.commands.invariant.begins c.commands.invariant.advances

pub returns-in_err-so_far-clause-broken : goal.returns-in_err-so_far-clause-broken
returns-in_err-so_far-clause-broken g c =
    let p = err_from_is_err_and c.from_residual.result c.from_residual.ensures.1 in
    let start = streams (g.W.Sink.written c.args.answers.now) (g.Q.Sink.written c.args.proof.now) in
    let here = streams (g.W.Sink.written c.commands.answers) (g.Q.Sink.written c.commands.proof) in
    let behind = streams (g.W.Sink.written c.answer.new.answers) (g.Q.Sink.written c.answer.new.proof) in
    rw p.1
    (held_at c.args.framer.now c.commands.framer c.next.new.self (moment_of c.args.so_far.session) c.args.so_far.refused c.commands.so_far start here behind c.commands.invariant.chunks c.in-Some.chunk
    (not-true c.commands.so_far.ended c.commands-test.true) c.commands.invariant.begins c.commands.invariant.advances (rw c.in-Some.is at c.in-Ok.ensures.ok) c.in_err-so_far.ensures.broken)

pub returns-in_err-so_far-clause-answers : goal.returns-in_err-so_far-clause-answers
returns-in_err-so_far-clause-answers g c = adds_more _ _ _ c.commands.invariant.written.answers c.in_err-so_far.ensures.answers

pub returns-in_err-so_far-clause-proof : goal.returns-in_err-so_far-clause-proof
returns-in_err-so_far-clause-proof g c = adds_more _ _ _ c.commands.invariant.written.proof c.in_err-so_far.ensures.proof

pub commands-smaller : goal.commands-smaller
commands-smaller g c = (first_chunk_shrinks _ _ _ (rw c.in-Some.is at c.in-Ok.ensures.ok)).less

pub commands-preserved : goal.commands-preserved
commands-preserved g c =
    let start = streams (g.W.Sink.written c.args.answers.now) (g.Q.Sink.written c.args.proof.now) in
    let here = streams (g.W.Sink.written c.commands.answers) (g.Q.Sink.written c.commands.proof) in
    let behind = streams (g.W.Sink.written c.answer.new.answers) (g.Q.Sink.written c.answer.new.proof) in
    record {
      written =
          Written-more (g.W.Sink.written c.args.answers.now) (g.W.Sink.written c.commands.answers) (g.W.Sink.written c.answer.new.answers) (g.Q.Sink.written c.args.proof.now) (g.Q.Sink.written c.commands.proof) (g.Q.Sink.written c.answer.new.proof)
          (counts 0 (g.W.Sink.faults c.args.answers.now) (g.Q.Sink.faults c.args.proof.now)) (counts 0 (g.W.Sink.faults c.commands.answers) (g.Q.Sink.faults c.commands.proof)) (counts 0 (g.W.Sink.faults c.answer.new.answers) (g.Q.Sink.faults c.answer.new.proof))
          c.commands.invariant.written c.in_ok-so_far.ensures.answers c.in_ok-so_far.ensures.proof c.in_ok-so_far.ensures.later;
      chunks = c.commands.invariant.chunks ++ c.in-Some.chunk ∷ [];
      begins = Begins-push c.args.framer.now c.commands.invariant.chunks c.commands.framer c.in-Some.chunk c.next.new.self c.commands.invariant.begins (rw c.in-Some.is at c.in-Ok.ensures.ok);
      advances =
          Advances-trans (moment_of c.args.so_far.session) c.args.so_far.refused c.commands.so_far c.in_ok-so_far.so_far start here behind c.commands.invariant.chunks (c.in-Some.chunk ∷ [])
          (not-true c.commands.so_far.ended c.commands-test.true) c.commands.invariant.advances c.in_ok-so_far.ensures.turn;
    }

pub returns-in_err-so_far-clause-cause : goal.returns-in_err-so_far-clause-cause
returns-in_err-so_far-clause-cause g c =
    let p = err_from_is_err_and c.from_residual.result c.from_residual.ensures.1 in
    rw (p.1, p.2) (cause_after _ _ _ _ c.commands.invariant.written.later c.in_err-so_far.ensures.cause)
