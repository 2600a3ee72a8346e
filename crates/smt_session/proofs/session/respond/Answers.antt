use Rattle.std.proofs.Common.{sym, subst}
use Rattle.std.specs.Prelude.{Option}
use Rattle.std.proofs.KnownBytes.{Appends-nil}
use Rattle.std.proofs.lemmas.Result.{IfOk-weaker, IfErr-weaker, err_from_is_err_and}
use Rattle.proof_text.specs.declared.record.Record.{Record}
use Rattle.proof_file.specs.Files.{file_of}
use Rattle.smt_session.specs.Sessions.{Responds, limits_of}
use Rattle.smt_session.specs.Tabled.{IsSortedRecord}
use Rattle.smt_session.proofs.Responding.{checks_nothing, of_check, cut_of_check}
use Rattle.smt_session.proofs.session.respond.Goals as goal

pub returns-then-is_check-clause-still : goal.returns-then-is_check-clause-still
returns-then-is_check-clause-still g c = λ asks. absurd (checks_nothing c.args.answer c.if-is_check.ensures asks)

pub returns-then-is_check-clause-filed : goal.returns-then-is_check-clause-filed
returns-then-is_check-clause-filed g c = λ asks. absurd (checks_nothing c.args.answer c.if-is_check.ensures asks)

pub returns-then-is_check-clause-response : goal.returns-then-is_check-clause-response
returns-then-is_check-clause-response g c =
    IfOk-weaker c.answer_check.result _ _ (λ r told. of_check _ _ _ _ _ _ _ _ _ _ _ _ _ c.args.answer c.if-is_check.ensures told) c.answer_check.ensures.response

pub response_without_check-requires-clause-unchecked : goal.response_without_check-requires-clause-unchecked
response_without_check-requires-clause-unchecked g c = c.if-is_check.ensures

pub returns-clause-kept : goal.returns-clause-kept
returns-clause-kept g c = record { session = c.requires.kept.session; order = c.requires.kept.order; read = c.requires.kept.read; resting = c.requires.kept.resting }

pub returns-clause-sorted : goal.returns-clause-sorted
returns-clause-sorted g c = subst (IsSortedRecord c.args.state.now.symbols.signatures) (sym c.in_ok-response.ensures.same) c.requires.sorted

pub returns-clause-response : goal.returns-clause-response
returns-clause-response g c =
    subst
    (λ (now : Option Record). Responds (limits_of c.args.settings) c.args.line c.args.answer c.args.state.now c.args.state.now c.args.workspace.now.log c.args.workspace.now.log (file_of c.args.file.now) (file_of c.args.file.now) c.args.last.now now c.in_ok-response.response (g.Q.Sink.written c.args.proof.now) (g.Q.Sink.written c.args.proof.now))
    (sym c.in_ok-response.ensures.same)
    (c.in_ok-response.ensures.response (limits_of c.args.settings) (file_of c.args.file.now) (g.Q.Sink.written c.args.proof.now))

pub returns-then-is_check-clause-cut : goal.returns-then-is_check-clause-cut
returns-then-is_check-clause-cut g c =
    IfErr-weaker c.answer_check.result _ _ (λ stop left. cut_of_check _ _ _ _ _ _ c.args.answer stop c.if-is_check.ensures left) c.answer_check.ensures.cut

pub returns-in_err-response-clause-cut : goal.returns-in_err-response-clause-cut
returns-in_err-response-clause-cut g c =
    let p = err_from_is_err_and c.from_residual.result c.from_residual.ensures.1 in
    rw (p.1, p.2) (Appends-nil (g.Q.Sink.written c.args.proof.now))
