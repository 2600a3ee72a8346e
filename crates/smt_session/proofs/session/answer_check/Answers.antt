use Rattle.std.proofs.Common.{false, sym, ap, ◌∙◌, subst}
use Rattle.std.proofs.KnownBytes.{Appends-nil}
use Rattle.std.proofs.lemmas.Result.{err_from_is_err_and}
use Rattle.script_state.specs.declared.answer.Answer.TheVariants as answer
use Rattle.script_state.specs.States.{StateValue, concluded}
use Rattle.accepted_proof.specs.Answers.{verdict_text}
use Rattle.proof_file.specs.Files.{IsFileOf, file_of}
use Rattle.smt_session.specs.Sessions.{Responds, limits_of, response}
use Rattle.smt_session.specs.Parts.{IsKept}
use Rattle.smt_session.specs.Tabled.{IsSortedRecord}
use Rattle.smt_session.proofs.Keeping.{kept_concluded, sorted_checked}
use Rattle.smt_session.proofs.Responding.{check_responds, check_cut}
use Rattle.smt_session.proofs.session.answer_check.Goals as goal

pub returns-clause-kept : goal.returns-clause-kept
returns-clause-kept g c =
    subst (λ (x : StateValue). IsKept x c.run_check.new.workspace) (sym c.conclude.ensures) (kept_concluded c.run_check.new.state c.run_check.new.workspace c.verdict_of-verdict.result c.in_ok-shown.ensures.kept)

pub returns-clause-file : goal.returns-clause-file
returns-clause-file g c =
    subst (λ (x : StateValue). IsFileOf x.terms.nodes c.run_check.new.workspace.log.entries c.run_check.new.file) (sym c.conclude.ensures) c.in_ok-shown.ensures.file

pub returns-clause-sorted : goal.returns-clause-sorted
returns-clause-sorted g c =
    subst (λ (x : StateValue). IsSortedRecord x.symbols.signatures c.put.new.self) (sym c.conclude.ensures)
    (subst (IsSortedRecord c.run_check.new.state.symbols.signatures) (sym c.put.ensures)
    (sorted_checked (limits_of c.args.settings) c.args.state.now c.run_check.new.state c.args.workspace.now.log c.run_check.new.workspace.log c.in_ok-shown.shown c.in_ok-shown.ensures.checked))

pub returns-clause-response : goal.returns-clause-response
returns-clause-response g c =
    subst
    (λ now. Responds (limits_of c.args.settings) c.args.line answer.Check c.args.state.now c.conclude.new.self c.args.workspace.now.log c.run_check.new.workspace.log (file_of c.args.file.now) (file_of c.run_check.new.file) c.args.last.now now c.in_ok-response.response (g.Q.Sink.written c.args.proof.now) (g.Q.Sink.written c.write_lines.new.proof))
    (sym c.put.ensures)
    (check_responds (limits_of c.args.settings) c.args.line c.args.state.now c.run_check.new.state c.conclude.new.self c.args.workspace.now.log c.run_check.new.workspace.log (file_of c.args.file.now) (file_of c.run_check.new.file) c.in_ok-shown.shown c.in_ok-shown.text c.in_ok-response.response
    (g.Q.Sink.written c.args.proof.now) (g.Q.Sink.written c.write_lines.new.proof) c.args.last.now
    c.in_ok-shown.ensures.checked c.in_ok-shown.ensures.part c.in_ok-write_lines.ensures.ok
    (c.in_ok-response.ensures ∙ ap (λ v. response (verdict_text v) false false) c.verdict_of-verdict.ensures)
    (c.conclude.ensures ∙ ap (concluded c.run_check.new.state) c.verdict_of-verdict.ensures))

pub returns-in_err-shown-clause-cut : goal.returns-in_err-shown-clause-cut
returns-in_err-shown-clause-cut g c =
    let p = err_from_is_err_and c.from_residual.result c.from_residual.ensures.1 in
    rw (p.1, p.2) (Appends-nil (g.Q.Sink.written c.args.proof.now))

pub returns-in_err-response-clause-cut : goal.returns-in_err-response-clause-cut
returns-in_err-response-clause-cut g c =
    let p = err_from_is_err_and c.from_residual-in_err-response.result c.from_residual-in_err-response.ensures.1 in
    rw (p.1, p.2) (Appends-nil (g.Q.Sink.written c.args.proof.now))

pub returns-in_err-write_lines-clause-cut : goal.returns-in_err-write_lines-clause-cut
returns-in_err-write_lines-clause-cut g c =
    let p = err_from_is_err_and c.from_residual-in_err-write_lines.result c.from_residual-in_err-write_lines.ensures.1 in
    let cut = c.in_err-write_lines.ensures.cut in
    rw (p.1, p.2, cut.0)
    (check_cut (limits_of c.args.settings) c.args.state.now c.run_check.new.state c.args.workspace.now.log c.run_check.new.workspace.log (file_of c.args.file.now) (file_of c.run_check.new.file) c.in_ok-shown.shown c.in_ok-shown.text
    (g.Q.Sink.written c.args.proof.now) (g.Q.Sink.written c.write_lines.new.proof)
    c.in_ok-shown.ensures.checked c.in_ok-shown.ensures.part cut.1)
