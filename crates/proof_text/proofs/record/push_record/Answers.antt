use Rattle.std.proofs.Common.{arith}
use Rattle.std.proofs.lemmas.Result.{on_ok_weaker}
use Rattle.proof_text.proofs.Appending.{on_ok}
use Rattle.proof_text.proofs.Readable.{model_readable, refutation_readable, diary_readable}
use Rattle.proof_text.proofs.record.push_record.Goals as goal

pub returns-in_ok-push_line-in-Sat-clause-lines : goal.returns-in_ok-push_line-in-Sat-clause-lines
returns-in_ok-push_line-in-Sat-clause-lines c =
    on_ok_weaker c.push_values.result
    (model_readable c.args.shown.now c.in-Sat.values c.as_slice-values.result.now c.in-Sat.is c.as_slice-values.ensures c.as_slice-values.type_inv.0)
    c.push_values.ensures.lines

pub returns-in-Unsat-clause-lines : goal.returns-in-Unsat-clause-lines
returns-in-Unsat-clause-lines c = on_ok _ (refutation_readable c.args.shown.now _ c.in-Unsat.is (omega arith))

pub returns-in_ok-push_unknown-in-Unknown-clause-lines : goal.returns-in_ok-push_unknown-in-Unknown-clause-lines
returns-in_ok-push_unknown-in-Unknown-clause-lines c =
    on_ok_weaker c.push_diary_lines.result
    (diary_readable c.args.shown.now c.in-Unknown.diary c.as_slice-lines.result.now c.in-Unknown.is c.as_slice-lines.ensures c.in_ok-push_unknown-in-Unknown.ensures.line)
    c.push_diary_lines.ensures.lines
