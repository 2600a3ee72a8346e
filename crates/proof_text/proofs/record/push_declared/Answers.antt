use Rattle.std.proofs.lemmas.Result.{on_ok_weaker}
use Rattle.proof_text.specs.Records.{written_value}
use Rattle.proof_text.proofs.Appending.{value_line, is_written, on_ok}
use Rattle.proof_text.proofs.Readable.{value_readable}
use Rattle.proof_text.proofs.record.push_declared.Goals as goal

pub returns-clause-ok : goal.returns-clause-ok
returns-clause-ok c =
    on_ok_weaker c.push-2.result
    (value_line c.args.declaration (written_value c.args.value.now) _ _ _ _ _ (is_written c.args.value.now) c.in_ok-push_with_number.ensures.ok c.in_ok-push.ensures.ok c.in_ok-push_value.ensures.ok) c.push-2.ensures.ok

pub returns-clause-lines : goal.returns-clause-lines
returns-clause-lines c = on_ok c.push-2.result (value_readable c.args.declaration c.args.value.now c.ranges.declaration.fits)
