use Rattle.std.proofs.Common.{map}
use Rattle.std.proofs.lemmas.Result.{on_ok_weaker}
use Rattle.proof_text.specs.Records.{written_scalar}
use Rattle.proof_text.proofs.Appending.{row_text}
use Rattle.proof_text.proofs.value.push_row.Goals as goal

pub returns-clause-ok : goal.returns-clause-ok
returns-clause-ok c =
    on_ok_weaker c.push_spaced_scalar.result
    (row_text _ _ _ (map written_scalar c.args.row.now.args) (written_scalar c.args.row.now.value) (rw c.as_slice.ensures at c.in_ok-push_scalars.ensures.ok)) c.push_spaced_scalar.ensures.ok
