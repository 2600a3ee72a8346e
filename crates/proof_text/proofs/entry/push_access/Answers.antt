use Rattle.std.proofs.lemmas.Result.{on_ok_weaker}
use Rattle.proof_text.proofs.Readable.{access_readable}
use Rattle.proof_text.proofs.entry.push_access.Goals as goal

pub returns-clause-access : goal.returns-clause-access
returns-clause-access c = on_ok_weaker c.push_moves.result (access_readable c.args.access.now c.in_ok-push_start.ensures.start) (rw c.as_slice.ensures at c.push_moves.ensures.terms)
