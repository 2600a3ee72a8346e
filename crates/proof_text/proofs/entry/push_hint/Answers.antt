use Rattle.proof_text.proofs.Appending.{on_ok}
use Rattle.proof_text.proofs.Readable.{hint_readable}
use Rattle.proof_text.proofs.entry.push_hint.Goals as goal

pub returns-clause-hint : goal.returns-clause-hint
returns-clause-hint c = on_ok c.push_marked.result (hint_readable c.args.hint c.in_ok-push_spaced.ensures.number c.push_marked.ensures.number)
