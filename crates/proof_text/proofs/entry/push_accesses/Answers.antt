use Rattle.std.proofs.lemmas.Result.{on_ok_weaker}
use Rattle.proof_text.specs.Lines.{access_words}
use Rattle.proof_text.specs.Entries.{written_access}
use Rattle.proof_text.proofs.Appending.{accesses_words, on_ok}
use Rattle.proof_text.proofs.entry.push_accesses.Goals as goal

pub returns-clause-ok : goal.returns-clause-ok
returns-clause-ok c =
    on_ok_weaker c.push.result (accesses_words _ _ _ _ _ _ (access_words (written_access c.args.one.now)) (access_words (written_access c.args.other.now)) c.in_ok-push_slice.ensures.ok c.in_ok-push_access.ensures.ok c.in_ok-push_slice-2.ensures.ok c.in_ok-push_access-2.ensures.ok) c.push.ensures.ok

pub returns-clause-line : goal.returns-clause-line
returns-clause-line c = on_ok c.push.result (c.in_ok-push_access.ensures.access, c.in_ok-push_access-2.ensures.access)
