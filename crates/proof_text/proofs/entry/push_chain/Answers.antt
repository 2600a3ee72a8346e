use Rattle.std.proofs.Common.{map}
use Rattle.std.proofs.lemmas.Result.{on_ok_weaker}
use Rattle.proof_text.specs.Entries.{written_literal, written_hint}
use Rattle.proof_text.proofs.Appending.{chain_words, kept_front, on_ok, on_err}
use Rattle.proof_text.proofs.Readable.{chain_readable}
use Rattle.proof_text.proofs.entry.push_chain.Goals as goal

pub returns-clause-ok : goal.returns-clause-ok
returns-clause-ok c =
    on_ok_weaker c.push-2.result (chain_words _ _ _ _ _ _ _ _ c.in_ok-push.ensures.ok (rw c.literals.ensures at c.in_ok-push_literals.ensures.ok) c.in_ok-push_slice.ensures.ok c.in_ok-push_hints.ensures.ok) c.push-2.ensures.ok

pub returns-clause-line : goal.returns-clause-line
returns-clause-line c =
    on_ok c.push-2.result
    (chain_readable (map written_literal c.args.clause.now) (map written_hint c.args.hints.now)
    (rw c.literals.ensures at c.in_ok-push_literals.ensures.literals) c.in_ok-push_hints.ensures.hints)

pub returns-in_err-push_literals-clause-err : goal.returns-in_err-push_literals-clause-err
returns-in_err-push_literals-clause-err c =
    on_err c.from_residual-in_err-push_literals.result (kept_front _ _ _ _ c.in_ok-push.ensures.ok c.in_err-push_literals.ensures.err)

pub returns-in_err-push_hints-clause-err : goal.returns-in_err-push_hints-clause-err
returns-in_err-push_hints-clause-err c =
    on_err c.from_residual-in_err-push_hints.result
    (kept_front _ _ _ _ c.in_ok-push.ensures.ok
    (kept_front _ _ _ _ c.in_ok-push_literals.ensures.ok
    (kept_front _ _ _ _ c.in_ok-push_slice.ensures.ok c.in_err-push_hints.ensures.err)))
