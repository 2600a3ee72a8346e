use Rattle.std.proofs.lemmas.Result.{on_ok_weaker}
use Rattle.proof_text.specs.Entries.{head_of}
use Rattle.proof_text.proofs.Appending.{term_words, term_front, on_ok, on_err}
use Rattle.proof_text.proofs.Readable.{node_readable}
use Rattle.proof_text.proofs.entry.push_node.Goals as goal

pub returns-clause-ok : goal.returns-clause-ok
returns-clause-ok c =
    on_ok_weaker c.push.result (term_words _ _ _ _ _ _ _ c.in_ok-push_slice.ensures.ok c.in_ok-push_head.ensures.ok (rw c.as_slice.ensures at c.in_ok-push_terms.ensures.ok)) c.push.ensures.ok

pub returns-clause-line : goal.returns-clause-line
returns-clause-line c =
    on_ok c.push.result
    (node_readable (head_of c.args.node.now.op) c.args.node.now.args c.in_ok-push_head.ensures.head (rw c.as_slice.ensures at c.in_ok-push_terms.ensures.numbers))

pub returns-in_err-push_terms-clause-err : goal.returns-in_err-push_terms-clause-err
returns-in_err-push_terms-clause-err c =
    on_err c.from_residual-in_err-push_terms.result (term_front _ _ _ _ _ c.requires c.in_ok-push_slice.ensures.ok c.in_ok-push_head.ensures.ok c.in_err-push_terms.ensures.err)
