use Rattle.std.proofs.Common.{sym, ap, ◌∙◌}
use Rattle.proof_log.specs.Stored.{with_lemma}
use Rattle.proof_log.proofs.Tried.{lemma_fault, lemma_done}
use Rattle.proof_log.proofs.log.Log.lemma.Goals as goal

pub returns-in-Err-clause-ok : goal.returns-in-Err-clause-ok
returns-in-Err-clause-ok c = lemma_fault c.args.terms.now c.args.self.now c.args.lemma c.in-Err.fault c.requires.stands (sym c.in-Err.is ∙ c.in_ok-fault.ensures)

pub returns-in_ok-put_lemma-in-Ok-clause-ok : goal.returns-in_ok-put_lemma-in-Ok-clause-ok
returns-in_ok-put_lemma-in-Ok-clause-ok c =
    lemma_done c.args.terms.now c.args.self.now c.put_lemma.new.self c.args.lemma c.in-Ok.clause c.len-over.ensures.terms c.requires.stands (sym c.in-Ok.is ∙ c.in_ok-fault.ensures)
    (c.in_ok-put_lemma-in-Ok.ensures.ok ∙ ap (λ n. with_lemma c.args.self.now n c.args.lemma c.in-Ok.clause) c.len-over.ensures.length)
