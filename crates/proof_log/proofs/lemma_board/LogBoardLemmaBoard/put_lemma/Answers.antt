use Rattle.std.proofs.Common.{◌<◌, suc, length, refl, subst}
use Rattle.proof_log.specs.declared.entry.Entry.TheVariants as step
use Rattle.proof_log.specs.Boards.{LogBoardValue}
use Rattle.proof_log.specs.LemmaBoards.{IsLaterByMore}
use Rattle.proof_log.proofs.Adding.{more_later}
use Rattle.proof_log.proofs.lemma_board.LogBoardLemmaBoard.put_lemma.Goals as goal

pub returns-clause-later : goal.returns-clause-later
returns-clause-later c =
    subst
    (λ (v : LogBoardValue). IsLaterByMore v.terms.nodes c.self.inside.terms.now.nodes v.log.entries c.push.new.self.entries (λ p. p < suc (length v.log.entries)) (λ p. p < suc (length c.push.new.self.entries)))
    c.self.view_is
    (more_later c.self.inside.terms.now.nodes c.self.inside.log c.push.new.self (step.Lemma c.args.lemma) c.push.result c.self.invariant refl c.push.ensures.pushed c.push.ensures.err)
