use Rattle.theory_terms.proofs.Longer.{lemma_longer}
use Rattle.theory_terms.proofs.laws.more_terms_keep_lemmas.Goals as goal

pub returns : goal.returns
returns c = λ nodes more lemma atoms e. lemma_longer nodes more lemma atoms e
