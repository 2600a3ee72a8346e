use Rattle.theory_terms.proofs.Truths.{lemma_truths}
use Rattle.theory_terms.proofs.laws.lemmas_name_truths.Goals as goal

pub returns : goal.returns
returns c = λ nodes lemma atoms terms e. lemma_truths nodes terms lemma atoms e
