use Rattle.theory_terms.proofs.Held.{lemma_held}
use Rattle.theory_terms.proofs.laws.lemmas_name_held_terms.Goals as goal

pub returns : goal.returns
returns c = λ nodes lemma atoms e. lemma_held nodes lemma atoms e
