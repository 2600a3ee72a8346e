use Rattle.theory_terms.proofs.Sound.{lemma_sound}
use Rattle.theory_terms.proofs.laws.lemmas_are_sound.Goals as goal

pub returns : goal.returns
returns c = λ M nodes lemma atoms terms e. lemma_sound M nodes terms lemma atoms e
