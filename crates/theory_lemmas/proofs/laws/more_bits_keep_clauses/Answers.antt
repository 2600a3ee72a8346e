use Rattle.theory_lemmas.proofs.Keeping.{clause_stays}
use Rattle.theory_lemmas.proofs.laws.more_bits_keep_clauses.Goals as goal

pub returns : goal.returns
returns c = λ nodes bits more equals others lemma clause bits_stay equals_stay e. clause_stays bits more equals others bits_stay equals_stay nodes lemma clause e
