use Rattle.theory_lemmas.proofs.Below.{clause_below}
use Rattle.theory_lemmas.proofs.laws.clauses_are_below.Goals as goal

pub returns : goal.returns
returns c = λ n nodes bits equals lemma clause top bits_below equals_below e. clause_below n bits equals top bits_below equals_below nodes lemma clause e
