use Rattle.theory_terms.proofs.Axioms.{stored_there, others_stay, same_elements}
use Rattle.theory_terms.proofs.laws.arrays_obey_the_axioms.Goals as goal

pub returns-clause-stored : goal.returns-clause-stored
returns-clause-stored c = stored_there

pub returns-clause-others : goal.returns-clause-others
returns-clause-others c = others_stay

pub returns-clause-equal : goal.returns-clause-equal
returns-clause-equal c = same_elements
