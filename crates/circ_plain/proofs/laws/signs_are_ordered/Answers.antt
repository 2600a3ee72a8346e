use Rattle.circ_plain.proofs.Ordering.{neg_gates-ordered, neg_bits-below, signed_gates-ordered, signed_bits-below, abs_gates-ordered}
use Rattle.circ_plain.proofs.laws.signs_are_ordered.Goals as goal

pub returns-clause-neg : goal.returns-clause-neg
returns-clause-neg c = neg_gates-ordered

pub returns-clause-neg_bits : goal.returns-clause-neg_bits
returns-clause-neg_bits c = neg_bits-below

pub returns-clause-signed : goal.returns-clause-signed
returns-clause-signed c = signed_gates-ordered

pub returns-clause-signed_bits : goal.returns-clause-signed_bits
returns-clause-signed_bits c = signed_bits-below

pub returns-clause-abs : goal.returns-clause-abs
returns-clause-abs c = abs_gates-ordered
