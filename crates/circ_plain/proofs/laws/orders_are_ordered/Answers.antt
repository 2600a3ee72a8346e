use Rattle.circ_plain.proofs.Ordering.{ult_gates-ordered, ult_bit-below, slt_gates-ordered, slt_bit-below}
use Rattle.circ_plain.proofs.laws.orders_are_ordered.Goals as goal

pub returns-clause-unsigned : goal.returns-clause-unsigned
returns-clause-unsigned c = ult_gates-ordered

pub returns-clause-unsigned_bit : goal.returns-clause-unsigned_bit
returns-clause-unsigned_bit c = ult_bit-below

pub returns-clause-signed : goal.returns-clause-signed
returns-clause-signed c = slt_gates-ordered

pub returns-clause-signed_bit : goal.returns-clause-signed_bit
returns-clause-signed_bit c = slt_bit-below
