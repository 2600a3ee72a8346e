use Rattle.circ_muldiv.proofs.Ordering.{mul_stands, division_stands, sdiv_stands, srem_stands, smod_stands}
use Rattle.circ_muldiv.proofs.laws.circuits_are_ordered.Goals as goal

pub returns-clause-product : goal.returns-clause-product
returns-clause-product c = λ g a b one ha hb. (mul_stands g a b one ha hb).0

pub returns-clause-division : goal.returns-clause-division
returns-clause-division c = λ g a b one ha hb. (division_stands g a b one ha hb).ordered

pub returns-clause-signed_quotient : goal.returns-clause-signed_quotient
returns-clause-signed_quotient c = λ g a b one same ha hb. (sdiv_stands g a b one same ha hb).0

pub returns-clause-signed_remainder : goal.returns-clause-signed_remainder
returns-clause-signed_remainder c = λ g a b one ha hb. (srem_stands g a b one ha hb).0

pub returns-clause-signed_modulus : goal.returns-clause-signed_modulus
returns-clause-signed_modulus c = λ g a b one ha hb. (smod_stands g a b one ha hb).0
