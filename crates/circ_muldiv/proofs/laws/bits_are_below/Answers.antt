use Rattle.circ_muldiv.proofs.Ordering.{mul_stands, division_stands, remainder_bits-below, sdiv_stands, srem_stands, smod_stands}
use Rattle.circ_muldiv.proofs.laws.bits_are_below.Goals as goal

pub returns-clause-product : goal.returns-clause-product
returns-clause-product c = λ g a b one ha hb. (mul_stands g a b one ha hb).1

pub returns-clause-quotient : goal.returns-clause-quotient
returns-clause-quotient c = λ g a b one ha hb. (division_stands g a b one ha hb).quotient

pub returns-clause-remainder : goal.returns-clause-remainder
returns-clause-remainder c = remainder_bits-below

pub returns-clause-signed_quotient : goal.returns-clause-signed_quotient
returns-clause-signed_quotient c = λ g a b one same ha hb. (sdiv_stands g a b one same ha hb).1

pub returns-clause-signed_remainder : goal.returns-clause-signed_remainder
returns-clause-signed_remainder c = λ g a b one ha hb. (srem_stands g a b one ha hb).1

pub returns-clause-signed_modulus : goal.returns-clause-signed_modulus
returns-clause-signed_modulus c = λ g a b one ha hb. (smod_stands g a b one ha hb).1
