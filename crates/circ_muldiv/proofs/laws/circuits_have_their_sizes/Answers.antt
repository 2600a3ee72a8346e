use Rattle.circ_muldiv.proofs.Counting.{length-mul_gates, length-divide_gates, length-sdiv_gates, length-srem_gates, length-smod_gates}
use Rattle.circ_muldiv.proofs.laws.circuits_have_their_sizes.Goals as goal

pub returns-clause-product : goal.returns-clause-product
returns-clause-product c = length-mul_gates

pub returns-clause-division : goal.returns-clause-division
returns-clause-division c = length-divide_gates

pub returns-clause-signed_quotient : goal.returns-clause-signed_quotient
returns-clause-signed_quotient c = length-sdiv_gates

pub returns-clause-signed_remainder : goal.returns-clause-signed_remainder
returns-clause-signed_remainder c = length-srem_gates

pub returns-clause-signed_modulus : goal.returns-clause-signed_modulus
returns-clause-signed_modulus c = length-smod_gates
