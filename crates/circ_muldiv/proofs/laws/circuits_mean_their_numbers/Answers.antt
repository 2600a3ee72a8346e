use Rattle.circ_muldiv.proofs.Multiplying.{mul_correct}
use Rattle.circ_muldiv.proofs.Dividing.{divide_correct}
use Rattle.circ_muldiv.proofs.Signs.{sdiv_correct, srem_correct, smod_correct}
use Rattle.circ_muldiv.proofs.laws.circuits_mean_their_numbers.Goals as goal

pub returns-clause-product : goal.returns-clause-product
returns-clause-product c = mul_correct

pub returns-clause-quotient : goal.returns-clause-quotient
returns-clause-quotient c = λ v g a b one e h. (divide_correct v g a b one e h).0

pub returns-clause-remainder : goal.returns-clause-remainder
returns-clause-remainder c = λ v g a b one e h. (divide_correct v g a b one e h).1

pub returns-clause-signed_quotient : goal.returns-clause-signed_quotient
returns-clause-signed_quotient c = sdiv_correct

pub returns-clause-signed_remainder : goal.returns-clause-signed_remainder
returns-clause-signed_remainder c = srem_correct

pub returns-clause-signed_modulus : goal.returns-clause-signed_modulus
returns-clause-signed_modulus c = smod_correct
