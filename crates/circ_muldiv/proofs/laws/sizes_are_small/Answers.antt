use Rattle.std.proofs.Common.{arith}
use Rattle.circ_muldiv.proofs.Counting.{mul_small, divide_small}
use Rattle.circ_muldiv.proofs.laws.sizes_are_small.Goals as goal

pub returns-clause-product : goal.returns-clause-product
returns-clause-product c = mul_small

pub returns-clause-division : goal.returns-clause-division
returns-clause-division c = λ n h. omega (arith, divide_small n h)

pub returns-clause-signed_quotient : goal.returns-clause-signed_quotient
returns-clause-signed_quotient c = λ n h. omega (arith, divide_small n h)

pub returns-clause-signed_remainder : goal.returns-clause-signed_remainder
returns-clause-signed_remainder c = λ n h. omega (arith, divide_small n h)

pub returns-clause-signed_modulus : goal.returns-clause-signed_modulus
returns-clause-signed_modulus c = λ n h. omega (arith, divide_small n h)
