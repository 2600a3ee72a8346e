use Rattle.circ_plain.specs.declared.moves.Direction.TheVariants.{Up, Down}
use Rattle.circ_plain.proofs.Ordering.{logical_gates-ordered, logical_bits-below, ashr_gates-ordered, ashr_bits-below}
use Rattle.circ_plain.proofs.laws.shifts_are_ordered.Goals as goal

pub returns-clause-left : goal.returns-clause-left
returns-clause-left c = logical_gates-ordered Up

pub returns-clause-left_bits : goal.returns-clause-left_bits
returns-clause-left_bits c = logical_bits-below Up

pub returns-clause-right : goal.returns-clause-right
returns-clause-right c = logical_gates-ordered Down

pub returns-clause-right_bits : goal.returns-clause-right_bits
returns-clause-right_bits c = logical_bits-below Down

pub returns-clause-arithmetic : goal.returns-clause-arithmetic
returns-clause-arithmetic c = ashr_gates-ordered

pub returns-clause-arithmetic_bits : goal.returns-clause-arithmetic_bits
returns-clause-arithmetic_bits c = ashr_bits-below
