use Rattle.smt_values.proofs.Reading.{array_value_read}
use Rattle.smt_values.proofs.interp.read.Goals as goal

pub returns-in_ok-copy-in-Array-value-clause-meaning : goal.returns-in_ok-copy-in-Array-value-clause-meaning
returns-in_ok-copy-in-Array-value-clause-meaning c =
    array_value_read c.args.sort c.args.value.now c.in-Array.field-0 c.in-Array.field-1 c.in-Array-value.array c.in_ok-copy-in-Array-value.field-0 c.in-Array.is c.in-Array-value.is c.in_ok-copy-in-Array-value.ensures.array c.in_ok-copy-in-Array-value.ensures.equal c.requires.suits
