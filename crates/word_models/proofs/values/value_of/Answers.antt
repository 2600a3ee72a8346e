use Rattle.std.proofs.Common.{arith}
use Rattle.cube_search.specs.Running.{valuation_of}
use Rattle.word_models.proofs.Rows.{one_wide, truth_value, word_long, word_value}
use Rattle.word_models.proofs.values.value_of.Goals as goal

pub bounds-row-0 : goal.bounds-row-0
bounds-row-0 c = let one = one_wide c.args.sort c.args.row.now c.in-Bool.is c.requires.long in omega (arith, one)

pub returns-in-Bool : goal.returns-in-Bool
returns-in-Bool c =
    truth_value (valuation_of c.args.search.now) c.args.sort c.args.row.now c.index-row-0.result c.is_true.result c.in-Bool.is c.requires.long c.index-row-0.is c.is_true.ensures

pub word_value-requires : goal.word_value-requires
word_value-requires c = word_long c.args.sort c.in-Word.field-0 c.args.row.now c.in-Word.is c.requires.sort c.requires.long

pub returns-in-Word : goal.returns-in-Word
returns-in-Word c = word_value (valuation_of c.args.search.now) c.args.sort c.in-Word.field-0 c.args.row.now c.word_value.result c.in-Word.is c.requires.long c.word_value.ensures
