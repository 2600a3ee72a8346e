use Rattle.std.proofs.Common.{◌∙◌, sym, ap}
use Rattle.smt_words.specs.Words.{word}
use Rattle.smt_eval.proofs.Stores.{none_is_zero}
use Rattle.smt_eval.proofs.arrays.least_difference.Goals as goal

pub returns-in-None : goal.returns-in-None
returns-in-None c = c.least_index.ensures ∙ ap (word c.args.a.now.index) (sym (none_is_zero c.args.a.now c.args.b.now c.in-None.ensures))
