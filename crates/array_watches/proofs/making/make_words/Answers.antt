use Rattle.std.proofs.lemmas.Result.{err_from_is_err_and}
use Rattle.array_watches.proofs.Steps.{words_next, words_fail}
use Rattle.array_watches.proofs.making.make_words.Goals as goal

pub loop-number-preserved : goal.loop-number-preserved
loop-number-preserved c = words_next c.args.terms.now c.loop-number.terms c.make_word.new.terms c.args.width c.loop-number.number c.loop-number.invariant c.in_ok-make_word.ensures

pub returns-in_err-make_word : goal.returns-in_err-make_word
returns-in_err-make_word c =
    let p = err_from_is_err_and c.from_residual.result c.from_residual.ensures.1 in
    rw (p.1, p.2)
    (words_fail c.args.terms.now c.loop-number.terms c.make_word.new.terms c.args.width c.loop-number.number c.loop-number.invariant c.in_err-make_word.field-0.0 c.args.count c.loop-number-test.true c.in_err-make_word.ensures)
