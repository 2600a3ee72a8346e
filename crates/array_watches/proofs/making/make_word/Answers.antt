use Rattle.std.proofs.Common.{sym, ap, subst, rules, arith}
use Rattle.array_watches.specs.Making.{IsMaking, value_of}
use Rattle.array_watches.proofs.Steps.{word_in, word_out}
use Rattle.array_watches.proofs.making.make_word.Goals as goal

pub put_word-requires-clause-fits : goal.put_word-requires-clause-fits
put_word-requires-clause-fits c = (c.new.ensures.found.0 (search rules)).2

pub returns-in-Some : goal.returns-in-Some
returns-in-Some c =
    subst (λ l. IsMaking l c.put_word.result c.args.terms.now c.put_word.new.terms) (sym (word_in c.args.terms.now.nodes c.args.width c.args.number (c.new.ensures.found.0 (search rules)).2)) c.put_word.ensures

pub returns-in-None : goal.returns-in-None
returns-in-None c =
    sym (ap (λ l. value_of l c.args.terms.now.limit) (word_out c.args.terms.now.nodes c.args.width c.args.number (λ lt. grind (arith, c.new.ensures.found, c.requires.wide, lt))))
