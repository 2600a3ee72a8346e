use Rattle.std.proofs.lemmas.Result.{err_from_is_err_and}
use Rattle.smt_build.specs.TermReader.{at_word}
use Rattle.smt_build.specs.Views.{state_of}
use Rattle.smt_build.proofs.Stepping.{label_fails}
use Rattle.smt_build.proofs.reader.at_word.Goals as goal

pub returns-in_err-name_term-in-Label-default-clause-does : goal.returns-in_err-name_term-in-Label-default-clause-does
unfolding at_word
returns-in_err-name_term-in-Label-default-clause-does c =
    let p = err_from_is_err_and c.from_residual-in_err-name_term-in-Label-default.result c.from_residual-in_err-name_term-in-Label-default.ensures.1 in
    rw (c.in-Label-default.is-0, p.1, p.2) (label_fails (state_of c.args.terms.now c.args.scope.now) _ _ _ _ (c.in_err-name_term-in-Label-default.ensures.names c.args.terms.now))
