use Rattle.proof_checker.proofs.WrittenArrays.{no_word}
use Rattle.proof_checker.proofs.written.word_of.Goals as goal

pub returns-then-digits-width : goal.returns-then-digits-width
returns-then-digits-width c = λ w h e. no_word c.args.width w c.args.digits.now c.if-digits-width.true h e
