use Rattle.smt_words.proofs.LawsOfNumbers.{sign_extension}
use Rattle.smt_words.proofs.laws.sign_extension_keeps_the_signed_value.Goals as goal

pub returns : goal.returns
returns c = sign_extension
