use Rattle.std.proofs.Common.{sym, ◌∙◌}
use Rattle.proof_text.specs.Reading.{number_in}
use Rattle.proof_text.proofs.Splitting.{each_says, each_fails, each_ends}
use Rattle.proof_text.proofs.reading.numbers.Goals as goal

pub returns-in_default-number : goal.returns-in_default-number
returns-in_default-number c = each_fails number_in c.words.items.items _ _ _ _ c.in-Some.ensures.words (sym c.number.ensures ∙ c.in_default-number.is) c.words.invariant

pub words-preserved : goal.words-preserved
words-preserved c =
    rw c.in_ok-push.ensures.items
    (each_says number_in c.words.items.items _ _ _ _ _ c.in-Some.ensures.words (sym c.number.ensures ∙ c.in-Some-number.is) c.words.invariant)

pub returns : goal.returns
returns c = rw c.from_vec.ensures (each_ends number_in c.words.items.items _ _ c.in_default.ensures.words c.words.invariant)
