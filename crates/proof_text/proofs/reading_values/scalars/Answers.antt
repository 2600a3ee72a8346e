use Rattle.std.proofs.Common.{sym, ◌∙◌}
use Rattle.proof_text.specs.Reading.{scalar_of}
use Rattle.proof_text.proofs.Splitting.{each_says, each_fails, each_ends}
use Rattle.proof_text.proofs.reading_values.scalars.Goals as goal

pub returns-in_default-2 : goal.returns-in_default-2
returns-in_default-2 c = each_fails scalar_of c.words.items.items _ _ _ _ c.in-Some.ensures.words (sym c.in_ok-found.ensures ∙ c.in_default-2.is) c.words.invariant

pub words-preserved : goal.words-preserved
words-preserved c =
    rw c.in_ok-push.ensures.items
    (each_says scalar_of c.words.items.items _ _ _ _ _ c.in-Some.ensures.words (sym c.in_ok-found.ensures ∙ c.in-Some-2.is) c.words.invariant)

pub returns : goal.returns
returns c = rw c.from_vec.ensures (each_ends scalar_of c.words.items.items _ _ c.in_default.ensures.words c.words.invariant)
