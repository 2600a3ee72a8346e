use Rattle.std.proofs.Common.{sym, ◌∙◌}
use Rattle.proof_text.specs.Reading.{hint_of}
use Rattle.proof_text.proofs.Splitting.{each_says, each_fails, each_ends}
use Rattle.proof_text.proofs.reading.hints.Goals as goal

pub returns-in_default-hint : goal.returns-in_default-hint
returns-in_default-hint c = each_fails hint_of c.words.items.items _ _ _ _ c.in-Some.ensures.words (sym c.hint.ensures ∙ c.in_default-hint.is) c.words.invariant

pub words-preserved : goal.words-preserved
words-preserved c =
    rw c.in_ok-push.ensures.items
    (each_says hint_of c.words.items.items _ _ _ _ _ c.in-Some.ensures.words (sym c.hint.ensures ∙ c.in-Some-hint.is) c.words.invariant)

pub returns : goal.returns
returns c = rw c.from_vec.ensures (each_ends hint_of c.words.items.items _ _ c.in_default.ensures.words c.words.invariant)
