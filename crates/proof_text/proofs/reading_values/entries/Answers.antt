use Rattle.std.proofs.Common.{sym, ◌∙◌}
use Rattle.proof_text.proofs.Splitting.{entry_says, entry_fails, entry_breaks, entries_end}
use Rattle.proof_text.proofs.reading_values.entries.Goals as goal

pub returns-in_default-next_word : goal.returns-in_default-next_word
returns-in_default-next_word c = entry_breaks c.words.items.items _ _ _ _ c.in-Some.ensures.words c.in_default-next_word.ensures.words c.words.invariant

pub returns-in_default-2 : goal.returns-in_default-2
returns-in_default-2 c =
    entry_fails c.words.items.items _ _ _ _ _ _ c.in-Some.ensures.words c.in-Some-next_word.ensures.words (sym c.in_ok-found.ensures ∙ c.in_default-2.is) c.words.invariant

pub words-preserved : goal.words-preserved
words-preserved c =
    rw c.in_ok-push.ensures.items
    (entry_says c.words.items.items _ _ _ _ _ _ _ c.in-Some.ensures.words c.in-Some-next_word.ensures.words (sym c.in_ok-found.ensures ∙ c.in-Some-2.is) c.words.invariant)

pub returns : goal.returns
returns c = rw c.from_vec.ensures (entries_end c.words.items.items _ _ c.in_default.ensures.words c.words.invariant)
