use Rattle.std.proofs.Common.{sym, ◌∙◌}
use Rattle.proof_text.proofs.Splitting.{literal_says, literal_fails, literals_end, literals_missing}
use Rattle.proof_text.proofs.reading.literals.Goals as goal

pub returns-then-eq : goal.returns-then-eq
returns-then-eq c =
    rw c.from_vec.ensures
    (literals_end c.words.items.items _ _ _ _ c.in-Some.ensures.words (sym (rw c.as_slice.ensures at c.eq.ensures) ∙ c.if-eq.true) c.words.invariant)

pub returns-in_default-literal : goal.returns-in_default-literal
returns-in_default-literal c =
    literal_fails c.words.items.items _ _ _ _ c.in-Some.ensures.words (sym (rw c.as_slice.ensures at c.eq.ensures) ∙ c.if-eq.false) (sym c.literal.ensures ∙ c.in_default-literal.is) c.words.invariant

pub words-preserved : goal.words-preserved
words-preserved c =
    rw c.in_ok-push.ensures.items
    (literal_says c.words.items.items _ _ _ _ _ c.in-Some.ensures.words (sym (rw c.as_slice.ensures at c.eq.ensures) ∙ c.if-eq.false) (sym c.literal.ensures ∙ c.in-Some-literal.is) c.words.invariant)

pub returns : goal.returns
returns c = literals_missing c.words.items.items _ _ c.in_default.ensures.words c.words.invariant
