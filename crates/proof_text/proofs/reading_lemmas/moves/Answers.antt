use Rattle.std.proofs.Common.{sym, ◌∙◌}
use Rattle.proof_text.proofs.Splitting.{move_says, move_fails, move_breaks, moves_end, moves_over}
use Rattle.proof_text.proofs.reading_lemmas.moves.Goals as goal

pub returns-then-eq : goal.returns-then-eq
returns-then-eq c =
    rw c.from_vec.ensures
    (moves_end c.words.items.items _ _ _ _ c.in-Some.ensures.words (sym (rw c.as_slice.ensures at c.eq.ensures) ∙ c.if-eq.true) c.words.invariant)

pub returns-in_default-next_word : goal.returns-in_default-next_word
returns-in_default-next_word c =
    move_breaks c.words.items.items _ _ _ _ c.in-Some.ensures.words (sym (rw c.as_slice.ensures at c.eq.ensures) ∙ c.if-eq.false) c.in_default-next_word.ensures.words c.words.invariant

pub returns-in_default-written_move : goal.returns-in_default-written_move
returns-in_default-written_move c =
    move_fails c.words.items.items _ _ _ _ _ _ c.in-Some.ensures.words (sym (rw c.as_slice.ensures at c.eq.ensures) ∙ c.if-eq.false) c.in-Some-next_word.ensures.words (sym c.written_move.ensures ∙ c.in_default-written_move.is) c.words.invariant

pub words-preserved : goal.words-preserved
words-preserved c =
    rw c.in_ok-push.ensures.items
    (move_says c.words.items.items _ _ _ _ _ _ _ c.in-Some.ensures.words (sym (rw c.as_slice.ensures at c.eq.ensures) ∙ c.if-eq.false) c.in-Some-next_word.ensures.words (sym c.written_move.ensures ∙ c.in-Some-written_move.is) c.words.invariant)

pub returns : goal.returns
returns c = rw c.from_vec-2.ensures (moves_over c.words.items.items _ _ c.in_default.ensures.words c.words.invariant)
