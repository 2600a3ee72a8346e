use Rattle.std.proofs.Common.{sym, ◌∙◌}
use Rattle.std.proofs.lemmas.Bool.{eq-eqb, ne_eqb}
use Rattle.dimacs_front.proofs.Hints.{number_taken, zero_taken, no_number, no_zero}
use Rattle.dimacs_front.proofs.step.numbers.Goals as goal

pub returns-in_default-signed_number : goal.returns-in_default-signed_number
returns-in_default-signed_number c = no_number c.words.items.items _ _ c.in-Some.word.now _ c.in-Some.ensures.words (sym c.signed_number.ensures.value ∙ c.in_default-signed_number.is) c.words.invariant

pub returns-then-number-eq0 : goal.returns-then-number-eq0
returns-then-number-eq0 c =
    rw c.from_vec.ensures
    (zero_taken c.words.items.items _ _ c.in-Some.word.now c.in-Some-signed_number.number _ c.in-Some.ensures.words (sym c.signed_number.ensures.value ∙ c.in-Some-signed_number.is) (eq-eqb _ 0 c.if-number-eq0.true) c.words.invariant)

pub words-preserved : goal.words-preserved
words-preserved c =
    rw c.in_ok-push.ensures.items
    (number_taken c.words.items.items _ _ c.in-Some.word.now c.in-Some-signed_number.number _ c.in-Some.ensures.words (sym c.signed_number.ensures.value ∙ c.in-Some-signed_number.is) (ne_eqb _ 0 c.if-number-eq0.false) c.words.invariant)

pub returns : goal.returns
returns c = no_zero c.words.items.items _ _ c.in_default.ensures.words c.words.invariant
