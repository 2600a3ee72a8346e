use Rattle.std.proofs.Common.{ℕ, List, ◌∷◌, map, refl}
use Rattle.std.specs.Fmt.{decimal}
use Rattle.proof_text.specs.Lines.{spaced, IsNumber}
use Rattle.proof_text.proofs.Appending.{text_more}
use Rattle.proof_text.proofs.Readable.{each_more, each_all}
use Rattle.proof_text.proofs.entry.push_terms.Goals as goal

pub loop-term-preserved : goal.loop-term-preserved
loop-term-preserved c = record {
  text =
      text_more (λ (xs : List ℕ). spaced (map decimal xs)) (λ (x : ℕ). 32 ∷ decimal x) refl (λ _ _. refl) c.args.terms.now c.loop-term.term-index _ _ _ _
      c.loop-term-test.true c.loop-term.invariant.text c.in_ok-push_spaced.ensures.ok;
  numbers = each_more IsNumber c.args.terms.now c.loop-term.term-index _ c.loop-term-test.true c.loop-term.invariant.numbers c.in_ok-push_spaced.ensures.number;
}

pub returns-clause-numbers : goal.returns-clause-numbers
returns-clause-numbers c = each_all IsNumber c.args.terms.now c.loop-term.term-index c.loop-term-test.false c.loop-term.invariant.numbers
