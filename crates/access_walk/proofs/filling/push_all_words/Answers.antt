use Rattle.std.proofs.Common.{◌≡◌, ◌<◌, get_or, Some, sym, ap, ◌∙◌, subst, ⊎_elim, arith}
use Rattle.std.specs.Prelude.{slice_get}
use Rattle.std.proofs.lemmas.Bool.{cases_lt}
use Rattle.std.proofs.lemmas.Option.{slice_get-get_or, slice_get_within}
use Rattle.term_reach.proofs.Tables.{at_contained}
use Rattle.access_walk.specs.Maps.{IsWordOf}
use Rattle.access_walk.specs.Walked.{IsHeldWord}
use Rattle.access_walk.proofs.filling.push_all_words.Goals as goal

pub loop-width-preserved : goal.loop-width-preserved
loop-width-preserved c = record {
  words = c.in_ok-push_words.ensures.words;
  kept = λ j h. c.in_ok-push_words.ensures.kept j (c.loop-width.invariant.kept j h);
  has = λ p n k lt e few held. ⊎_elim
      (λ less. (let w = c.loop-width.invariant.has p n k less e few held in (w.0, w.1, c.in_ok-push_words.ensures.kept w.0 w.2)))
      (λ more.
      let here : p ≡ c.loop-width.width-index = omega (arith, lt, more) in
      let at : slice_get c.args.widths.now c.loop-width.width-index ≡ Some (get_or c.args.widths.now c.loop-width.width-index 0) = slice_get-get_or c.args.widths.now c.loop-width.width-index 0 c.loop-width-test.true in
      let both : Some n ≡ Some (get_or c.args.widths.now c.loop-width.width-index 0) = sym e ∙ ap (slice_get c.args.widths.now) here ∙ at in
      let same : n ≡ get_or c.args.widths.now c.loop-width.width-index 0 = cc in
      let w = c.in_ok-push_words.ensures.has k few (λ i le. subst (λ z. IsHeldWord c.args.terms.now.nodes c.args.bits.now z i) same (held i le)) in
      (w.0, subst (λ z. IsWordOf c.args.terms.now.nodes z k w.0) (sym same) w.1, w.2))
      (cases_lt p c.loop-width.width-index);
}

pub returns-clause-has : goal.returns-clause-has
returns-clause-has c = λ n k here few held.
    let at = at_contained c.args.widths.now n here in
    let lt = slice_get_within c.args.widths.now at.0 n at.1 in
    let over = c.loop-width-test.false in
    let less : at.0 < c.loop-width.width-index = omega (arith, lt, over) in
    c.loop-width.invariant.has at.0 n k less at.1 few held
