use Rattle.std.proofs.Common.{◌≡◌, ◌<◌, length, get_or, Some, sym, ap, ◌∙◌, subst, ⊎_elim, arith}
use Rattle.std.specs.Prelude.{slice_get}
use Rattle.std.proofs.lemmas.Bool.{cases_lt}
use Rattle.std.proofs.lemmas.Option.{slice_get-get_or, slice_get_within}
use Rattle.smt_terms.specs.Bits.{image_in}
use Rattle.term_reach.proofs.Tables.{at_contained}
use Rattle.access_walk.specs.Building.{HasTerm}
use Rattle.access_walk.proofs.Shaped.{has_grows}
use Rattle.access_walk.proofs.network.Network.of_terms.Goals as goal

pub loop-term-preserved : goal.loop-term-preserved
loop-term-preserved c = record {
  sound = c.in_ok-enter_term.ensures.sound;
  done = λ j t lt e free. ⊎_elim
      (λ less. has_grows c.args.terms.now.nodes c.loop-term.network c.enter_term.new.self t c.in_ok-enter_term.ensures.grows (c.loop-term.invariant.done j t less e free))
      (λ more.
      let here : j ≡ c.loop-term.term-index = omega (arith, lt, more) in
      let at : slice_get c.args.reached.now c.loop-term.term-index ≡ Some (get_or c.terms-term-items.result.now c.loop-term.term-index 0) =
      ap (λ l. slice_get l c.loop-term.term-index) (sym c.terms-term-items.ensures.terms) ∙ slice_get-get_or c.terms-term-items.result.now c.loop-term.term-index 0 c.loop-term-test.true in
      let both : Some t ≡ Some (get_or c.terms-term-items.result.now c.loop-term.term-index 0) = sym e ∙ ap (slice_get c.args.reached.now) here ∙ at in
      let same : t ≡ get_or c.terms-term-items.result.now c.loop-term.term-index 0 = cc in
      subst (HasTerm c.args.terms.now.nodes c.enter_term.new.self) (sym same) (c.in_ok-enter_term.ensures.has (ap (image_in c.args.bits.now) (sym same) ∙ free)))
      (cases_lt j c.loop-term.term-index);
}

pub returns-clause-has : goal.returns-clause-has
returns-clause-has c = λ t own.
    let at = at_contained c.args.reached.now t own.0 in
    let lt = slice_get_within c.args.reached.now at.0 t at.1 in
    let long = ap length c.terms-term-items.ensures.terms in
    let over = c.loop-term-test.false in
    let less : at.0 < c.loop-term.term-index = omega (arith, lt, long, over) in
    c.loop-term.invariant.done at.0 t less at.1 own.1
