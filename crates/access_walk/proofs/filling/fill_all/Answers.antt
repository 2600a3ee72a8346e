use Rattle.std.proofs.Common.{◌≡◌, ◌<◌, length, get_or, Some, sym, ap, ◌∙◌, subst, ⊎_elim, arith}
use Rattle.std.specs.Prelude.{slice_get}
use Rattle.std.proofs.lemmas.Bool.{cases_lt}
use Rattle.std.proofs.lemmas.Option.{slice_get-get_or, slice_get_within}
use Rattle.smt_terms.specs.Bits.{image_in}
use Rattle.term_reach.proofs.Tables.{at_contained}
use Rattle.access_walk.specs.Filled.{HasFillings}
use Rattle.access_walk.proofs.Shaped.{stays_grows, both_grow}
use Rattle.access_walk.proofs.filling.fill_all.Goals as goal

pub loop-term-init : goal.loop-term-init
loop-term-init c = record { filling = c.requires.filling; grows = stays_grows c.args.network.now; has = λ p t lt e free. absurd (omega (arith, lt)) }

pub loop-term-preserved : goal.loop-term-preserved
loop-term-preserved c = record {
  filling = c.in_ok-fill_term.ensures.filling;
  grows = both_grow c.args.network.now c.loop-term.network c.fill_term.new.network c.loop-term.invariant.grows c.in_ok-fill_term.ensures.grows;
  has = λ p t lt e free. ⊎_elim
      (λ less. λ j l i lands. c.in_ok-fill_term.ensures.grows.landings l (c.loop-term.invariant.has p t less e free j l i lands))
      (λ more.
      let here : p ≡ c.loop-term.term-index = omega (arith, lt, more) in
      let at : slice_get c.args.reached.now c.loop-term.term-index ≡ Some (get_or c.terms-term-items.result.now c.loop-term.term-index 0) =
      ap (λ l. slice_get l c.loop-term.term-index) (sym c.terms-term-items.ensures.terms) ∙ slice_get-get_or c.terms-term-items.result.now c.loop-term.term-index 0 c.loop-term-test.true in
      let both : Some t ≡ Some (get_or c.terms-term-items.result.now c.loop-term.term-index 0) = sym e ∙ ap (slice_get c.args.reached.now) here ∙ at in
      let same : t ≡ get_or c.terms-term-items.result.now c.loop-term.term-index 0 = cc in
      subst (HasFillings c.args.terms.now.nodes c.args.indexes.now c.fill_term.new.network) (sym same) (c.in_ok-fill_term.ensures.has (ap (image_in c.args.bits.now) (sym same) ∙ free)))
      (cases_lt p c.loop-term.term-index);
}

pub returns-clause-has : goal.returns-clause-has
returns-clause-has c = λ t own.
    let at = at_contained c.args.reached.now t own.0 in
    let lt = slice_get_within c.args.reached.now at.0 t at.1 in
    let long = ap length c.terms-term-items.ensures.terms in
    let over = c.loop-term-test.false in
    let less : at.0 < c.loop-term.term-index = omega (arith, lt, long, over) in
    c.loop-term.invariant.has at.0 t less at.1 own.1
