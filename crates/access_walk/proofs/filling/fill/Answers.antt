use Rattle.std.proofs.Common.{◌≡◌, ◌<◌, get_or, Some, sym, ap, ◌∙◌, ⊎_elim, arith}
use Rattle.std.specs.Prelude.{slice_get}
use Rattle.std.proofs.lemmas.Bool.{cases_lt}
use Rattle.std.proofs.lemmas.List.Elements.{Contains-get_or}
use Rattle.std.proofs.lemmas.Option.{slice_get-get_or, slice_get_within}
use Rattle.theory_terms.specs.declared.lemma.Start.TheVariants.{Const}
use Rattle.theory_terms.specs.Lemmas.{landing_of}
use Rattle.term_reach.proofs.Tables.{at_contained}
use Rattle.access_walk.proofs.Shaped.{stays_grows, both_grow}
use Rattle.access_walk.proofs.filling.fill.Goals as goal

pub loop-index-init : goal.loop-index-init
loop-index-init c = record { filling = c.requires.filling; grows = stays_grows c.args.network.now; has = λ p j r lt e at. absurd (omega (arith, lt)) }

pub fill_at-requires-clause-among : goal.fill_at-requires-clause-among
fill_at-requires-clause-among c = Contains-get_or c.args.indexes.now c.loop-index.index-index 0 c.loop-index-test.true

pub fill_at-requires-clause-word : goal.fill_at-requires-clause-word
fill_at-requires-clause-word c = c.requires.words (get_or c.args.indexes.now c.loop-index.index-index 0) (Contains-get_or c.args.indexes.now c.loop-index.index-index 0 c.loop-index-test.true)

pub loop-index-preserved : goal.loop-index-preserved
loop-index-preserved c = record {
  filling = c.in_ok-fill_at.ensures.filling;
  grows = both_grow c.args.network.now c.loop-index.network c.fill_at.new.network c.loop-index.invariant.grows c.in_ok-fill_at.ensures.grows;
  has = λ p j r lt e lands. ⊎_elim
      (λ less. c.in_ok-fill_at.ensures.grows.landings r (c.loop-index.invariant.has p j r less e lands))
      (λ more.
      let here : p ≡ c.loop-index.index-index = omega (arith, lt, more) in
      let at : slice_get c.args.indexes.now c.loop-index.index-index ≡ Some (get_or c.args.indexes.now c.loop-index.index-index 0) = slice_get-get_or c.args.indexes.now c.loop-index.index-index 0 c.loop-index-test.true in
      let both : Some j ≡ Some (get_or c.args.indexes.now c.loop-index.index-index 0) = sym e ∙ ap (slice_get c.args.indexes.now) here ∙ at in
      let same : j ≡ get_or c.args.indexes.now c.loop-index.index-index 0 = cc in
      c.in_ok-fill_at.ensures.has r (ap (λ z. landing_of c.args.terms.now.nodes (Const c.args.term z)) (sym same) ∙ lands))
      (cases_lt p c.loop-index.index-index);
}

pub returns-clause-has : goal.returns-clause-has
returns-clause-has c = λ j l here lands.
    let at = at_contained c.args.indexes.now j here in
    let lt = slice_get_within c.args.indexes.now at.0 j at.1 in
    let over = c.loop-index-test.false in
    let less : at.0 < c.loop-index.index-index = omega (arith, lt, over) in
    c.loop-index.invariant.has at.0 j l less at.1 lands
