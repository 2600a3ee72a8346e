use Rattle.std.proofs.Common.{◌∙◌, refl, sym, arith, rules}
use Rattle.std.proofs.lemmas.List.{drop_all}
use Rattle.cnf_base.proofs.Growing.{Grows-more, Grows-all}
use Rattle.cnf_base.proofs.Rows.{drop_at}
use Rattle.circ_plain.proofs.Comparing.{below_place}
use Rattle.circ_plain.proofs.orders.below_places.Goals as goal

pub loop-k-preserved : goal.loop-k-preserved
loop-k-preserved c =
    let k = c.loop-k.k in
    let xs = drop_at c.args.a.now k c.index-a-k.result (omega arith) c.index-a-k.is in
    let ys = drop_at c.args.b.now k c.index-b-k.result (omega arith) c.index-b-k.is in
    let place = below_place c.loop-k.circuit.next c.below_place.new.circuit.next _ _ _ _ _ _ c.loop-k.below c.in_ok-below.below xs ys c.in_ok-below.ensures.gains.next c.in_ok-below.ensures.literal in
    record {
      next = search rules;
      grows = Grows-more _ _ _ _ _ _ _ c.loop-k.invariant.grows c.in_ok-below.ensures.gains place.gates;
      literal = sym place.last ∙ c.loop-k.invariant.literal;
    }

pub returns-clause-gains : goal.returns-clause-gains
returns-clause-gains c = Grows-all _ _ _ _ c.loop-k.invariant.grows (rw (drop_all c.loop-k.k c.args.a.now (omega arith)) refl)
