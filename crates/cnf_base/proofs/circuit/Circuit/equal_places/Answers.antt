use Rattle.std.proofs.Common.{◌∙◌, refl, sym, arith, rules}
use Rattle.std.proofs.lemmas.List.{drop_all}
use Rattle.cnf_base.proofs.Growing.{Grows-more, Grows-all}
use Rattle.cnf_base.proofs.Rows.{drop_at}
use Rattle.cnf_base.proofs.Equating.{equal_place}
use Rattle.cnf_base.proofs.circuit.Circuit.equal_places.Goals as goal

pub loop-k-preserved : goal.loop-k-preserved
loop-k-preserved c =
    let k = c.loop-k.k in
    let xs = drop_at c.args.a.now k c.index-a-k.result (omega arith) c.index-a-k.is in
    let ys = drop_at c.args.b.now k c.index-b-k.result (omega arith) c.index-b-k.is in
    let place = equal_place c.loop-k.self.next c.equal_place.new.self.next _ _ _ _ _ _ c.loop-k.equal c.in_ok-equal.equal xs ys c.in_ok-equal.ensures.gains.next c.in_ok-equal.ensures.literal in
    record {
      next = search rules;
      grows = Grows-more _ _ _ _ _ _ _ c.loop-k.invariant.grows c.in_ok-equal.ensures.gains place.gates;
      literal = sym place.last ∙ c.loop-k.invariant.literal;
    }

pub returns-clause-gains : goal.returns-clause-gains
returns-clause-gains c = Grows-all _ _ _ _ c.loop-k.invariant.grows (rw (drop_all c.loop-k.k c.args.a.now (omega arith)) refl)
