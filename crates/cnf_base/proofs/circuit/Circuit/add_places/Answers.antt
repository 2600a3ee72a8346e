use Rattle.std.proofs.Common.{◌∙◌, refl, sym, arith, rules}
use Rattle.std.proofs.lemmas.List.{drop_all}
use Rattle.cnf_base.proofs.Growing.{Grows-more, Grows-all}
use Rattle.cnf_base.proofs.Rows.{drop_at, pushed}
use Rattle.cnf_base.proofs.Adding.{add_place}
use Rattle.cnf_base.proofs.circuit.Circuit.add_places.Goals as goal

pub loop-k-preserved : goal.loop-k-preserved
loop-k-preserved c =
    let k = c.loop-k.k in
    let a = c.args.a.now in
    let b = c.args.b.now in
    let xs = drop_at a k c.index-a-k.result (omega arith) c.index-a-k.is in
    let ys = drop_at b k c.index-b-k.result (omega arith) c.index-b-k.is in
    let place = add_place c.loop-k.self.next c.add_place.new.self.next _ _ _ _ _ _ c.loop-k.last c.in_ok-bit.next xs ys c.in_ok-bit.ensures.gains.next c.in_ok-bit.ensures.carry in
    record {
      next = search rules;
      grows = Grows-more _ _ _ _ _ _ _ c.loop-k.invariant.grows c.in_ok-bit.ensures.gains place.gates;
      bits = pushed _ _ _ _ _ _ _ c.in_ok-push.ensures.items c.in_ok-bit.ensures.bit place.bits c.loop-k.invariant.bits;
      carry = sym place.last ∙ c.loop-k.invariant.carry;
    }

pub returns-clause-gains : goal.returns-clause-gains
returns-clause-gains c = Grows-all _ _ _ _ c.loop-k.invariant.grows (rw (drop_all c.loop-k.k c.args.a.now (omega arith)) refl)
