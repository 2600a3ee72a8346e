use Rattle.std.proofs.Common.{◌∙◌, refl, ap, arith, rules}
use Rattle.std.proofs.lemmas.List.{drop_all}
use Rattle.cnf_base.specs.Literals.{positive_of}
use Rattle.cnf_base.proofs.Growing.{Grows-more, Grows-all}
use Rattle.cnf_base.proofs.Rows.{drop_at, fresh_bits-push}
use Rattle.bit_blast.proofs.rows.gate_places.Goals as goal

pub loop-k-preserved : goal.loop-k-preserved
loop-k-preserved c =
    let k = c.loop-k.k in
    let xs = drop_at c.args.a.now k c.index-a-k.result (omega arith) c.index-a-k.is in
    let ys = drop_at c.args.b.now k c.index-b-k.result (omega arith) c.index-b-k.is in
    record {
      next = search rules;
      grows = Grows-more _ _ _ _ _ _ _ c.loop-k.invariant.grows c.in_ok-bit.ensures.gains (rw (xs, ys, c.gate.ensures) refl);
      bits = c.in_ok-push.ensures.items ∙ fresh_bits-push k c.args.circuit.now.next _ _ c.loop-k.invariant.bits (c.in_ok-bit.ensures.literal ∙ ap positive_of c.loop-k.invariant.next);
    }

pub returns-clause-gains : goal.returns-clause-gains
returns-clause-gains c = Grows-all _ _ _ _ c.loop-k.invariant.grows (rw (drop_all c.loop-k.k c.args.a.now (omega arith)) refl)
