use Rattle.std.proofs.Common.{◌∙◌, refl, ap, arith, rules}
use Rattle.cnf_base.specs.Literals.{positive_of}
use Rattle.cnf_base.proofs.Growing.{Grows-more}
use Rattle.cnf_base.proofs.Rows.{drop_at, fresh_bits-push}
use Rattle.circ_plain.proofs.shifts.put_mask.Goals as goal

pub loop-k-preserved : goal.loop-k-preserved
loop-k-preserved c =
    let k = c.loop-k.k in
    let xs = drop_at c.args.row.now k c.index-row-k.result (omega arith) c.index-row-k.is in
    record {
      next = search rules;
      grows = Grows-more _ _ _ _ _ _ _ c.loop-k.invariant.grows c.in_ok-bit.ensures.gains (rw xs refl);
      bits = c.in_ok-push.ensures.items ∙ fresh_bits-push k c.args.circuit.now.next _ _ c.loop-k.invariant.bits (c.in_ok-bit.ensures.literal ∙ ap positive_of c.loop-k.invariant.next);
    }
