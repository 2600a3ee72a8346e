use Rattle.std.proofs.Common.{◌∙◌, sym, arith, rules}
use Rattle.cnf_base.proofs.Growing.{Grows-more}
use Rattle.cnf_base.proofs.Rows.{drop_at}
use Rattle.circ_plain.proofs.Stages.{any_place, negative_from}
use Rattle.circ_plain.proofs.shifts.put_any.Goals as goal

pub loop-k-preserved : goal.loop-k-preserved
loop-k-preserved c =
    let k = c.loop-k.k in
    let ts = drop_at c.args.bits.now k c.index-bits-k.result (omega arith) c.index-bits-k.is in
    let after = negative_from _ _ _ c.negated-any.ensures c.in_ok-none.ensures.literal in
    let place = any_place c.loop-k.circuit.next c.gate.new.self.next _ _ _ c.loop-k.any _ ts c.in_ok-none.ensures.gains.next after in
    let made = rw (c.negated.ensures, c.negated-in-loop-k.ensures) at c.in_ok-none.ensures.gains in
    record {
      next = search rules;
      grows = Grows-more _ _ _ _ _ _ _ c.loop-k.invariant.grows made place.gates;
      literal = sym place.last ∙ c.loop-k.invariant.literal;
    }
