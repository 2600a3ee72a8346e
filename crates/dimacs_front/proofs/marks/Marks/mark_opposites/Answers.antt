use Rattle.std.proofs.Common.{[], ◌++◌, ◌∷◌, sym, refl, ◌∙◌}
use Rattle.cnf_base.specs.Literals.{negated}
use Rattle.dimacs_front.proofs.Hints.{pair_found, opposite_more, opposites_end}
use Rattle.dimacs_front.proofs.marks.Marks.mark_opposites.Goals as goal

pub loop-l-init : goal.loop-l-init
loop-l-init c = record { trues = []; marked = c.begin.ensures; same = refl }

pub returns-then-is_marked : goal.returns-then-is_marked
returns-then-is_marked c =
    let inv = c.loop-l.invariant in
    let x = c.l-item.result in
    pair_found inv.trues c.args.clause.now c.loop-l.l-index x _ c.loop-l-test.true c.l-item.is (sym (inv.marked x) ∙ sym c.is_marked.ensures ∙ c.if-is_marked.true) inv.same

pub loop-l-preserved : goal.loop-l-preserved
loop-l-preserved c =
    let inv = c.loop-l.invariant in
    let x = c.l-item.result in
    record {
      trues = inv.trues ++ negated x ∷ [];
      marked = rw c.negated.ensures at (c.in_ok-mark.ensures inv.trues inv.marked);
      same = opposite_more inv.trues c.args.clause.now c.loop-l.l-index x _ c.loop-l-test.true c.l-item.is (sym (inv.marked x) ∙ sym c.is_marked.ensures ∙ c.if-is_marked.false) inv.same;
    }

pub returns : goal.returns
returns c =
    let inv = c.loop-l.invariant in
    (inv.trues, opposites_end inv.trues c.args.clause.now c.loop-l.l-index _ c.loop-l-test.false inv.same, inv.marked)
