use Rattle.std.proofs.Common.{[], ◌++◌, ◌∷◌, sym, refl, ◌∙◌, arith}
use Rattle.dimacs_front.specs.declared.shape.Shape.TheVariants.{AllFalse, OneOpen, Many}
use Rattle.dimacs_front.proofs.Hints.{hint_missing, hint_shape, hints_over, drop_here}
use Rattle.dimacs_front.proofs.lrat.leads.Goals as goal

pub loop-place-init : goal.loop-place-init
loop-place-init c = λ known a. record { now = known; marked = a; same = refl }

pub returns-in_default : goal.returns-in_default
returns-in_default c = λ known a.
    let inv = c.loop-place.invariant known a in
    let ns = c.args.hints.now in
    let n = c.number_at-hint.result in
    hint_missing c.args.table.now inv.now n _ _ _ (drop_here ns c.loop-place.place n c.number_at-hint.ensures) c.in_default.ensures inv.same

pub returns-in-AllFalse : goal.returns-in-AllFalse
returns-in-AllFalse c = λ known a.
    let inv = c.loop-place.invariant known a in
    let ns = c.args.hints.now in
    let n = c.number_at-hint.result in
    hint_shape c.args.table.now inv.now n _ _ c.in-Some.clause.now AllFalse _ (drop_here ns c.loop-place.place n c.number_at-hint.ensures) c.in-Some.ensures (sym c.in-AllFalse.is ∙ c.shape_of.ensures inv.now inv.marked) inv.same

pub returns-in-Many : goal.returns-in-Many
returns-in-Many c = λ known a.
    let inv = c.loop-place.invariant known a in
    let ns = c.args.hints.now in
    let n = c.number_at-hint.result in
    hint_shape c.args.table.now inv.now n _ _ c.in-Some.clause.now Many _ (drop_here ns c.loop-place.place n c.number_at-hint.ensures) c.in-Some.ensures (sym c.in-Many.is ∙ c.shape_of.ensures inv.now inv.marked) inv.same

pub loop-place-preserved : goal.loop-place-preserved
loop-place-preserved c = λ known a.
    let inv = c.loop-place.invariant known a in
    let ns = c.args.hints.now in
    let n = c.number_at-hint.result in
    let l = c.in-OneOpen.l in
    record {
      now = inv.now ++ l ∷ [];
      marked = c.in_ok-mark-in-OneOpen.ensures inv.now inv.marked;
      same = hint_shape c.args.table.now inv.now n _ _ c.in-Some.clause.now (OneOpen l) _ (drop_here ns c.loop-place.place n c.number_at-hint.ensures) c.in-Some.ensures (sym c.in-OneOpen.is ∙ c.shape_of.ensures inv.now inv.marked) inv.same;
    }

pub returns : goal.returns
returns c = λ known a.
    let inv = c.loop-place.invariant known a in
    hints_over c.args.table.now inv.now c.args.hints.now c.loop-place.place _ (omega arith) inv.same
