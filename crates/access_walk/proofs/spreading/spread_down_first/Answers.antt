use Rattle.std.proofs.Common.{◌≡◌, [], true, false, length, sym, ap, ◌∙◌, subst, arith}
use Rattle.std.specs.Vec.{vec_len}
use Rattle.std.proofs.lemmas.Bool.{eq-eqb}
use Rattle.access_spread.specs.Spreads.{AreTold, IsSpread}
use Rattle.std.proofs.lemmas.Result.{on_ok_weaker}
use Rattle.access_walk.proofs.Telling.{every_lane}
use Rattle.access_walk.proofs.spreading.spread_down_first.Goals as goal

pub returns-clause-spread : goal.returns-clause-spread
returns-clause-spread c =
    let g = c.args.network.now.graph in
    let rows = c.spread.new.state.rows.items in
    let refused = c.spread.new.state.refused in
    let s = c.in_ok-spread.ensures.spread in
    let r : IsSpread g c.deref.result.now [] c.deref-2.result.now rows refused.items = record {
      derived = s.derived;
      started = s.started;
      refused_are = s.refused_are;
      few = s.few;
      single = s.single;
      table = λ n.
          let z : length refused.items ≡ 0 = ap length n.1 in
          let w : vec_len refused ≡ 0 = omega (arith, z) in
          let t : true ≡ false = sym (eq-eqb (vec_len refused) 0 w) ∙ sym c.is_empty.ensures ∙ c.if-is_empty.false in
          let f : ⊥ = cc in absurd f;
    } in
    subst (λ gs. IsSpread g gs [] c.args.values.now.starts.items rows refused.items) c.deref.ensures.value (subst (λ ss. IsSpread g c.deref.result.now [] ss rows refused.items) c.deref-2.ensures.value r)

pub returns-clause-told : goal.returns-clause-told
returns-clause-told c =
    let g = c.args.network.now.graph in
    let rows = c.spread.new.state.rows.items in
    let refused = c.spread.new.state.refused.items in
    let lanes = c.args.lanes.now in
    subst (λ gs. AreTold g gs lanes c.args.values.now.starts.items rows refused) c.deref.ensures.value (subst (λ ss. AreTold g c.deref.result.now lanes ss rows refused) c.deref-2.ensures.value c.in_ok-spread.ensures.told)

pub returns-then-is_empty-clause-told : goal.returns-then-is_empty-clause-told
returns-then-is_empty-clause-told c =
    let g = c.args.network.now.graph in
    let state = c.spread-then-is_empty.new.state in
    let starts = c.args.values.now.starts.items in
    on_ok_weaker c.spread-then-is_empty.result
    (λ told.
    every_lane g c.args.values.now.gates.items c.args.lanes.now starts state.rows.items state.refused.items
    (subst (λ gs. AreTold g gs [] starts state.rows.items state.refused.items) c.deref-then-is_empty.ensures.value (subst (λ ss. AreTold g c.deref-then-is_empty.result.now [] ss state.rows.items state.refused.items) c.deref-then-is_empty-2.ensures.value told)))
    c.spread-then-is_empty.ensures.told
