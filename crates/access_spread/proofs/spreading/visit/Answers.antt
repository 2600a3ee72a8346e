use Rattle.std.proofs.Common.{◌≡◌, Some, length, slice_get, slice_index_or, ℕ, Bool, true, false, ◌&&◌, refl, sym, ap, ◌∙◌, subst, arith}
use Rattle.std.proofs.lemmas.Option.{slice_get_within, slice_get_read, slice_get-get_or}
use Rattle.access_spread.specs.declared.spreading.Row.{Row}
use Rattle.access_spread.specs.Graphs.{passes, gate_at, takes}
use Rattle.access_spread.specs.Spreads.{index_in, value_in, start_at, IsMet, HasArrived}
use Rattle.access_spread.proofs.Visiting.{meets_next, roomy, grows_refl, grows_trans}
use Rattle.access_spread.proofs.spreading.visit.Goals.{then-goes_over+in_ok-arrive, else-goes_over}
use Rattle.access_spread.proofs.spreading.visit.Goals as goal

both_shut : (a b : Bool) → a ≡ true → b ≡ true → (a && b) ≡ false → ⊥
both_shut true true p q r = let z : ⊥ = cc in z
both_shut true false p q r = let z : ⊥ = cc in z
both_shut false b p q r = let z : ⊥ = cc in z

pub loop-place-preserved : goal.loop-place-preserved
loop-place-preserved c =
    let fan = c.places-place-items.result.now in
    let n = c.loop-place.place-index in
    let j : ℕ = slice_index_or fan n 0 in
    let row = c.index-row.result.now in
    let here : slice_get fan n ≡ Some j = slice_get-get_or fan n 0 (omega arith) in
    let own = c.requires.graph.only row.array n j fan c.loop-place.invariant.fan here in
    let lt = slice_get_within c.args.graph.now.edges.items j own.0 own.1 in
    let edge : slice_get c.args.graph.now.edges.items j ≡ Some c.index-edge.result.now = slice_get_read c.args.graph.now.edges.items (length c.args.graph.now.edges.items) j c.index-edge.result.now refl (omega (arith, lt)) c.index-edge.ensures in
    elim c.if-goes_over.branch [
      | then-goes_over+in_ok-arrive w ↦
          let next : Row = record { array = c.index-edge.result.now.to; start = row.start; from = Some (record { row = c.args.here; edge = j }) } in
          let arrived : HasArrived c.args.graph.now c.args.gates.now c.args.starts.now c.loop-place.state w.arrive.new.state next = w.in_ok-arrive.ensures in
          rw w.state-is (record {
            fits = arrived.fits;
            grows = grows_trans c.args.graph.now c.args.gates.now c.args.lanes.now c.args.starts.now c.args.state.now c.loop-place.state w.arrive.new.state c.loop-place.invariant.grows arrived.grows;
            fan = c.loop-place.invariant.fan;
            row = c.loop-place.invariant.row;
            start = refl;
            meets = λ room. meets_next c.args.graph.now c.args.gates.now c.args.lanes.now c.args.starts.now fan n j c.index-edge.result.now c.loop-place.state w.arrive.new.state row arrived.grows here edge (λ t p. arrived.met room)
                (c.loop-place.invariant.meets (roomy c.loop-place.state w.arrive.new.state arrived.grows room));
          })
      | else-goes_over w ↦
          let shut = sym c.goes_over.ensures ∙ w.if-goes_over.false in
          rw w.state-is (record {
            fits = c.loop-place.invariant.fits;
            grows = c.loop-place.invariant.grows;
            fan = c.loop-place.invariant.fan;
            row = c.loop-place.invariant.row;
            start = refl;
            meets = λ room. meets_next c.args.graph.now c.args.gates.now c.args.lanes.now c.args.starts.now fan n j c.index-edge.result.now c.loop-place.state c.loop-place.state row (grows_refl c.args.graph.now c.args.gates.now c.args.lanes.now c.args.starts.now c.loop-place.state) here edge (λ t p. absurd (both_shut _ _ t p shut)) (c.loop-place.invariant.meets room);
          })
    ]

pub returns : goal.returns
returns c =
    let inv = c.loop-place.invariant in
    record {
      fits = inv.fits;
      grows = inv.grows;
      meets = λ room r e j d get from taken pass.
          let row = c.index-row.result.now in
          let same : row ≡ r = let x = inv.grows.rows c.args.here row inv.row in cc in
          let fan : slice_get c.args.graph.now.fans.items d.from ≡ Some c.places-place-items.result.now = ap (slice_get c.args.graph.now.fans.items) (from ∙ ap (λ z. z.array) (sym same)) ∙ inv.fan in
          let i = c.requires.graph.all j d c.places-place-items.result.now get fan in
          let lt = slice_get_within c.places-place-items.result.now i.0 j i.1 in
          let p : passes (gate_at c.args.gates.now d.gate) (index_in c.args.starts.now row) ≡ true = ap (λ z. passes (gate_at c.args.gates.now d.gate) (index_in c.args.starts.now z)) same ∙ pass in
          let t : takes c.args.lanes.now j (start_at c.args.starts.now row.start).wide ≡ true = ap (λ z. takes c.args.lanes.now j (start_at c.args.starts.now z.start).wide) same ∙ taken in
          let h = inv.meets room i.0 j d (omega (arith, lt)) i.1 get t p in
          subst (λ z. IsMet c.args.starts.now c.loop-place.state.rows.items c.loop-place.state.refused.items d.to (index_in c.args.starts.now z) (value_in c.args.starts.now z)) same h;
    }
