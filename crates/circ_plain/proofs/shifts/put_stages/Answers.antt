use Rattle.std.proofs.Common.{◌≡◌, ◌≤◌, ◌*◌, ◌%◌, ◌^◌, ◌∙◌, length, sym, ap, arith}
use Rattle.cnf_base.proofs.Growing.{Grows-more}
use Rattle.cnf_base.proofs.Rows.{drop_at}
use Rattle.circ_plain.specs.Shifts.{moved}
use Rattle.circ_plain.proofs.Shifting.{length-moved}
use Rattle.circ_plain.proofs.Stages.{Staged, staged, distance_fits, distance_is, one_row_more, a_row}
use Rattle.circ_plain.proofs.shifts.put_stages.Goals as goal

pub overflow_shl-place : goal.overflow_shl-place
overflow_shl-place c =
    let near = c.requires.near c.loop-place.place (omega arith) in
    distance_fits c.loop-place.place (length c.args.a.now) near (omega (arith, a_row (length c.args.a.now) (length c.args.near.now) (omega arith), c.requires.room))

-- the row that a stage moves, as long as it was
the_row : (c : goal.After-as_slice-in-loop-place-2) → length c.as_slice-in-loop-place.result.now ≡ length c.loop-place.row.items
the_row c =
    let place = c.loop-place.place in
    let near = c.requires.near place (omega arith) in
    let fits = distance_fits place (length c.args.a.now) near (omega (arith, a_row (length c.args.a.now) (length c.args.near.now) (omega arith), c.requires.room)) in
    let made : c.in_ok-shifted.shifted.items ≡ moved c.args.way c.args.fill (1 * 2 ^ place % 2 ^ 64) c.as_slice.result.now = c.in_ok-shifted.ensures in
    let shifted = c.as_slice-in-loop-place.ensures.value ∙ (rw (distance_is place fits, c.as_slice.ensures.value) at made) in
    ap length shifted ∙ length-moved c.args.way c.args.fill (2 ^ place) c.loop-place.row.items (omega (arith, near, c.loop-place.invariant.width))

pub mux-requires-clause-room : goal.mux-requires-clause-room
mux-requires-clause-room c =
    let more = one_row_more (length c.args.a.now) c.loop-place.place (length c.args.near.now) (omega arith) in
    let row = the_row c in
    omega (arith, more, row, c.loop-place.invariant.width, c.loop-place.invariant.next, c.requires.room)

the_stage : (c : goal.After-drop-shifted-in-loop-place) → Staged c.args.way c.args.fill c.loop-place.circuit c.mux.new.self c.loop-place.place c.loop-place.row.items c.in_ok-row-2.row.items c.args.near.now c.index-near-place.result
the_stage c =
    let place = c.loop-place.place in
    let near = c.requires.near place (omega arith) in
    let room : 2 ^ place ≤ length c.loop-place.row.items = omega (arith, near, c.loop-place.invariant.width) in
    let fits = distance_fits place (length c.args.a.now) near (omega (arith, a_row (length c.args.a.now) (length c.args.near.now) (omega arith), c.requires.room)) in
    let made : c.in_ok-shifted.shifted.items ≡ moved c.args.way c.args.fill (1 * 2 ^ place % 2 ^ 64) c.as_slice.result.now = c.in_ok-shifted.ensures in
    let shifted = c.as_slice-in-loop-place.ensures.value ∙ (rw (distance_is place fits, c.as_slice.ensures.value) at made) in
    let split = drop_at c.args.near.now place c.index-near-place.result (omega arith) c.index-near-place.is in
    staged c.args.way c.args.fill c.loop-place.circuit c.mux.new.self place c.loop-place.row.items c.in_ok-row-2.row.items c.args.near.now c.as_slice-in-loop-place.result.now c.as_slice-in-loop-place-2.result.now c.index-near-place.result room split shifted c.as_slice-in-loop-place-2.ensures.value c.in_ok-row-2.ensures.gains c.in_ok-row-2.ensures.bits

pub loop-place-preserved : goal.loop-place-preserved
loop-place-preserved c =
    let step = the_stage c in
    record {
      next = omega (arith, step.count, c.loop-place.invariant.next, c.loop-place.invariant.width);
      width = step.width ∙ c.loop-place.invariant.width;
      grows = Grows-more _ _ _ _ _ _ _ c.loop-place.invariant.grows step.gains step.split.gates;
      bits = sym step.split.bits ∙ c.loop-place.invariant.bits;
    }
