use Rattle.std.proofs.Common.{rules, ◌≡◌, ◌+◌, ◌-◌, ◌<◌, ◌≤◌, length, get_or, arith, inl, inr}
use Rattle.std.proofs.lemmas.List.{get_or_read}
use Rattle.std.proofs.lemmas.Bool.{cases_lt}
use Rattle.cdcl_core.proofs.Counting.{set_within}
use Rattle.cdcl_core.proofs.Trails.{trail_len, entry_true, rises}
use Rattle.cdcl_core.proofs.add.rewind.Goals as goal
use Rattle.cdcl_core.proofs.add.rewind.Goals.{else-back-test, then-back-test+then-index-t}

pub index-requires : goal.index-requires
index-requires c =
    let size : c.back.head - 1 < length c.args.t.now.codes.items = omega (arith, c.back-test.true, c.back.invariant.lower, c.requires.0.reached, trail_len c.args.t.now.stamps.items c.args.t.now.codes.items c.args.t.now.len c.args.t.now.head c.args.t.now.level c.requires.0) in
    let read : c.index-code.result.now ≡ get_or c.args.t.now.codes.items (c.back.head - 1) 0 = get_or_read c.args.t.now.codes.items (c.back.head - 1) c.index-code.result.now size c.index-code.ensures 0 in
    let set : 0 < get_or c.args.t.now.stamps.items (get_or c.args.t.now.codes.items (c.back.head - 1) 0) 0 = entry_true c.args.t.now.stamps.items c.args.t.now.codes.items c.args.t.now.len c.args.t.now.head c.args.t.now.level (c.back.head - 1) c.requires.0 (omega (arith, c.back-test.true, c.back.invariant.lower, c.requires.0.reached)) in
    let within : c.index-code.result.now < length c.args.t.now.stamps.items = rw read (set_within c.args.t.now.stamps.items (get_or c.args.t.now.codes.items (c.back.head - 1) 0) set) in
    search rules

pub index-code-requires : goal.index-code-requires
index-code-requires c =
    let size : c.back.head - 1 < length c.args.t.now.codes.items = omega (arith, c.back-test.true, c.back.invariant.lower, c.requires.0.reached, trail_len c.args.t.now.stamps.items c.args.t.now.codes.items c.args.t.now.len c.args.t.now.head c.args.t.now.level c.requires.0) in
    search rules

pub back-preserved : goal.back-preserved
back-preserved c =
    let size : c.back.head - 1 < length c.args.t.now.codes.items = omega (arith, c.back-test.true, c.back.invariant.lower, c.requires.0.reached, trail_len c.args.t.now.stamps.items c.args.t.now.codes.items c.args.t.now.len c.args.t.now.head c.args.t.now.level c.requires.0) in
    let read : c.index-code.result.now ≡ get_or c.args.t.now.codes.items (c.back.head - 1) 0 = get_or_read c.args.t.now.codes.items (c.back.head - 1) c.index-code.result.now size c.index-code.ensures 0 in
    let set : 0 < get_or c.args.t.now.stamps.items (get_or c.args.t.now.codes.items (c.back.head - 1) 0) 0 = entry_true c.args.t.now.stamps.items c.args.t.now.codes.items c.args.t.now.len c.args.t.now.head c.args.t.now.level (c.back.head - 1) c.requires.0 (omega (arith, c.back-test.true, c.back.invariant.lower, c.requires.0.reached)) in
    let within : c.index-code.result.now < length c.args.t.now.stamps.items = rw read (set_within c.args.t.now.stamps.items (get_or c.args.t.now.codes.items (c.back.head - 1) 0) set) in
    let stamp : c.index.result.now ≡ get_or c.args.t.now.stamps.items c.index-code.result.now 0 = get_or_read c.args.t.now.stamps.items c.index-code.result.now c.index.result.now within c.index.ensures 0 in
    record {
      lower = omega (arith, c.back.invariant.lower);
      after = λ i lo hi. elim (cases_lt i c.back.head) [
        | inl h ↦ let e : i ≡ c.back.head - 1 = omega arith in rw (e, ← read) (omega (arith, stamp, c.if-index-t.false))
        | inr h ↦ c.back.invariant.after i h hi
      ];
    }

pub returns-clause-before : goal.returns-clause-before
returns-clause-before c = λ i hi. elim c.back-test.branch [
  | else-back-test w ↦ absurd (omega (arith, hi, w.back-test.false))
  | then-back-test+then-index-t w ↦
      let size : c.back.head - 1 < length c.args.t.now.codes.items = omega (arith, w.back-test.true, c.back.invariant.lower, c.requires.0.reached, trail_len c.args.t.now.stamps.items c.args.t.now.codes.items c.args.t.now.len c.args.t.now.head c.args.t.now.level c.requires.0) in
      let read : w.index-code.result.now ≡ get_or c.args.t.now.codes.items (c.back.head - 1) 0 = get_or_read c.args.t.now.codes.items (c.back.head - 1) w.index-code.result.now size w.index-code.ensures 0 in
      let set : 0 < get_or c.args.t.now.stamps.items (get_or c.args.t.now.codes.items (c.back.head - 1) 0) 0 = entry_true c.args.t.now.stamps.items c.args.t.now.codes.items c.args.t.now.len c.args.t.now.head c.args.t.now.level (c.back.head - 1) c.requires.0 (omega (arith, w.back-test.true, c.back.invariant.lower, c.requires.0.reached)) in
      let within : w.index-code.result.now < length c.args.t.now.stamps.items = rw read (set_within c.args.t.now.stamps.items (get_or c.args.t.now.codes.items (c.back.head - 1) 0) set) in
      let stamp : w.index.result.now ≡ get_or c.args.t.now.stamps.items w.index-code.result.now 0 = get_or_read c.args.t.now.stamps.items w.index-code.result.now w.index.result.now within w.index.ensures 0 in
      let low : get_or c.args.t.now.stamps.items (get_or c.args.t.now.codes.items (c.back.head - 1) 0) 0 ≤ c.args.t.now.level = rw (← read) (omega (arith, stamp, w.if-index-t.true)) in
      let e : i + (c.back.head - 1 - i) ≡ c.back.head - 1 = omega arith in
      let up : get_or c.args.t.now.stamps.items (get_or c.args.t.now.codes.items i 0) 0 ≤ get_or c.args.t.now.stamps.items (get_or c.args.t.now.codes.items (c.back.head - 1) 0) 0 = rw e at (rises c.args.t.now.stamps.items c.args.t.now.codes.items c.args.t.now.len c.args.t.now.level i (c.back.head - 1 - i) c.requires.0.levels (omega (arith, hi, c.back.invariant.lower, c.requires.0.reached))) in
      omega (arith, low, up)
]
