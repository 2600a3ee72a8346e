use Rattle.std.proofs.Common.{rules, ◌≡◌, ◌+◌, ◌-◌, ◌<◌, ◌≤◌, length, get_or, refl, arith}
use Rattle.std.proofs.lemmas.List.{get_or_read}
use Rattle.cdcl_core.proofs.Cutting.{cut_start, cut_more}
use Rattle.cdcl_core.proofs.Decisions.{cut_within, cut_settles, cut_kept, cut_lost}
use Rattle.cdcl_core.proofs.decide.cut_back.Goals as goal
use Rattle.cdcl_core.proofs.decide.cut_back.Goals.{else-entries-test, then-entries-test+then-index-level}

pub entries-init : goal.entries-init
entries-init c = record { cut = cut_start c.args.t.now.stamps.items c.args.t.now.codes.items c.args.t.now.len c.args.t.now.head c.args.t.now.level c.args.level c.requires.settled.trail; codes = refl; reasons = refl; rows = refl; spots = refl }

pub index-requires : goal.index-requires
index-requires c =
    let x : c.index-code.result.now ≡ get_or c.args.t.now.codes.items (c.entries.t.len - 1) c.index-code.result.now = rw c.entries.invariant.codes at c.index-code.ensures in
    let p : (c.index-code.result.now ≡ get_or c.args.t.now.codes.items (c.entries.t.len - 1) 0) × (c.index-code.result.now < length c.entries.t.stamps.items) = cut_within c.args.t.now.stamps.items c.args.t.now.codes.items c.args.t.now.len c.args.t.now.head c.args.t.now.level c.args.level c.entries.t.stamps.items c.entries.t.len c.index-code.result.now c.requires.settled.trail c.entries.invariant.cut c.entries-test.true x in
    let within : c.index-code.result.now < length c.entries.t.stamps.items = p.1 in
    search rules

pub index_mut-requires : goal.index_mut-requires
index_mut-requires c =
    let x : c.index-code.result.now ≡ get_or c.args.t.now.codes.items (c.entries.t.len - 1) c.index-code.result.now = rw c.entries.invariant.codes at c.index-code.ensures in
    let p : (c.index-code.result.now ≡ get_or c.args.t.now.codes.items (c.entries.t.len - 1) 0) × (c.index-code.result.now < length c.entries.t.stamps.items) = cut_within c.args.t.now.stamps.items c.args.t.now.codes.items c.args.t.now.len c.args.t.now.head c.args.t.now.level c.args.level c.entries.t.stamps.items c.entries.t.len c.index-code.result.now c.requires.settled.trail c.entries.invariant.cut c.entries-test.true x in
    let within : c.index-code.result.now < length c.entries.t.stamps.items = p.1 in
    search rules

pub entries-preserved : goal.entries-preserved
entries-preserved c =
    let x : c.index-code.result.now ≡ get_or c.args.t.now.codes.items (c.entries.t.len - 1) c.index-code.result.now = rw c.entries.invariant.codes at c.index-code.ensures in
    let p : (c.index-code.result.now ≡ get_or c.args.t.now.codes.items (c.entries.t.len - 1) 0) × (c.index-code.result.now < length c.entries.t.stamps.items) = cut_within c.args.t.now.stamps.items c.args.t.now.codes.items c.args.t.now.len c.args.t.now.head c.args.t.now.level c.args.level c.entries.t.stamps.items c.entries.t.len c.index-code.result.now c.requires.settled.trail c.entries.invariant.cut c.entries-test.true x in
    let e : c.index.result.now ≡ get_or c.entries.t.stamps.items c.index-code.result.now 0 = get_or_read c.entries.t.stamps.items c.index-code.result.now c.index.result.now p.1 c.index.ensures 0 in
    record {
      cut = cut_more c.args.t.now.stamps.items c.args.t.now.codes.items c.args.t.now.len c.args.t.now.head c.args.t.now.level c.args.level c.entries.t.stamps.items c.entries.t.len c.index-code.result.now c.requires.settled.trail c.entries.invariant.cut c.entries-test.true p.0 (omega (arith, e, c.if-index-level.false));
      codes = c.entries.invariant.codes;
      reasons = c.entries.invariant.reasons;
      rows = c.entries.invariant.rows;
      spots = c.entries.invariant.spots;
    }

pub returns-clause-settled : goal.returns-clause-settled
returns-clause-settled c = cut_settles c.args.w.now c.args.t.now c.entries.t c.args.level c.requires.settled c.requires.lower c.entries.invariant
    (λ h. elim c.entries-test.branch [
      | else-entries-test w ↦ absurd (omega (arith, h, w.entries-test.false))
      | then-entries-test+then-index-level w ↦
          let x : w.index-code.result.now ≡ get_or c.args.t.now.codes.items (c.entries.t.len - 1) w.index-code.result.now = rw c.entries.invariant.codes at w.index-code.ensures in
          let p : (w.index-code.result.now ≡ get_or c.args.t.now.codes.items (c.entries.t.len - 1) 0) × (w.index-code.result.now < length c.entries.t.stamps.items) = cut_within c.args.t.now.stamps.items c.args.t.now.codes.items c.args.t.now.len c.args.t.now.head c.args.t.now.level c.args.level c.entries.t.stamps.items c.entries.t.len w.index-code.result.now c.requires.settled.trail c.entries.invariant.cut h x in
          let e : w.index.result.now ≡ get_or c.entries.t.stamps.items w.index-code.result.now 0 = get_or_read c.entries.t.stamps.items w.index-code.result.now w.index.result.now p.1 w.index.ensures 0 in
          let y : get_or c.entries.t.stamps.items w.index-code.result.now 0 ≤ c.args.level + 1 = omega (arith, e, w.if-index-level.true) in
          rw (c.entries.invariant.codes, ← p.0) y
    ])

pub returns-clause-kept : goal.returns-clause-kept
returns-clause-kept c = λ i k. cut_kept c.args.w.now c.args.t.now c.entries.t c.args.level i c.requires.settled c.entries.invariant
    (λ h. elim c.entries-test.branch [
      | else-entries-test w ↦ absurd (omega (arith, h, w.entries-test.false))
      | then-entries-test+then-index-level w ↦
          let x : w.index-code.result.now ≡ get_or c.args.t.now.codes.items (c.entries.t.len - 1) w.index-code.result.now = rw c.entries.invariant.codes at w.index-code.ensures in
          let p : (w.index-code.result.now ≡ get_or c.args.t.now.codes.items (c.entries.t.len - 1) 0) × (w.index-code.result.now < length c.entries.t.stamps.items) = cut_within c.args.t.now.stamps.items c.args.t.now.codes.items c.args.t.now.len c.args.t.now.head c.args.t.now.level c.args.level c.entries.t.stamps.items c.entries.t.len w.index-code.result.now c.requires.settled.trail c.entries.invariant.cut h x in
          let e : w.index.result.now ≡ get_or c.entries.t.stamps.items w.index-code.result.now 0 = get_or_read c.entries.t.stamps.items w.index-code.result.now w.index.result.now p.1 w.index.ensures 0 in
          let y : get_or c.entries.t.stamps.items w.index-code.result.now 0 ≤ c.args.level + 1 = omega (arith, e, w.if-index-level.true) in
          rw (c.entries.invariant.codes, ← p.0) y
    ]) k

pub returns-clause-gone : goal.returns-clause-gone
returns-clause-gone c = λ i lo hi. cut_lost c.args.w.now c.args.t.now c.entries.t c.args.level i c.requires.settled c.entries.invariant lo hi
