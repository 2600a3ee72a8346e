use Rattle.std.proofs.Common.{rules, ◌≡◌, ◌≢◌, ◌+◌, ◌-◌, ◌^◌, ◌<◌, ◌≤◌, ◌⊎◌, length, inl, inr, ◌∙◌, ap, sym, arith}
use Rattle.cdcl_core.specs.Stamps.{codes, Has, IsTrueAt, rank}
use Rattle.cdcl_core.proofs.Ranks.{rank_above}
use Rattle.cdcl_core.proofs.Bridge.{rests_rows, rows_rest}
use Rattle.cdcl_core.proofs.Trails.{level_len, trail_len}
use Rattle.cdcl_core.proofs.Public.{false_is_not}
use Rattle.cdcl_core.proofs.Leveling.{IsUnitFrom, IsLastBut, unit_from, unit_no_rest, true_rests}
use Rattle.cdcl_core.proofs.watches.Watches.level_for.Goals as goal
use Rattle.cdcl_core.proofs.watches.Watches.level_for.Goals.{then-second-eq0, else-second-eq0}

pub overflow_sub-unit : goal.overflow_sub-unit
overflow_sub-unit c =
    let above : 0 < rank c.as_slice-stamps.result.now c.latest-second.result = rank_above c.as_slice-stamps.result.now c.latest-second.result in
    omega (arith, above, c.rank_of.ensures)

pub returns-then-trail-unit-clause-rests : goal.returns-then-trail-unit-clause-rests
returns-then-trail-unit-clause-rests c =
    let first : IsLastBut (codes c.args.clause.now) c.as_slice-stamps.result.now 0 c.latest-last.result = rw (← c.literals.ensures) (record { none = c.latest-last.ensures.none; has = c.latest-last.ensures.has; other = c.latest-last.ensures.other; latest = c.latest-last.ensures.latest }) in
    let second : IsLastBut (codes c.args.clause.now) c.as_slice-stamps.result.now c.latest-last.result c.latest-second.result = rw (← c.literals-2.ensures) (record { none = c.latest-second.ensures.none; has = c.latest-second.ensures.has; other = c.latest-second.ensures.other; latest = c.latest-second.ensures.latest }) in
    let is : ((c.latest-second.result ≡ 0) × (c.if-second-eq0.unit ≡ 0)) ⊎ ((c.latest-second.result ≢ 0) × (c.if-second-eq0.unit ≡ rank c.as_slice-stamps.result.now c.latest-second.result - 1)) = elim c.if-second-eq0.branch [ then-second-eq0 w ↦ inl (w.if-second-eq0.true, w.unit-is) | else-second-eq0 w ↦ inr (w.if-second-eq0.false, w.unit-is ∙ ap (λ n. n - 1) w.rank_of.ensures) ] in
    let unit : IsUnitFrom c.args.trail.now.stamps.items (codes c.args.clause.now) c.latest-last.result c.if-second-eq0.unit = rw (← c.as_slice-stamps.ensures.value) (unit_from c.as_slice-stamps.result.now (codes c.args.clause.now) c.latest-last.result c.latest-second.result c.if-second-eq0.unit first second is) in
    λ j h. rests_rows c.args.trail.now j c.args.clause.now c.requires.trail c.requires.shown (unit.before j (omega (arith, h, c.if-trail-unit.true)))

pub returns-then-is_true_by-clause-rests : goal.returns-then-is_true_by-clause-rests
returns-then-is_true_by-clause-rests c =
    let first : IsLastBut (codes c.args.clause.now) c.as_slice-stamps.result.now 0 c.latest-last.result = rw (← c.literals.ensures) (record { none = c.latest-last.ensures.none; has = c.latest-last.ensures.has; other = c.latest-last.ensures.other; latest = c.latest-last.ensures.latest }) in
    let second : IsLastBut (codes c.args.clause.now) c.as_slice-stamps.result.now c.latest-last.result c.latest-second.result = rw (← c.literals-2.ensures) (record { none = c.latest-second.ensures.none; has = c.latest-second.ensures.has; other = c.latest-second.ensures.other; latest = c.latest-second.ensures.latest }) in
    let is : ((c.latest-second.result ≡ 0) × (c.if-second-eq0.unit ≡ 0)) ⊎ ((c.latest-second.result ≢ 0) × (c.if-second-eq0.unit ≡ rank c.as_slice-stamps.result.now c.latest-second.result - 1)) = elim c.if-second-eq0.branch [ then-second-eq0 w ↦ inl (w.if-second-eq0.true, w.unit-is) | else-second-eq0 w ↦ inr (w.if-second-eq0.false, w.unit-is ∙ ap (λ n. n - 1) w.rank_of.ensures) ] in
    let unit : IsUnitFrom c.args.trail.now.stamps.items (codes c.args.clause.now) c.latest-last.result c.if-second-eq0.unit = rw (← c.as_slice-stamps.ensures.value) (unit_from c.as_slice-stamps.result.now (codes c.args.clause.now) c.latest-last.result c.latest-second.result c.if-second-eq0.unit first second is) in
    let on : IsTrueAt c.args.trail.now.stamps.items c.if-second-eq0.unit c.latest-last.result = rw (← c.as_slice-stamps.ensures.value) (c.is_true_by.ensures.0 c.if-is_true_by.true) in
    let two : 2 ≤ c.latest-last.result = c.requires.trail.named c.latest-last.result on.0 in
    let has : Has (codes c.args.clause.now) c.latest-last.result = first.has (λ z. omega (arith, z, two)) in
    λ j h. rests_rows c.args.trail.now j c.args.clause.now c.requires.trail c.requires.shown (true_rests c.args.trail.now.stamps.items (codes c.args.clause.now) c.latest-last.result c.if-second-eq0.unit j unit has on)

pub returns-clause-rests : goal.returns-clause-rests
returns-clause-rests c =
    let first : IsLastBut (codes c.args.clause.now) c.as_slice-stamps.result.now 0 c.latest-last.result = rw (← c.literals.ensures) (record { none = c.latest-last.ensures.none; has = c.latest-last.ensures.has; other = c.latest-last.ensures.other; latest = c.latest-last.ensures.latest }) in
    let second : IsLastBut (codes c.args.clause.now) c.as_slice-stamps.result.now c.latest-last.result c.latest-second.result = rw (← c.literals-2.ensures) (record { none = c.latest-second.ensures.none; has = c.latest-second.ensures.has; other = c.latest-second.ensures.other; latest = c.latest-second.ensures.latest }) in
    let is : ((c.latest-second.result ≡ 0) × (c.if-second-eq0.unit ≡ 0)) ⊎ ((c.latest-second.result ≢ 0) × (c.if-second-eq0.unit ≡ rank c.as_slice-stamps.result.now c.latest-second.result - 1)) = elim c.if-second-eq0.branch [ then-second-eq0 w ↦ inl (w.if-second-eq0.true, w.unit-is) | else-second-eq0 w ↦ inr (w.if-second-eq0.false, w.unit-is ∙ ap (λ n. n - 1) w.rank_of.ensures) ] in
    let unit : IsUnitFrom c.args.trail.now.stamps.items (codes c.args.clause.now) c.latest-last.result c.if-second-eq0.unit = rw (← c.as_slice-stamps.ensures.value) (unit_from c.as_slice-stamps.result.now (codes c.args.clause.now) c.latest-last.result c.latest-second.result c.if-second-eq0.unit first second is) in
    λ j h. rests_rows c.args.trail.now j c.args.clause.now c.requires.trail c.requires.shown (unit.before j h)

pub returns-clause-highest : goal.returns-clause-highest
returns-clause-highest c =
    let first : IsLastBut (codes c.args.clause.now) c.as_slice-stamps.result.now 0 c.latest-last.result = rw (← c.literals.ensures) (record { none = c.latest-last.ensures.none; has = c.latest-last.ensures.has; other = c.latest-last.ensures.other; latest = c.latest-last.ensures.latest }) in
    let second : IsLastBut (codes c.args.clause.now) c.as_slice-stamps.result.now c.latest-last.result c.latest-second.result = rw (← c.literals-2.ensures) (record { none = c.latest-second.ensures.none; has = c.latest-second.ensures.has; other = c.latest-second.ensures.other; latest = c.latest-second.ensures.latest }) in
    let is : ((c.latest-second.result ≡ 0) × (c.if-second-eq0.unit ≡ 0)) ⊎ ((c.latest-second.result ≢ 0) × (c.if-second-eq0.unit ≡ rank c.as_slice-stamps.result.now c.latest-second.result - 1)) = elim c.if-second-eq0.branch [ then-second-eq0 w ↦ inl (w.if-second-eq0.true, w.unit-is) | else-second-eq0 w ↦ inr (w.if-second-eq0.false, w.unit-is ∙ ap (λ n. n - 1) w.rank_of.ensures) ] in
    let unit : IsUnitFrom c.args.trail.now.stamps.items (codes c.args.clause.now) c.latest-last.result c.if-second-eq0.unit = rw (← c.as_slice-stamps.ensures.value) (unit_from c.as_slice-stamps.result.now (codes c.args.clause.now) c.latest-last.result c.latest-second.result c.if-second-eq0.unit first second is) in
    let t = c.args.trail.now in
    let size : length c.args.trail.now.codes.items < 2 ^ 63 = search rules in
    λ h r.
    let small : c.if-second-eq0.unit + 2 < 2 ^ 64 = omega (arith, h, size, level_len t.stamps.items t.codes.items t.len t.head t.level c.requires.trail, trail_len t.stamps.items t.codes.items t.len t.head t.level c.requires.trail) in
    unit_no_rest t.stamps.items t.codes.items (codes c.args.clause.now) t.len t.head t.level c.latest-last.result c.if-second-eq0.unit c.requires.trail small unit
    (λ on. false_is_not (sym c.if-is_true_by.false ∙ c.is_true_by.ensures.1 (rw c.as_slice-stamps.ensures.value on)))
    (rows_rest t c.if-second-eq0.unit c.args.clause.now c.requires.trail c.requires.shown r)
