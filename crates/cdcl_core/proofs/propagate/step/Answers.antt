use Rattle.std.specs.List.{sum_by}
use Rattle.cdcl_core.specs.Chains.{times}
use Rattle.std.proofs.Common.{rules, ℕ, Some, ◌≡◌, ◌+◌, ◌/◌, ◌^◌, ◌<◌, ◌≤◌, length, get_or, [], ◌∙◌, ap, arith, refl}
use Rattle.std.proofs.lemmas.List.{get_or_read}
use Rattle.cnf_base.specs.Literals.{literal_of}
use Rattle.cdcl_core.specs.Stamps.{neg as neg_of, codes, Has}
use Rattle.cnf_base.specs.Clauses.{no_id}
use Rattle.cdcl_core.specs.State.{all_codes}
use Rattle.cdcl_core.proofs.Clauses.{clause_codes}
use Rattle.cdcl_core.proofs.Trails.{has_room, level_len, few_true, few_levels}
use Rattle.cdcl_core.proofs.Reasons.{pushed_grown, has_row}
use Rattle.cdcl_core.proofs.Visits.{AtPlace, at_place, IsPushed, visit_kept, visit_false, visit_moved, visit_unit}
use Rattle.cdcl_core.proofs.propagate.step.Goals as goal

pub literal-other-requires : goal.literal-other-requires
literal-other-requires c =
    let a : AtPlace c.args.w.now c.args.t.now c.args.p c.args.place (get_or c.args.w.now.lists.literals c.neg-mate.result 0) = at_place c.args.w.now c.args.t.now c.args.p 0 c.args.place c.neg-mate.result (get_or c.args.w.now.lists.literals c.neg-mate.result 0) c.requires.visiting c.requires.pending c.requires.first c.neg-mate.ensures refl in
    rw c.neg-mate.ensures a.mate

pub index-requires : goal.index-requires
index-requires c =
    let a : AtPlace c.args.w.now c.args.t.now c.args.p c.args.place c.literal-other.result = at_place c.args.w.now c.args.t.now c.args.p 0 c.args.place c.neg-mate.result c.literal-other.result c.requires.visiting c.requires.pending c.requires.first c.neg-mate.ensures c.literal-other.ensures in
    let within : c.literal-other.result < length c.args.t.now.stamps.items = a.within in
    search rules

pub returns-then-index-ne0-clause-visiting : goal.returns-then-index-ne0-clause-visiting
returns-then-index-ne0-clause-visiting c =
    let a : AtPlace c.args.w.now c.args.t.now c.args.p c.args.place c.literal-other.result = at_place c.args.w.now c.args.t.now c.args.p 0 c.args.place c.neg-mate.result c.literal-other.result c.requires.visiting c.requires.pending c.requires.first c.neg-mate.ensures c.literal-other.ensures in
    let e : c.index.result.now ≡ get_or c.args.t.now.stamps.items c.literal-other.result 0 = get_or_read c.args.t.now.stamps.items c.literal-other.result c.index.result.now a.within c.index.ensures 0 in
    let h : 0 < get_or c.args.t.now.stamps.items c.literal-other.result 0 = omega (arith, e, c.if-index-ne0.true) in
    rw c.pass.ensures.moved (visit_kept c.args.w.now c.args.t.now c.args.p 0 c.requires.visiting c.requires.pending (λ s. rw (← c.requires.first, ← a.other) h))

pub index-requires-2 : goal.index-requires-2
index-requires-2 c =
    let a : AtPlace c.args.w.now c.args.t.now c.args.p c.args.place c.literal-other.result = at_place c.args.w.now c.args.t.now c.args.p 0 c.args.place c.neg-mate.result c.literal-other.result c.requires.visiting c.requires.pending c.requires.first c.neg-mate.ensures c.literal-other.ensures in
    let within : c.args.place / 2 < length c.args.w.now.clauses.items = a.clause in
    search rules

pub scan-found-requires-clause-within : goal.scan-found-requires-clause-within
scan-found-requires-clause-within c =
    let a : AtPlace c.args.w.now c.args.t.now c.args.p c.args.place c.literal-other.result = at_place c.args.w.now c.args.t.now c.args.p 0 c.args.place c.neg-mate.result c.literal-other.result c.requires.visiting c.requires.pending c.requires.first c.neg-mate.ensures c.literal-other.ensures in
    let read : codes c.literals.result.now ≡ get_or (all_codes c.args.w.now.clauses.items) (c.args.place / 2) [] = ap codes c.literals.ensures ∙ clause_codes c.args.w.now.clauses.items (c.args.place / 2) c.index-2.result.now a.clause c.index-2.ensures in
    λ l h. rw c.as_slice.ensures.value (c.requires.visiting.watched.within (c.args.place / 2) l (rw read at h))

pub rewatch-requires-clause-place : goal.rewatch-requires-clause-place
rewatch-requires-clause-place c =
    let a : AtPlace c.args.w.now c.args.t.now c.args.p c.args.place c.literal-other.result = at_place c.args.w.now c.args.t.now c.args.p 0 c.args.place c.neg-mate.result c.literal-other.result c.requires.visiting c.requires.pending c.requires.first c.neg-mate.ensures c.literal-other.ensures in
    a.row

pub rewatch-requires-clause-literal : goal.rewatch-requires-clause-literal
rewatch-requires-clause-literal c =
    let a : AtPlace c.args.w.now c.args.t.now c.args.p c.args.place c.literal-other.result = at_place c.args.w.now c.args.t.now c.args.p 0 c.args.place c.neg-mate.result c.literal-other.result c.requires.visiting c.requires.pending c.requires.first c.neg-mate.ensures c.literal-other.ensures in
    let read : codes c.literals.result.now ≡ get_or (all_codes c.args.w.now.clauses.items) (c.args.place / 2) [] = ap codes c.literals.ensures ∙ clause_codes c.args.w.now.clauses.items (c.args.place / 2) c.index-2.result.now a.clause c.index-2.ensures in
    let f : c.in-Some.literal < length c.args.t.now.stamps.items = c.requires.visiting.watched.within (c.args.place / 2) c.in-Some.literal (rw read at c.in-Some.ensures.0) in
    omega (arith, f, c.requires.visiting.watched.lists)

pub overflow_add-literal : goal.overflow_add-literal
overflow_add-literal c =
    let a : AtPlace c.args.w.now c.args.t.now c.args.p c.args.place c.literal-other.result = at_place c.args.w.now c.args.t.now c.args.p 0 c.args.place c.neg-mate.result c.literal-other.result c.requires.visiting c.requires.pending c.requires.first c.neg-mate.ensures c.literal-other.ensures in
    let read : codes c.literals.result.now ≡ get_or (all_codes c.args.w.now.clauses.items) (c.args.place / 2) [] = ap codes c.literals.ensures ∙ clause_codes c.args.w.now.clauses.items (c.args.place / 2) c.index-2.result.now a.clause c.index-2.ensures in
    let f : c.in-Some.literal < length c.args.t.now.stamps.items = c.requires.visiting.watched.within (c.args.place / 2) c.in-Some.literal (rw read at c.in-Some.ensures.0) in
    let small : length c.args.t.now.stamps.items < 2 ^ 64 = search rules in
    omega (arith, f, small)

pub pass-requires-in-Some-clause-to : goal.pass-requires-in-Some-clause-to
pass-requires-in-Some-clause-to c =
    let a : AtPlace c.args.w.now c.args.t.now c.args.p c.args.place c.literal-other.result = at_place c.args.w.now c.args.t.now c.args.p 0 c.args.place c.neg-mate.result c.literal-other.result c.requires.visiting c.requires.pending c.requires.first c.neg-mate.ensures c.literal-other.ensures in
    let read : codes c.literals.result.now ≡ get_or (all_codes c.args.w.now.clauses.items) (c.args.place / 2) [] = ap codes c.literals.ensures ∙ clause_codes c.args.w.now.clauses.items (c.args.place / 2) c.index-2.result.now a.clause c.index-2.ensures in
    let f : c.in-Some.literal < length c.args.t.now.stamps.items = c.requires.visiting.watched.within (c.args.place / 2) c.in-Some.literal (rw read at c.in-Some.ensures.0) in
    rw c.rewatch.ensures (omega (arith, f, c.requires.visiting.watched.lists))

pub index-requires-in-None : goal.index-requires-in-None
index-requires-in-None c =
    let a : AtPlace c.args.w.now c.args.t.now c.args.p c.args.place c.literal-other.result = at_place c.args.w.now c.args.t.now c.args.p 0 c.args.place c.neg-mate.result c.literal-other.result c.requires.visiting c.requires.pending c.requires.first c.neg-mate.ensures c.literal-other.ensures in
    let against : c.neg-against.result < length c.args.t.now.stamps.items = rw c.neg-against.ensures a.against in
    search rules

pub returns-then-index-ne0-2-clause-visiting : goal.returns-then-index-ne0-2-clause-visiting
returns-then-index-ne0-2-clause-visiting c =
    let a : AtPlace c.args.w.now c.args.t.now c.args.p c.args.place c.literal-other.result = at_place c.args.w.now c.args.t.now c.args.p 0 c.args.place c.neg-mate.result c.literal-other.result c.requires.visiting c.requires.pending c.requires.first c.neg-mate.ensures c.literal-other.ensures in
    let read : codes c.literals.result.now ≡ get_or (all_codes c.args.w.now.clauses.items) (c.args.place / 2) [] = ap codes c.literals.ensures ∙ clause_codes c.args.w.now.clauses.items (c.args.place / 2) c.index-2.result.now a.clause c.index-2.ensures in
    let against : c.neg-against.result < length c.args.t.now.stamps.items = rw c.neg-against.ensures a.against in
    let e : c.index-in-None.result.now ≡ get_or c.args.t.now.stamps.items c.neg-against.result 0 = get_or_read c.args.t.now.stamps.items c.neg-against.result c.index-in-None.result.now against c.index-in-None.ensures 0 in
    let last : 0 < get_or c.args.t.now.stamps.items c.neg-against.result 0 = omega (arith, e, c.if-index-ne0-2.true) in
    rw c.pass-next.ensures.moved (visit_false c.args.w.now c.args.t.now c.args.p 0 c.args.place c.literal-other.result c.requires.visiting a c.requires.pending
    (λ l h ne. rw (← c.as_slice.ensures.value) (c.in-None.ensures l (rw read h) ne))
    (rw (← c.neg-against.ensures) last))

pub index-name-requires : goal.index-name-requires
index-name-requires c =
    let a : AtPlace c.args.w.now c.args.t.now c.args.p c.args.place c.literal-other.result = at_place c.args.w.now c.args.t.now c.args.p 0 c.args.place c.neg-mate.result c.literal-other.result c.requires.visiting c.requires.pending c.requires.first c.neg-mate.ensures c.literal-other.ensures in
    let within : c.args.place / 2 < length c.args.w.now.ids.items = a.name in
    search rules

pub enqueue-requires-clause-codes : goal.enqueue-requires-clause-codes
enqueue-requires-clause-codes c =
    let a : AtPlace c.args.w.now c.args.t.now c.args.p c.args.place c.literal-other.result = at_place c.args.w.now c.args.t.now c.args.p 0 c.args.place c.neg-mate.result c.literal-other.result c.requires.visiting c.requires.pending c.requires.first c.neg-mate.ensures c.literal-other.ensures in
    let stamp : c.index.result.now ≡ get_or c.args.t.now.stamps.items c.literal-other.result 0 = get_or_read c.args.t.now.stamps.items c.literal-other.result c.index.result.now a.within c.index.ensures 0 in
    let against : c.neg-against.result < length c.args.t.now.stamps.items = rw c.neg-against.ensures a.against in
    let e : c.index-in-None.result.now ≡ get_or c.args.t.now.stamps.items c.neg-against.result 0 = get_or_read c.args.t.now.stamps.items c.neg-against.result c.index-in-None.result.now against c.index-in-None.ensures 0 in
    let free2 : get_or c.args.t.now.stamps.items (neg_of c.literal-other.result) 0 ≡ 0 = rw (← c.neg-against.ensures) (omega (arith, e, c.if-index-ne0-2.false)) in
    let room : c.args.t.now.len < length c.args.t.now.codes.items = has_room c.args.t.now.stamps.items c.args.t.now.codes.items c.args.t.now.len c.args.t.now.head c.args.t.now.level c.literal-other.result c.requires.visiting.trail a.within (omega (arith, stamp, c.if-index-ne0.false)) free2 in
    room

pub enqueue-requires-clause-reasons : goal.enqueue-requires-clause-reasons
enqueue-requires-clause-reasons c =
    let a : AtPlace c.args.w.now c.args.t.now c.args.p c.args.place c.literal-other.result = at_place c.args.w.now c.args.t.now c.args.p 0 c.args.place c.neg-mate.result c.literal-other.result c.requires.visiting c.requires.pending c.requires.first c.neg-mate.ensures c.literal-other.ensures in
    let stamp : c.index.result.now ≡ get_or c.args.t.now.stamps.items c.literal-other.result 0 = get_or_read c.args.t.now.stamps.items c.literal-other.result c.index.result.now a.within c.index.ensures 0 in
    let against : c.neg-against.result < length c.args.t.now.stamps.items = rw c.neg-against.ensures a.against in
    let e : c.index-in-None.result.now ≡ get_or c.args.t.now.stamps.items c.neg-against.result 0 = get_or_read c.args.t.now.stamps.items c.neg-against.result c.index-in-None.result.now against c.index-in-None.ensures 0 in
    let free2 : get_or c.args.t.now.stamps.items (neg_of c.literal-other.result) 0 ≡ 0 = rw (← c.neg-against.ensures) (omega (arith, e, c.if-index-ne0-2.false)) in
    let room : c.args.t.now.len < length c.args.t.now.codes.items = has_room c.args.t.now.stamps.items c.args.t.now.codes.items c.args.t.now.len c.args.t.now.head c.args.t.now.level c.literal-other.result c.requires.visiting.trail a.within (omega (arith, stamp, c.if-index-ne0.false)) free2 in
    omega (arith, room, c.requires.visiting.reasoned.width)

pub enqueue-requires-clause-rows : goal.enqueue-requires-clause-rows
enqueue-requires-clause-rows c =
    let a : AtPlace c.args.w.now c.args.t.now c.args.p c.args.place c.literal-other.result = at_place c.args.w.now c.args.t.now c.args.p 0 c.args.place c.neg-mate.result c.literal-other.result c.requires.visiting c.requires.pending c.requires.first c.neg-mate.ensures c.literal-other.ensures in
    let stamp : c.index.result.now ≡ get_or c.args.t.now.stamps.items c.literal-other.result 0 = get_or_read c.args.t.now.stamps.items c.literal-other.result c.index.result.now a.within c.index.ensures 0 in
    let against : c.neg-against.result < length c.args.t.now.stamps.items = rw c.neg-against.ensures a.against in
    let e : c.index-in-None.result.now ≡ get_or c.args.t.now.stamps.items c.neg-against.result 0 = get_or_read c.args.t.now.stamps.items c.neg-against.result c.index-in-None.result.now against c.index-in-None.ensures 0 in
    let free2 : get_or c.args.t.now.stamps.items (neg_of c.literal-other.result) 0 ≡ 0 = rw (← c.neg-against.ensures) (omega (arith, e, c.if-index-ne0-2.false)) in
    let free : get_or c.args.t.now.stamps.items c.literal-other.result 0 ≡ 0 = omega (arith, stamp, c.if-index-ne0.false) in
    let wide : c.args.t.now.len < length c.args.t.now.rows.items = has_row c.args.t.now c.literal-other.result c.requires.visiting.trail c.requires.visiting.shown a.within free free2 in
    wide

pub enqueue-requires-clause-spots : goal.enqueue-requires-clause-spots
enqueue-requires-clause-spots c =
    let a : AtPlace c.args.w.now c.args.t.now c.args.p c.args.place c.literal-other.result = at_place c.args.w.now c.args.t.now c.args.p 0 c.args.place c.neg-mate.result c.literal-other.result c.requires.visiting c.requires.pending c.requires.first c.neg-mate.ensures c.literal-other.ensures in
    omega (arith, a.within, c.requires.visiting.spots.width)

pub enqueue-requires-clause-within : goal.enqueue-requires-clause-within
enqueue-requires-clause-within c =
    let a : AtPlace c.args.w.now c.args.t.now c.args.p c.args.place c.literal-other.result = at_place c.args.w.now c.args.t.now c.args.p 0 c.args.place c.neg-mate.result c.literal-other.result c.requires.visiting c.requires.pending c.requires.first c.neg-mate.ensures c.literal-other.ensures in
    a.within

pub enqueue-requires-clause-named : goal.enqueue-requires-clause-named
enqueue-requires-clause-named c =
    let a : AtPlace c.args.w.now c.args.t.now c.args.p c.args.place c.literal-other.result = at_place c.args.w.now c.args.t.now c.args.p 0 c.args.place c.neg-mate.result c.literal-other.result c.requires.visiting c.requires.pending c.requires.first c.neg-mate.ensures c.literal-other.ensures in
    a.two

pub enqueue-requires-clause-few : goal.enqueue-requires-clause-few
enqueue-requires-clause-few c = c.requires.visiting.trail.few

pub enqueue-requires-clause-short : goal.enqueue-requires-clause-short
enqueue-requires-clause-short c = few_true c.args.t.now.stamps.items c.args.t.now.codes.items c.args.t.now.len c.args.t.now.head c.args.t.now.level c.requires.visiting.trail

pub enqueue-requires-clause-level : goal.enqueue-requires-clause-level
enqueue-requires-clause-level c = omega (arith, few_levels c.args.t.now.stamps.items c.args.t.now.codes.items c.args.t.now.len c.args.t.now.head c.args.t.now.level c.requires.visiting.trail)

pub returns-in-Some-clause-visiting : goal.returns-in-Some-clause-visiting
returns-in-Some-clause-visiting c =
    let a : AtPlace c.args.w.now c.args.t.now c.args.p c.args.place c.literal-other.result = at_place c.args.w.now c.args.t.now c.args.p 0 c.args.place c.neg-mate.result c.literal-other.result c.requires.visiting c.requires.pending c.requires.first c.neg-mate.ensures c.literal-other.ensures in
    let read : codes c.literals.result.now ≡ get_or (all_codes c.args.w.now.clauses.items) (c.args.place / 2) [] = ap codes c.literals.ensures ∙ clause_codes c.args.w.now.clauses.items (c.args.place / 2) c.index-2.result.now a.clause c.index-2.ensures in
    let has : Has (get_or (all_codes c.args.w.now.clauses.items) (c.args.place / 2) []) c.in-Some.literal = rw read at c.in-Some.ensures.0 in
    let free : get_or c.args.t.now.stamps.items (neg_of c.in-Some.literal) 0 ≡ 0 = rw c.as_slice.ensures.value at c.in-Some.ensures.1.1 in
    let once : (q : ℕ) → sum_by (times q) c.args.w.now.lists.lists ≤ 1 = rw c.rewatch.ensures at c.pass-in-Some.ensures.once in
    rw (c.pass-in-Some.ensures.moved, c.rewatch.ensures) (visit_moved c.args.w.now c.args.t.now c.args.p 0 c.args.place c.literal-other.result c.in-Some.literal c.requires.visiting refl a c.requires.pending c.requires.first once has c.in-Some.ensures.1.0 free)

pub returns-else-index-ne0-2-clause-visiting : goal.returns-else-index-ne0-2-clause-visiting
returns-else-index-ne0-2-clause-visiting c =
    let a : AtPlace c.args.w.now c.args.t.now c.args.p c.args.place c.literal-other.result = at_place c.args.w.now c.args.t.now c.args.p 0 c.args.place c.neg-mate.result c.literal-other.result c.requires.visiting c.requires.pending c.requires.first c.neg-mate.ensures c.literal-other.ensures in
    let read : codes c.literals.result.now ≡ get_or (all_codes c.args.w.now.clauses.items) (c.args.place / 2) [] = ap codes c.literals.ensures ∙ clause_codes c.args.w.now.clauses.items (c.args.place / 2) c.index-2.result.now a.clause c.index-2.ensures in
    let against : c.neg-against.result < length c.args.t.now.stamps.items = rw c.neg-against.ensures a.against in
    let stamp : c.index.result.now ≡ get_or c.args.t.now.stamps.items c.literal-other.result 0 = get_or_read c.args.t.now.stamps.items c.literal-other.result c.index.result.now a.within c.index.ensures 0 in
    let e : c.index-in-None.result.now ≡ get_or c.args.t.now.stamps.items c.neg-against.result 0 = get_or_read c.args.t.now.stamps.items c.neg-against.result c.index-in-None.result.now against c.index-in-None.ensures 0 in
    let free : get_or c.args.t.now.stamps.items c.literal-other.result 0 ≡ 0 = omega (arith, stamp, c.if-index-ne0.false) in
    let free2 : get_or c.args.t.now.stamps.items (neg_of c.literal-other.result) 0 ≡ 0 = rw (← c.neg-against.ensures) (omega (arith, e, c.if-index-ne0-2.false)) in
    let wide : c.args.t.now.len < length c.args.t.now.rows.items = has_row c.args.t.now c.literal-other.result c.requires.visiting.trail c.requires.visiting.shown a.within free free2 in
    let name : Some c.index-name.result.now ≡ Some (get_or c.args.w.now.ids.items (c.args.place / 2) no_id) = ap Some (get_or_read c.args.w.now.ids.items (c.args.place / 2) c.index-name.result.now a.name c.index-name.ensures no_id) in
    let level : c.enqueue.new.t.level + 1 ≡ c.args.t.now.level + 1 = omega (arith, c.enqueue.ensures.same_level) in
    let pu : IsPushed c.args.t.now c.enqueue.new.t c.literal-other.result (c.args.t.now.level + 1) (c.args.place / 2) (literal_of c.literal-other.result, c.args.t.now.level, Some c.index-name.result.now) =
    record { stamps = c.enqueue.ensures.stamps; codes = c.enqueue.ensures.codes; reasons = c.enqueue.ensures.reasons; rows = c.enqueue.ensures.rows; spots = c.enqueue.ensures.spots; len = c.enqueue.ensures.len; head = c.enqueue.ensures.head; level = level } in
    rw c.pass-next.ensures.moved (visit_unit c.args.w.now c.args.t.now c.enqueue.new.t c.args.p 0 c.args.place c.literal-other.result (Some c.index-name.result.now) c.requires.visiting refl a c.requires.pending c.requires.first
    free free2 pu name wide (λ m h ne. rw (← c.as_slice.ensures.value) (c.in-None.ensures m (rw read h) ne)))

pub returns-else-index-ne0-2-clause-grown : goal.returns-else-index-ne0-2-clause-grown
returns-else-index-ne0-2-clause-grown c =
    let a : AtPlace c.args.w.now c.args.t.now c.args.p c.args.place c.literal-other.result = at_place c.args.w.now c.args.t.now c.args.p 0 c.args.place c.neg-mate.result c.literal-other.result c.requires.visiting c.requires.pending c.requires.first c.neg-mate.ensures c.literal-other.ensures in
    let stamp : c.index.result.now ≡ get_or c.args.t.now.stamps.items c.literal-other.result 0 = get_or_read c.args.t.now.stamps.items c.literal-other.result c.index.result.now a.within c.index.ensures 0 in
    let against : c.neg-against.result < length c.args.t.now.stamps.items = rw c.neg-against.ensures a.against in
    let e : c.index-in-None.result.now ≡ get_or c.args.t.now.stamps.items c.neg-against.result 0 = get_or_read c.args.t.now.stamps.items c.neg-against.result c.index-in-None.result.now against c.index-in-None.ensures 0 in
    let free2 : get_or c.args.t.now.stamps.items (neg_of c.literal-other.result) 0 ≡ 0 = rw (← c.neg-against.ensures) (omega (arith, e, c.if-index-ne0-2.false)) in
    let room : c.args.t.now.len < length c.args.t.now.codes.items = has_room c.args.t.now.stamps.items c.args.t.now.codes.items c.args.t.now.len c.args.t.now.head c.args.t.now.level c.literal-other.result c.requires.visiting.trail a.within (omega (arith, stamp, c.if-index-ne0.false)) free2 in
    let free : get_or c.args.t.now.stamps.items c.literal-other.result 0 ≡ 0 = omega (arith, stamp, c.if-index-ne0.false) in
    let wide : c.args.t.now.len < length c.args.t.now.rows.items = has_row c.args.t.now c.literal-other.result c.requires.visiting.trail c.requires.visiting.shown a.within free free2 in
    let pos : 0 < c.args.place / 2 = (let lo : 2 ≤ c.args.place = a.on.low in omega arith) in
    pushed_grown c.args.t.now c.enqueue.new.t c.literal-other.result (c.args.place / 2) (literal_of c.literal-other.result, c.args.t.now.level, Some c.index-name.result.now) pos (omega (arith, room, c.requires.visiting.reasoned.width)) wide refl c.enqueue.ensures.codes c.enqueue.ensures.reasons c.enqueue.ensures.rows c.enqueue.ensures.len

pub start-start-requires : goal.start-start-requires
start-start-requires c =
    let a : AtPlace c.args.w.now c.args.t.now c.args.p c.args.place c.literal-other.result = at_place c.args.w.now c.args.t.now c.args.p 0 c.args.place c.neg-mate.result c.literal-other.result c.requires.visiting c.requires.pending c.requires.first c.neg-mate.ensures c.literal-other.ensures in
    a.row
