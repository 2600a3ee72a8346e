use Rattle.std.proofs.Common.{rules, None, ◌≡◌, ◌+◌, ◌^◌, ◌<◌, ◌≤◌, length, get_or, arith}
use Rattle.cnf_base.specs.Literals.{literal_of, code_of}
use Rattle.cdcl_core.specs.Stamps.{neg as neg_of}
use Rattle.cdcl_core.proofs.Trails.{has_room, level_len, few_true, few_levels}
use Rattle.cdcl_core.proofs.Reasons.{has_row}
use Rattle.cdcl_core.proofs.Visits.{IsPushed}
use Rattle.cdcl_core.proofs.Decisions.{open_stamps, decide_settles, pushed_rows}
use Rattle.cdcl_core.proofs.watches.Watches.decide.Goals as goal

pub overflow_add-trail : goal.overflow_add-trail
overflow_add-trail c =
    let free : (get_or c.args.trail.now.stamps.items (code_of c.args.l) 0 ≡ 0) × (get_or c.args.trail.now.stamps.items (neg_of (code_of c.args.l)) 0 ≡ 0) = open_stamps c.args.trail.now c.args.l c.requires.settled.trail c.requires.settled.shown c.requires.unset in
    let room : c.args.trail.now.len < length c.args.trail.now.codes.items = has_room c.args.trail.now.stamps.items c.args.trail.now.codes.items c.args.trail.now.len c.args.trail.now.head c.args.trail.now.level (code_of c.args.l) c.requires.settled.trail c.requires.known free.0 free.1 in
    let small : length c.args.trail.now.codes.items < 2 ^ 63 = search rules in
    let up : c.args.trail.now.level ≤ c.args.trail.now.len = level_len c.args.trail.now.stamps.items c.args.trail.now.codes.items c.args.trail.now.len c.args.trail.now.head c.args.trail.now.level c.requires.settled.trail in
    omega (arith, room, small, up)

pub enqueue-requires-clause-codes : goal.enqueue-requires-clause-codes
enqueue-requires-clause-codes c =
    let free : (get_or c.args.trail.now.stamps.items (code_of c.args.l) 0 ≡ 0) × (get_or c.args.trail.now.stamps.items (neg_of (code_of c.args.l)) 0 ≡ 0) = open_stamps c.args.trail.now c.args.l c.requires.settled.trail c.requires.settled.shown c.requires.unset in
    let room : c.args.trail.now.len < length c.args.trail.now.codes.items = has_room c.args.trail.now.stamps.items c.args.trail.now.codes.items c.args.trail.now.len c.args.trail.now.head c.args.trail.now.level (code_of c.args.l) c.requires.settled.trail c.requires.known free.0 free.1 in
    room

pub enqueue-requires-clause-reasons : goal.enqueue-requires-clause-reasons
enqueue-requires-clause-reasons c =
    let free : (get_or c.args.trail.now.stamps.items (code_of c.args.l) 0 ≡ 0) × (get_or c.args.trail.now.stamps.items (neg_of (code_of c.args.l)) 0 ≡ 0) = open_stamps c.args.trail.now c.args.l c.requires.settled.trail c.requires.settled.shown c.requires.unset in
    let room : c.args.trail.now.len < length c.args.trail.now.codes.items = has_room c.args.trail.now.stamps.items c.args.trail.now.codes.items c.args.trail.now.len c.args.trail.now.head c.args.trail.now.level (code_of c.args.l) c.requires.settled.trail c.requires.known free.0 free.1 in
    omega (arith, room, c.requires.settled.reasoned.width)

pub enqueue-requires-clause-rows : goal.enqueue-requires-clause-rows
enqueue-requires-clause-rows c =
    let free : (get_or c.args.trail.now.stamps.items (code_of c.args.l) 0 ≡ 0) × (get_or c.args.trail.now.stamps.items (neg_of (code_of c.args.l)) 0 ≡ 0) = open_stamps c.args.trail.now c.args.l c.requires.settled.trail c.requires.settled.shown c.requires.unset in
    let room : c.args.trail.now.len < length c.args.trail.now.codes.items = has_room c.args.trail.now.stamps.items c.args.trail.now.codes.items c.args.trail.now.len c.args.trail.now.head c.args.trail.now.level (code_of c.args.l) c.requires.settled.trail c.requires.known free.0 free.1 in
    let wide : c.args.trail.now.len < length c.args.trail.now.rows.items = has_row c.args.trail.now (code_of c.args.l) c.requires.settled.trail c.requires.settled.shown c.requires.known free.0 free.1 in
    wide

pub enqueue-requires-clause-few : goal.enqueue-requires-clause-few
enqueue-requires-clause-few c = c.requires.settled.trail.few

pub enqueue-requires-clause-short : goal.enqueue-requires-clause-short
enqueue-requires-clause-short c = few_true c.args.trail.now.stamps.items c.args.trail.now.codes.items c.args.trail.now.len c.args.trail.now.head c.args.trail.now.level c.requires.settled.trail

pub enqueue-requires-clause-level : goal.enqueue-requires-clause-level
enqueue-requires-clause-level c = omega (arith, few_levels c.args.trail.now.stamps.items c.args.trail.now.codes.items c.args.trail.now.len c.args.trail.now.head c.args.trail.now.level c.requires.settled.trail)

pub returns-clause-settled : goal.returns-clause-settled
returns-clause-settled c =
    let free : (get_or c.args.trail.now.stamps.items (code_of c.args.l) 0 ≡ 0) × (get_or c.args.trail.now.stamps.items (neg_of (code_of c.args.l)) 0 ≡ 0) = open_stamps c.args.trail.now c.args.l c.requires.settled.trail c.requires.settled.shown c.requires.unset in
    let room : c.args.trail.now.len < length c.args.trail.now.codes.items = has_room c.args.trail.now.stamps.items c.args.trail.now.codes.items c.args.trail.now.len c.args.trail.now.head c.args.trail.now.level (code_of c.args.l) c.requires.settled.trail c.requires.known free.0 free.1 in
    let level : c.enqueue.new.t.level + 1 ≡ c.args.trail.now.level + 2 = omega (arith, c.enqueue.ensures.same_level) in
    let stamp : c.args.trail.now.level + 1 + 1 ≡ c.args.trail.now.level + 2 = omega arith in
    let pu : IsPushed c.args.trail.now c.enqueue.new.t c.code.result (c.args.trail.now.level + 2) 0 (literal_of c.code.result, c.args.trail.now.level + 1, None) =
    record { stamps = rw stamp at c.enqueue.ensures.stamps; codes = c.enqueue.ensures.codes; reasons = c.enqueue.ensures.reasons; rows = c.enqueue.ensures.rows; spots = c.enqueue.ensures.spots; len = c.enqueue.ensures.len; head = c.enqueue.ensures.head; level = level } in
    let e : c.code.result ≡ code_of c.args.l = c.code.ensures.code in
    decide_settles c.args.self.now c.args.trail.now c.enqueue.new.t c.code.result c.requires.settled c.requires.propagated c.code.ensures.from_two (rw e c.requires.known) (rw e free.0) (rw e free.1) pu

pub returns-clause-literals : goal.returns-clause-literals
returns-clause-literals c =
    let free : (get_or c.args.trail.now.stamps.items (code_of c.args.l) 0 ≡ 0) × (get_or c.args.trail.now.stamps.items (neg_of (code_of c.args.l)) 0 ≡ 0) = open_stamps c.args.trail.now c.args.l c.requires.settled.trail c.requires.settled.shown c.requires.unset in
    let room : c.args.trail.now.len < length c.args.trail.now.codes.items = has_room c.args.trail.now.stamps.items c.args.trail.now.codes.items c.args.trail.now.len c.args.trail.now.head c.args.trail.now.level (code_of c.args.l) c.requires.settled.trail c.requires.known free.0 free.1 in
    let wide : c.args.trail.now.len < length c.args.trail.now.rows.items = has_row c.args.trail.now (code_of c.args.l) c.requires.settled.trail c.requires.settled.shown c.requires.known free.0 free.1 in
    let level : c.enqueue.new.t.level + 1 ≡ c.args.trail.now.level + 2 = omega (arith, c.enqueue.ensures.same_level) in
    let stamp : c.args.trail.now.level + 1 + 1 ≡ c.args.trail.now.level + 2 = omega arith in
    let pu : IsPushed c.args.trail.now c.enqueue.new.t c.code.result (c.args.trail.now.level + 2) 0 (literal_of c.code.result, c.args.trail.now.level + 1, None) =
    record { stamps = rw stamp at c.enqueue.ensures.stamps; codes = c.enqueue.ensures.codes; reasons = c.enqueue.ensures.reasons; rows = c.enqueue.ensures.rows; spots = c.enqueue.ensures.spots; len = c.enqueue.ensures.len; head = c.enqueue.ensures.head; level = level } in
    pushed_rows c.args.trail.now c.enqueue.new.t c.args.l c.code.result (c.args.trail.now.level + 2) 0 (c.args.trail.now.level + 1) None pu c.code.ensures.code wide
