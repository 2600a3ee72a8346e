use Rattle.std.proofs.Common.{rules, true, Some, ◌≡◌, ◌≢◌, ◌+◌, ◌^◌, ◌<◌, length, get_or, refl, ◌∙◌, arith}
use Rattle.std.proofs.lemmas.List.{get_or_read}
use Rattle.cnf_base.specs.Literals.{literal_of}
use Rattle.cdcl_core.specs.declared.watches.Watches.{Watches}
use Rattle.cdcl_core.specs.Stamps.{neg as neg_of}
use Rattle.cdcl_core.proofs.Counting.{neg_below}
use Rattle.cdcl_core.proofs.Clauses.{codes_length}
use Rattle.cdcl_core.proofs.Trails.{level_len, trail_len, has_room, few_true, few_levels}
use Rattle.cdcl_core.proofs.Reasons.{has_row}
use Rattle.cdcl_core.proofs.Visits.{IsPushed}
use Rattle.cdcl_core.proofs.Adding.{room_of, false_added, false_no_rest, forced_added, unit_no_rest}
use Rattle.cdcl_core.proofs.Fixing.{IsFixing, refuted_placed, refuted_false, true_fixed, true_rests, open_fixed, no_others}
use Rattle.cdcl_core.proofs.add.fix.Goals as goal

pub seat-requires-clause-rows : goal.seat-requires-clause-rows
seat-requires-clause-rows c = omega (arith, c.requires.waiting.high, c.requires.placed.watched.clauses, codes_length c.args.w.now.clauses.items)

pub index-requires : goal.index-requires
index-requires c =
    let in_a : c.args.a < length c.args.t.now.stamps.items = c.requires.may_come.within c.args.a (c.requires.has c.if-a-eq0.false) in
    let at_a : c.neg.result < length c.args.t.now.stamps.items = rw c.neg.ensures (neg_below c.args.a (length c.args.t.now.stamps.items) in_a c.requires.placed.trail.even) in
    search rules

pub returns-then-a-eq0-clause-placed : goal.returns-then-a-eq0-clause-placed
returns-then-a-eq0-clause-placed c =
    let none : c.args.a ≢ 0 → get_or c.args.t.now.stamps.items (neg_of c.args.a) 0 ≢ 0 = λ ne. absurd (ne c.if-a-eq0.true) in
    let w2 : Watches = record { alloc = c.seat.new.w.alloc; lists = c.seat.new.w.lists; kinds = c.seat.new.w.kinds; clauses = c.seat.new.w.clauses; ids = c.seat.new.w.ids; slots = c.seat.new.w.slots; refuted = true } in
    let k : IsFixing c.args.w.now w2 c.args.t.now c.args.slot c.args.a c.args.clause = record {
      placed = c.requires.placed;
      room = room_of c.args.w.now c.args.t.now c.args.slot c.requires.placed c.requires.waiting c.requires.lists c.requires.once;
      one = c.requires.lists;
      may = c.requires.may_come;
      has = c.requires.has;
      only = c.requires.only;
      holds = record { kinds = c.seat.ensures.holds.kinds; clauses = c.seat.ensures.holds.clauses; ids = c.seat.ensures.holds.ids; slots = c.seat.ensures.holds.slots };
      literals = c.seat.ensures.literals;
      lists = c.seat.ensures.lists;
    } in
    refuted_placed c.args.w.now w2 c.args.t.now c.args.slot c.args.a c.args.clause k none refl

pub returns-then-a-eq0-clause-literals : goal.returns-then-a-eq0-clause-literals
returns-then-a-eq0-clause-literals c =
    let none : c.args.a ≢ 0 → get_or c.args.t.now.stamps.items (neg_of c.args.a) 0 ≢ 0 = λ ne. absurd (ne c.if-a-eq0.true) in
    let w2 : Watches = record { alloc = c.seat.new.w.alloc; lists = c.seat.new.w.lists; kinds = c.seat.new.w.kinds; clauses = c.seat.new.w.clauses; ids = c.seat.new.w.ids; slots = c.seat.new.w.slots; refuted = true } in
    let k : IsFixing c.args.w.now w2 c.args.t.now c.args.slot c.args.a c.args.clause = record {
      placed = c.requires.placed;
      room = room_of c.args.w.now c.args.t.now c.args.slot c.requires.placed c.requires.waiting c.requires.lists c.requires.once;
      one = c.requires.lists;
      may = c.requires.may_come;
      has = c.requires.has;
      only = c.requires.only;
      holds = record { kinds = c.seat.ensures.holds.kinds; clauses = c.seat.ensures.holds.clauses; ids = c.seat.ensures.holds.ids; slots = c.seat.ensures.holds.slots };
      literals = c.seat.ensures.literals;
      lists = c.seat.ensures.lists;
    } in
    false_added c.args.t.now c.args.id c.args.clause (c.requires.placed.trail, c.requires.placed.shown) (refuted_false c.args.w.now w2 c.args.t.now c.args.slot c.args.a c.args.clause k none)

pub returns-then-a-eq0-clause-propagated : goal.returns-then-a-eq0-clause-propagated
returns-then-a-eq0-clause-propagated c =
    let none : c.args.a ≢ 0 → get_or c.args.t.now.stamps.items (neg_of c.args.a) 0 ≢ 0 = λ ne. absurd (ne c.if-a-eq0.true) in
    let w2 : Watches = record { alloc = c.seat.new.w.alloc; lists = c.seat.new.w.lists; kinds = c.seat.new.w.kinds; clauses = c.seat.new.w.clauses; ids = c.seat.new.w.ids; slots = c.seat.new.w.slots; refuted = true } in
    let k : IsFixing c.args.w.now w2 c.args.t.now c.args.slot c.args.a c.args.clause = record {
      placed = c.requires.placed;
      room = room_of c.args.w.now c.args.t.now c.args.slot c.requires.placed c.requires.waiting c.requires.lists c.requires.once;
      one = c.requires.lists;
      may = c.requires.may_come;
      has = c.requires.has;
      only = c.requires.only;
      holds = record { kinds = c.seat.ensures.holds.kinds; clauses = c.seat.ensures.holds.clauses; ids = c.seat.ensures.holds.ids; slots = c.seat.ensures.holds.slots };
      literals = c.seat.ensures.literals;
      lists = c.seat.ensures.lists;
    } in
    λ r. absurd (false_no_rest c.args.t.now c.args.clause (c.requires.placed.trail, c.requires.placed.shown) (refuted_false c.args.w.now w2 c.args.t.now c.args.slot c.args.a c.args.clause k none) r)

pub returns-then-index-ne0-clause-placed : goal.returns-then-index-ne0-clause-placed
returns-then-index-ne0-clause-placed c =
    let in_a : c.args.a < length c.args.t.now.stamps.items = c.requires.may_come.within c.args.a (c.requires.has c.if-a-eq0.false) in
    let at_a : c.neg.result < length c.args.t.now.stamps.items = rw c.neg.ensures (neg_below c.args.a (length c.args.t.now.stamps.items) in_a c.requires.placed.trail.even) in
    let read : c.index.result.now ≡ get_or c.args.t.now.stamps.items (neg_of c.args.a) 0 = rw (← c.neg.ensures) (get_or_read c.args.t.now.stamps.items c.neg.result c.index.result.now at_a c.index.ensures 0) in
    let none : c.args.a ≢ 0 → get_or c.args.t.now.stamps.items (neg_of c.args.a) 0 ≢ 0 = λ _ z. c.if-index-ne0.true (read ∙ z) in
    let w2 : Watches = record { alloc = c.seat.new.w.alloc; lists = c.seat.new.w.lists; kinds = c.seat.new.w.kinds; clauses = c.seat.new.w.clauses; ids = c.seat.new.w.ids; slots = c.seat.new.w.slots; refuted = true } in
    let k : IsFixing c.args.w.now w2 c.args.t.now c.args.slot c.args.a c.args.clause = record {
      placed = c.requires.placed;
      room = room_of c.args.w.now c.args.t.now c.args.slot c.requires.placed c.requires.waiting c.requires.lists c.requires.once;
      one = c.requires.lists;
      may = c.requires.may_come;
      has = c.requires.has;
      only = c.requires.only;
      holds = record { kinds = c.seat.ensures.holds.kinds; clauses = c.seat.ensures.holds.clauses; ids = c.seat.ensures.holds.ids; slots = c.seat.ensures.holds.slots };
      literals = c.seat.ensures.literals;
      lists = c.seat.ensures.lists;
    } in
    refuted_placed c.args.w.now w2 c.args.t.now c.args.slot c.args.a c.args.clause k none refl

pub returns-then-index-ne0-clause-literals : goal.returns-then-index-ne0-clause-literals
returns-then-index-ne0-clause-literals c =
    let in_a : c.args.a < length c.args.t.now.stamps.items = c.requires.may_come.within c.args.a (c.requires.has c.if-a-eq0.false) in
    let at_a : c.neg.result < length c.args.t.now.stamps.items = rw c.neg.ensures (neg_below c.args.a (length c.args.t.now.stamps.items) in_a c.requires.placed.trail.even) in
    let read : c.index.result.now ≡ get_or c.args.t.now.stamps.items (neg_of c.args.a) 0 = rw (← c.neg.ensures) (get_or_read c.args.t.now.stamps.items c.neg.result c.index.result.now at_a c.index.ensures 0) in
    let none : c.args.a ≢ 0 → get_or c.args.t.now.stamps.items (neg_of c.args.a) 0 ≢ 0 = λ _ z. c.if-index-ne0.true (read ∙ z) in
    let w2 : Watches = record { alloc = c.seat.new.w.alloc; lists = c.seat.new.w.lists; kinds = c.seat.new.w.kinds; clauses = c.seat.new.w.clauses; ids = c.seat.new.w.ids; slots = c.seat.new.w.slots; refuted = true } in
    let k : IsFixing c.args.w.now w2 c.args.t.now c.args.slot c.args.a c.args.clause = record {
      placed = c.requires.placed;
      room = room_of c.args.w.now c.args.t.now c.args.slot c.requires.placed c.requires.waiting c.requires.lists c.requires.once;
      one = c.requires.lists;
      may = c.requires.may_come;
      has = c.requires.has;
      only = c.requires.only;
      holds = record { kinds = c.seat.ensures.holds.kinds; clauses = c.seat.ensures.holds.clauses; ids = c.seat.ensures.holds.ids; slots = c.seat.ensures.holds.slots };
      literals = c.seat.ensures.literals;
      lists = c.seat.ensures.lists;
    } in
    false_added c.args.t.now c.args.id c.args.clause (c.requires.placed.trail, c.requires.placed.shown) (refuted_false c.args.w.now w2 c.args.t.now c.args.slot c.args.a c.args.clause k none)

pub returns-then-index-ne0-clause-propagated : goal.returns-then-index-ne0-clause-propagated
returns-then-index-ne0-clause-propagated c =
    let in_a : c.args.a < length c.args.t.now.stamps.items = c.requires.may_come.within c.args.a (c.requires.has c.if-a-eq0.false) in
    let at_a : c.neg.result < length c.args.t.now.stamps.items = rw c.neg.ensures (neg_below c.args.a (length c.args.t.now.stamps.items) in_a c.requires.placed.trail.even) in
    let read : c.index.result.now ≡ get_or c.args.t.now.stamps.items (neg_of c.args.a) 0 = rw (← c.neg.ensures) (get_or_read c.args.t.now.stamps.items c.neg.result c.index.result.now at_a c.index.ensures 0) in
    let none : c.args.a ≢ 0 → get_or c.args.t.now.stamps.items (neg_of c.args.a) 0 ≢ 0 = λ _ z. c.if-index-ne0.true (read ∙ z) in
    let w2 : Watches = record { alloc = c.seat.new.w.alloc; lists = c.seat.new.w.lists; kinds = c.seat.new.w.kinds; clauses = c.seat.new.w.clauses; ids = c.seat.new.w.ids; slots = c.seat.new.w.slots; refuted = true } in
    let k : IsFixing c.args.w.now w2 c.args.t.now c.args.slot c.args.a c.args.clause = record {
      placed = c.requires.placed;
      room = room_of c.args.w.now c.args.t.now c.args.slot c.requires.placed c.requires.waiting c.requires.lists c.requires.once;
      one = c.requires.lists;
      may = c.requires.may_come;
      has = c.requires.has;
      only = c.requires.only;
      holds = record { kinds = c.seat.ensures.holds.kinds; clauses = c.seat.ensures.holds.clauses; ids = c.seat.ensures.holds.ids; slots = c.seat.ensures.holds.slots };
      literals = c.seat.ensures.literals;
      lists = c.seat.ensures.lists;
    } in
    λ r. absurd (false_no_rest c.args.t.now c.args.clause (c.requires.placed.trail, c.requires.placed.shown) (refuted_false c.args.w.now w2 c.args.t.now c.args.slot c.args.a c.args.clause k none) r)

pub enqueue-requires-clause-codes : goal.enqueue-requires-clause-codes
enqueue-requires-clause-codes c =
    let in_a : c.args.a < length c.args.t.now.stamps.items = c.requires.may_come.within c.args.a (c.requires.has c.if-a-eq0.false) in
    let at_a : c.neg.result < length c.args.t.now.stamps.items = rw c.neg.ensures (neg_below c.args.a (length c.args.t.now.stamps.items) in_a c.requires.placed.trail.even) in
    let read : c.index.result.now ≡ get_or c.args.t.now.stamps.items (neg_of c.args.a) 0 = rw (← c.neg.ensures) (get_or_read c.args.t.now.stamps.items c.neg.result c.index.result.now at_a c.index.ensures 0) in
    let free_a : get_or c.args.t.now.stamps.items (neg_of c.args.a) 0 ≡ 0 = omega (arith, read, c.if-index-ne0.false) in
    let read_o : c.index-2.result.now ≡ get_or c.args.t.now.stamps.items c.args.a 0 = get_or_read c.args.t.now.stamps.items c.args.a c.index-2.result.now in_a c.index-2.ensures 0 in
    let open_a : get_or c.args.t.now.stamps.items c.args.a 0 ≡ 0 = omega (arith, read_o, c.if-index-eq0.true) in
    has_room c.args.t.now.stamps.items c.args.t.now.codes.items c.args.t.now.len c.args.t.now.head c.args.t.now.level c.args.a c.requires.placed.trail in_a open_a free_a

pub enqueue-requires-clause-reasons : goal.enqueue-requires-clause-reasons
enqueue-requires-clause-reasons c =
    let in_a : c.args.a < length c.args.t.now.stamps.items = c.requires.may_come.within c.args.a (c.requires.has c.if-a-eq0.false) in
    let at_a : c.neg.result < length c.args.t.now.stamps.items = rw c.neg.ensures (neg_below c.args.a (length c.args.t.now.stamps.items) in_a c.requires.placed.trail.even) in
    let read : c.index.result.now ≡ get_or c.args.t.now.stamps.items (neg_of c.args.a) 0 = rw (← c.neg.ensures) (get_or_read c.args.t.now.stamps.items c.neg.result c.index.result.now at_a c.index.ensures 0) in
    let free_a : get_or c.args.t.now.stamps.items (neg_of c.args.a) 0 ≡ 0 = omega (arith, read, c.if-index-ne0.false) in
    let read_o : c.index-2.result.now ≡ get_or c.args.t.now.stamps.items c.args.a 0 = get_or_read c.args.t.now.stamps.items c.args.a c.index-2.result.now in_a c.index-2.ensures 0 in
    let open_a : get_or c.args.t.now.stamps.items c.args.a 0 ≡ 0 = omega (arith, read_o, c.if-index-eq0.true) in
    omega (arith, c.requires.placed.reasoned.width, has_room c.args.t.now.stamps.items c.args.t.now.codes.items c.args.t.now.len c.args.t.now.head c.args.t.now.level c.args.a c.requires.placed.trail in_a open_a free_a)

pub enqueue-requires-clause-rows : goal.enqueue-requires-clause-rows
enqueue-requires-clause-rows c =
    let in_a : c.args.a < length c.args.t.now.stamps.items = c.requires.may_come.within c.args.a (c.requires.has c.if-a-eq0.false) in
    let at_a : c.neg.result < length c.args.t.now.stamps.items = rw c.neg.ensures (neg_below c.args.a (length c.args.t.now.stamps.items) in_a c.requires.placed.trail.even) in
    let read : c.index.result.now ≡ get_or c.args.t.now.stamps.items (neg_of c.args.a) 0 = rw (← c.neg.ensures) (get_or_read c.args.t.now.stamps.items c.neg.result c.index.result.now at_a c.index.ensures 0) in
    let free_a : get_or c.args.t.now.stamps.items (neg_of c.args.a) 0 ≡ 0 = omega (arith, read, c.if-index-ne0.false) in
    let read_o : c.index-2.result.now ≡ get_or c.args.t.now.stamps.items c.args.a 0 = get_or_read c.args.t.now.stamps.items c.args.a c.index-2.result.now in_a c.index-2.ensures 0 in
    let open_a : get_or c.args.t.now.stamps.items c.args.a 0 ≡ 0 = omega (arith, read_o, c.if-index-eq0.true) in
    has_row c.args.t.now c.args.a c.requires.placed.trail c.requires.placed.shown in_a open_a free_a

pub enqueue-requires-clause-few : goal.enqueue-requires-clause-few
enqueue-requires-clause-few c = c.requires.placed.trail.few

pub enqueue-requires-clause-short : goal.enqueue-requires-clause-short
enqueue-requires-clause-short c = few_true c.args.t.now.stamps.items c.args.t.now.codes.items c.args.t.now.len c.args.t.now.head c.args.t.now.level c.requires.placed.trail

pub enqueue-requires-clause-level : goal.enqueue-requires-clause-level
enqueue-requires-clause-level c = omega (arith, few_levels c.args.t.now.stamps.items c.args.t.now.codes.items c.args.t.now.len c.args.t.now.head c.args.t.now.level c.requires.placed.trail)

pub returns-then-index-eq0-clause-placed : goal.returns-then-index-eq0-clause-placed
returns-then-index-eq0-clause-placed c =
    let in_a : c.args.a < length c.args.t.now.stamps.items = c.requires.may_come.within c.args.a (c.requires.has c.if-a-eq0.false) in
    let at_a : c.neg.result < length c.args.t.now.stamps.items = rw c.neg.ensures (neg_below c.args.a (length c.args.t.now.stamps.items) in_a c.requires.placed.trail.even) in
    let read : c.index.result.now ≡ get_or c.args.t.now.stamps.items (neg_of c.args.a) 0 = rw (← c.neg.ensures) (get_or_read c.args.t.now.stamps.items c.neg.result c.index.result.now at_a c.index.ensures 0) in
    let free_a : get_or c.args.t.now.stamps.items (neg_of c.args.a) 0 ≡ 0 = omega (arith, read, c.if-index-ne0.false) in
    let read_o : c.index-2.result.now ≡ get_or c.args.t.now.stamps.items c.args.a 0 = get_or_read c.args.t.now.stamps.items c.args.a c.index-2.result.now in_a c.index-2.ensures 0 in
    let open_a : get_or c.args.t.now.stamps.items c.args.a 0 ≡ 0 = omega (arith, read_o, c.if-index-eq0.true) in
    let level : c.enqueue.new.t.level + 1 ≡ c.args.t.now.level + 1 = omega (arith, c.enqueue.ensures.same_level) in
    let pu : IsPushed c.args.t.now c.enqueue.new.t c.args.a (c.args.t.now.level + 1) c.args.slot (literal_of c.args.a, c.args.t.now.level, Some c.args.id) =
    record { stamps = c.enqueue.ensures.stamps; codes = c.enqueue.ensures.codes; reasons = c.enqueue.ensures.reasons; rows = c.enqueue.ensures.rows; spots = c.enqueue.ensures.spots; len = c.enqueue.ensures.len; head = c.enqueue.ensures.head; level = level } in
    let w2 : Watches = c.seat.new.w in
    let k : IsFixing c.args.w.now w2 c.args.t.now c.args.slot c.args.a c.args.clause = record {
      placed = c.requires.placed;
      room = room_of c.args.w.now c.args.t.now c.args.slot c.requires.placed c.requires.waiting c.requires.lists c.requires.once;
      one = c.requires.lists;
      may = c.requires.may_come;
      has = c.requires.has;
      only = c.requires.only;
      holds = record { kinds = c.seat.ensures.holds.kinds; clauses = c.seat.ensures.holds.clauses; ids = c.seat.ensures.holds.ids; slots = c.seat.ensures.holds.slots };
      literals = c.seat.ensures.literals;
      lists = c.seat.ensures.lists;
    } in
    open_fixed c.args.w.now w2 c.args.t.now c.enqueue.new.t c.args.slot c.args.a c.args.clause c.args.id k c.if-a-eq0.false open_a free_a c.requires.name c.seat.ensures.calm pu

pub returns-then-index-eq0-clause-literals : goal.returns-then-index-eq0-clause-literals
returns-then-index-eq0-clause-literals c =
    let in_a : c.args.a < length c.args.t.now.stamps.items = c.requires.may_come.within c.args.a (c.requires.has c.if-a-eq0.false) in
    let at_a : c.neg.result < length c.args.t.now.stamps.items = rw c.neg.ensures (neg_below c.args.a (length c.args.t.now.stamps.items) in_a c.requires.placed.trail.even) in
    let read : c.index.result.now ≡ get_or c.args.t.now.stamps.items (neg_of c.args.a) 0 = rw (← c.neg.ensures) (get_or_read c.args.t.now.stamps.items c.neg.result c.index.result.now at_a c.index.ensures 0) in
    let free_a : get_or c.args.t.now.stamps.items (neg_of c.args.a) 0 ≡ 0 = omega (arith, read, c.if-index-ne0.false) in
    let read_o : c.index-2.result.now ≡ get_or c.args.t.now.stamps.items c.args.a 0 = get_or_read c.args.t.now.stamps.items c.args.a c.index-2.result.now in_a c.index-2.ensures 0 in
    let open_a : get_or c.args.t.now.stamps.items c.args.a 0 ≡ 0 = omega (arith, read_o, c.if-index-eq0.true) in
    let level : c.enqueue.new.t.level + 1 ≡ c.args.t.now.level + 1 = omega (arith, c.enqueue.ensures.same_level) in
    let pu : IsPushed c.args.t.now c.enqueue.new.t c.args.a (c.args.t.now.level + 1) c.args.slot (literal_of c.args.a, c.args.t.now.level, Some c.args.id) =
    record { stamps = c.enqueue.ensures.stamps; codes = c.enqueue.ensures.codes; reasons = c.enqueue.ensures.reasons; rows = c.enqueue.ensures.rows; spots = c.enqueue.ensures.spots; len = c.enqueue.ensures.len; head = c.enqueue.ensures.head; level = level } in
    let w2 : Watches = c.seat.new.w in
    let k : IsFixing c.args.w.now w2 c.args.t.now c.args.slot c.args.a c.args.clause = record {
      placed = c.requires.placed;
      room = room_of c.args.w.now c.args.t.now c.args.slot c.requires.placed c.requires.waiting c.requires.lists c.requires.once;
      one = c.requires.lists;
      may = c.requires.may_come;
      has = c.requires.has;
      only = c.requires.only;
      holds = record { kinds = c.seat.ensures.holds.kinds; clauses = c.seat.ensures.holds.clauses; ids = c.seat.ensures.holds.ids; slots = c.seat.ensures.holds.slots };
      literals = c.seat.ensures.literals;
      lists = c.seat.ensures.lists;
    } in
    forced_added c.args.t.now c.enqueue.new.t c.args.a c.args.slot c.args.clause c.args.id (c.requires.placed.trail, c.requires.placed.shown) (c.requires.has c.if-a-eq0.false) in_a open_a free_a (no_others c.args.w.now w2 c.args.t.now c.args.slot c.args.a c.args.clause k) pu

pub returns-then-index-eq0-clause-propagated : goal.returns-then-index-eq0-clause-propagated
returns-then-index-eq0-clause-propagated c =
    let in_a : c.args.a < length c.args.t.now.stamps.items = c.requires.may_come.within c.args.a (c.requires.has c.if-a-eq0.false) in
    let at_a : c.neg.result < length c.args.t.now.stamps.items = rw c.neg.ensures (neg_below c.args.a (length c.args.t.now.stamps.items) in_a c.requires.placed.trail.even) in
    let read : c.index.result.now ≡ get_or c.args.t.now.stamps.items (neg_of c.args.a) 0 = rw (← c.neg.ensures) (get_or_read c.args.t.now.stamps.items c.neg.result c.index.result.now at_a c.index.ensures 0) in
    let free_a : get_or c.args.t.now.stamps.items (neg_of c.args.a) 0 ≡ 0 = omega (arith, read, c.if-index-ne0.false) in
    let read_o : c.index-2.result.now ≡ get_or c.args.t.now.stamps.items c.args.a 0 = get_or_read c.args.t.now.stamps.items c.args.a c.index-2.result.now in_a c.index-2.ensures 0 in
    let open_a : get_or c.args.t.now.stamps.items c.args.a 0 ≡ 0 = omega (arith, read_o, c.if-index-eq0.true) in
    let w2 : Watches = c.seat.new.w in
    let k : IsFixing c.args.w.now w2 c.args.t.now c.args.slot c.args.a c.args.clause = record {
      placed = c.requires.placed;
      room = room_of c.args.w.now c.args.t.now c.args.slot c.requires.placed c.requires.waiting c.requires.lists c.requires.once;
      one = c.requires.lists;
      may = c.requires.may_come;
      has = c.requires.has;
      only = c.requires.only;
      holds = record { kinds = c.seat.ensures.holds.kinds; clauses = c.seat.ensures.holds.clauses; ids = c.seat.ensures.holds.ids; slots = c.seat.ensures.holds.slots };
      literals = c.seat.ensures.literals;
      lists = c.seat.ensures.lists;
    } in
    λ r. absurd (unit_no_rest c.args.t.now c.args.a c.args.clause (c.requires.placed.trail, c.requires.placed.shown) open_a (no_others c.args.w.now w2 c.args.t.now c.args.slot c.args.a c.args.clause k) r)

pub returns-else-index-eq0-clause-placed : goal.returns-else-index-eq0-clause-placed
returns-else-index-eq0-clause-placed c =
    let in_a : c.args.a < length c.args.t.now.stamps.items = c.requires.may_come.within c.args.a (c.requires.has c.if-a-eq0.false) in
    let at_a : c.neg.result < length c.args.t.now.stamps.items = rw c.neg.ensures (neg_below c.args.a (length c.args.t.now.stamps.items) in_a c.requires.placed.trail.even) in
    let read : c.index.result.now ≡ get_or c.args.t.now.stamps.items (neg_of c.args.a) 0 = rw (← c.neg.ensures) (get_or_read c.args.t.now.stamps.items c.neg.result c.index.result.now at_a c.index.ensures 0) in
    let free_a : get_or c.args.t.now.stamps.items (neg_of c.args.a) 0 ≡ 0 = omega (arith, read, c.if-index-ne0.false) in
    let read_o : c.index-2.result.now ≡ get_or c.args.t.now.stamps.items c.args.a 0 = get_or_read c.args.t.now.stamps.items c.args.a c.index-2.result.now in_a c.index-2.ensures 0 in
    let w2 : Watches = c.seat.new.w in
    let k : IsFixing c.args.w.now w2 c.args.t.now c.args.slot c.args.a c.args.clause = record {
      placed = c.requires.placed;
      room = room_of c.args.w.now c.args.t.now c.args.slot c.requires.placed c.requires.waiting c.requires.lists c.requires.once;
      one = c.requires.lists;
      may = c.requires.may_come;
      has = c.requires.has;
      only = c.requires.only;
      holds = record { kinds = c.seat.ensures.holds.kinds; clauses = c.seat.ensures.holds.clauses; ids = c.seat.ensures.holds.ids; slots = c.seat.ensures.holds.slots };
      literals = c.seat.ensures.literals;
      lists = c.seat.ensures.lists;
    } in
    true_fixed c.args.w.now w2 c.args.t.now c.args.slot c.args.a c.args.clause k c.if-a-eq0.false (λ z. c.if-index-eq0.false (read_o ∙ z)) c.seat.ensures.calm

pub returns-else-index-eq0-clause-literals : goal.returns-else-index-eq0-clause-literals
returns-else-index-eq0-clause-literals c =
    let in_a : c.args.a < length c.args.t.now.stamps.items = c.requires.may_come.within c.args.a (c.requires.has c.if-a-eq0.false) in
    let at_a : c.neg.result < length c.args.t.now.stamps.items = rw c.neg.ensures (neg_below c.args.a (length c.args.t.now.stamps.items) in_a c.requires.placed.trail.even) in
    let read : c.index.result.now ≡ get_or c.args.t.now.stamps.items (neg_of c.args.a) 0 = rw (← c.neg.ensures) (get_or_read c.args.t.now.stamps.items c.neg.result c.index.result.now at_a c.index.ensures 0) in
    let free_a : get_or c.args.t.now.stamps.items (neg_of c.args.a) 0 ≡ 0 = omega (arith, read, c.if-index-ne0.false) in
    let read_o : c.index-2.result.now ≡ get_or c.args.t.now.stamps.items c.args.a 0 = get_or_read c.args.t.now.stamps.items c.args.a c.index-2.result.now in_a c.index-2.ensures 0 in
    let w2 : Watches = c.seat.new.w in
    let k : IsFixing c.args.w.now w2 c.args.t.now c.args.slot c.args.a c.args.clause = record {
      placed = c.requires.placed;
      room = room_of c.args.w.now c.args.t.now c.args.slot c.requires.placed c.requires.waiting c.requires.lists c.requires.once;
      one = c.requires.lists;
      may = c.requires.may_come;
      has = c.requires.has;
      only = c.requires.only;
      holds = record { kinds = c.seat.ensures.holds.kinds; clauses = c.seat.ensures.holds.clauses; ids = c.seat.ensures.holds.ids; slots = c.seat.ensures.holds.slots };
      literals = c.seat.ensures.literals;
      lists = c.seat.ensures.lists;
    } in
    true_rests c.args.w.now w2 c.args.t.now c.args.slot c.args.a c.args.clause c.args.id k c.if-a-eq0.false (λ z. c.if-index-eq0.false (read_o ∙ z))
