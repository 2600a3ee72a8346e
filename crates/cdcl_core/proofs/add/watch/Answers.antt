use Rattle.std.proofs.Common.{rules, Some, ◌≡◌, ◌≢◌, ◌+◌, ◌^◌, ◌<◌, length, get_or, ◌∙◌, arith}
use Rattle.std.proofs.lemmas.List.{get_or_read}
use Rattle.cnf_base.specs.Literals.{literal_of}
use Rattle.cdcl_core.specs.Stamps.{neg as neg_of}
use Rattle.cdcl_core.proofs.Counting.{neg_below}
use Rattle.cdcl_core.proofs.Trails.{level_len, trail_len, has_room, few_true, few_levels}
use Rattle.cdcl_core.proofs.Reasons.{has_row}
use Rattle.cdcl_core.proofs.Visits.{IsPushed}
use Rattle.cdcl_core.proofs.Clauses.{codes_length}
use Rattle.cdcl_core.proofs.Arrivals.{IsHung, hung_lists}
use Rattle.cdcl_core.proofs.Adding.{room_of, IsComing, plain_placed, plain_added, true_placed, true_added, false_placed, false_added, all_false, false_no_rest, unit_placed, forced_added, others_false, unit_no_rest, odd_idle}
use Rattle.cdcl_core.proofs.add.watch.Goals as goal

pub hang-requires-clause-a : goal.hang-requires-clause-a
hang-requires-clause-a c =
    let in_a : c.args.a < length c.args.t.now.stamps.items = c.requires.may_come.within c.args.a c.requires.has_a in
    let in_b : c.args.b < length c.args.t.now.stamps.items = c.requires.may_come.within c.args.b c.requires.has_b in
    omega (arith, in_a, c.requires.placed.watched.lists)

pub hang-requires-clause-b : goal.hang-requires-clause-b
hang-requires-clause-b c =
    let in_a : c.args.a < length c.args.t.now.stamps.items = c.requires.may_come.within c.args.a c.requires.has_a in
    let in_b : c.args.b < length c.args.t.now.stamps.items = c.requires.may_come.within c.args.b c.requires.has_b in
    omega (arith, in_b, c.requires.placed.watched.lists)

pub hang-requires-clause-small_a : goal.hang-requires-clause-small_a
hang-requires-clause-small_a c =
    let in_a : c.args.a < length c.args.t.now.stamps.items = c.requires.may_come.within c.args.a c.requires.has_a in
    let in_b : c.args.b < length c.args.t.now.stamps.items = c.requires.may_come.within c.args.b c.requires.has_b in
    let size : length c.args.t.now.stamps.items < 2 ^ 63 = search rules in
    omega (arith, in_a, size)

pub hang-requires-clause-small_b : goal.hang-requires-clause-small_b
hang-requires-clause-small_b c =
    let in_a : c.args.a < length c.args.t.now.stamps.items = c.requires.may_come.within c.args.a c.requires.has_a in
    let in_b : c.args.b < length c.args.t.now.stamps.items = c.requires.may_come.within c.args.b c.requires.has_b in
    let size : length c.args.t.now.stamps.items < 2 ^ 63 = search rules in
    omega (arith, in_b, size)

pub hang-requires-clause-places : goal.hang-requires-clause-places
hang-requires-clause-places c = omega (arith, c.requires.waiting.high, c.requires.placed.watched.slots)

pub hang-requires-clause-rows : goal.hang-requires-clause-rows
hang-requires-clause-rows c = omega (arith, c.requires.waiting.high, c.requires.placed.watched.clauses, codes_length c.args.w.now.clauses.items)

pub hang-requires-clause-idle : goal.hang-requires-clause-idle
hang-requires-clause-idle c = odd_idle c.args.w.now c.args.t.now c.args.slot c.requires.placed c.requires.waiting

pub index-requires : goal.index-requires
index-requires c =
    let in_a : c.args.a < length c.args.t.now.stamps.items = c.requires.may_come.within c.args.a c.requires.has_a in
    let in_b : c.args.b < length c.args.t.now.stamps.items = c.requires.may_come.within c.args.b c.requires.has_b in
    let at_b : c.neg.result < length c.args.t.now.stamps.items = rw c.neg.ensures (neg_below c.args.b (length c.args.t.now.stamps.items) in_b c.requires.placed.trail.even) in
    search rules

pub index-requires-2 : goal.index-requires-2
index-requires-2 c =
    let in_a : c.args.a < length c.args.t.now.stamps.items = c.requires.may_come.within c.args.a c.requires.has_a in
    let in_b : c.args.b < length c.args.t.now.stamps.items = c.requires.may_come.within c.args.b c.requires.has_b in
    let at_a : c.neg-2.result < length c.args.t.now.stamps.items = rw c.neg-2.ensures (neg_below c.args.a (length c.args.t.now.stamps.items) in_a c.requires.placed.trail.even) in
    search rules

pub returns-then-index-eq0-clause-placed : goal.returns-then-index-eq0-clause-placed
returns-then-index-eq0-clause-placed c =
    let in_a : c.args.a < length c.args.t.now.stamps.items = c.requires.may_come.within c.args.a c.requires.has_a in
    let in_b : c.args.b < length c.args.t.now.stamps.items = c.requires.may_come.within c.args.b c.requires.has_b in
    let size : length c.args.t.now.codes.items < 2 ^ 63 = search rules in
    let small : c.args.t.now.level + 2 < 2 ^ 64 = omega (arith, size, level_len c.args.t.now.stamps.items c.args.t.now.codes.items c.args.t.now.len c.args.t.now.head c.args.t.now.level c.requires.placed.trail, trail_len c.args.t.now.stamps.items c.args.t.now.codes.items c.args.t.now.len c.args.t.now.head c.args.t.now.level c.requires.placed.trail) in
    let one : 1 < length c.args.w.now.lists.lists = omega (arith, in_a, c.requires.placed.watched.lists, c.requires.may_come.named c.args.a c.requires.has_a) in
    let hung_now : IsHung c.args.w.now c.hang.new.w c.args.slot c.args.a c.args.b c.args.clause = record { holds = c.hang.ensures.holds; calm = c.hang.ensures.calm; literals = c.hang.ensures.literals; lists = c.hang.ensures.lists ∙ hung_lists c.args.w.now.lists.lists c.args.slot c.args.a c.args.b } in
    let k : IsComing c.args.w.now c.hang.new.w c.args.t.now c.args.slot c.args.a c.args.b c.args.clause = record {
      placed = c.requires.placed;
      room = room_of c.args.w.now c.args.t.now c.args.slot c.requires.placed c.requires.waiting one c.requires.once;
      may = c.requires.may_come;
      ranked = record { has_a = c.requires.has_a; has_b = c.requires.has_b; differ = c.requires.differ; first = c.requires.latest; second = c.requires.second; small = small };
      hung = hung_now;
    } in
    let at_b : c.neg.result < length c.args.t.now.stamps.items = rw c.neg.ensures (neg_below c.args.b (length c.args.t.now.stamps.items) in_b c.requires.placed.trail.even) in
    let read_b : c.index.result.now ≡ get_or c.args.t.now.stamps.items (neg_of c.args.b) 0 = rw (← c.neg.ensures) (get_or_read c.args.t.now.stamps.items c.neg.result c.index.result.now at_b c.index.ensures 0) in
    plain_placed c.args.w.now c.hang.new.w c.args.t.now c.args.slot c.args.a c.args.b c.args.clause k (omega (arith, read_b, c.if-index-eq0.true))

pub returns-then-index-eq0-clause-literals : goal.returns-then-index-eq0-clause-literals
returns-then-index-eq0-clause-literals c =
    let in_a : c.args.a < length c.args.t.now.stamps.items = c.requires.may_come.within c.args.a c.requires.has_a in
    let in_b : c.args.b < length c.args.t.now.stamps.items = c.requires.may_come.within c.args.b c.requires.has_b in
    let size : length c.args.t.now.codes.items < 2 ^ 63 = search rules in
    let small : c.args.t.now.level + 2 < 2 ^ 64 = omega (arith, size, level_len c.args.t.now.stamps.items c.args.t.now.codes.items c.args.t.now.len c.args.t.now.head c.args.t.now.level c.requires.placed.trail, trail_len c.args.t.now.stamps.items c.args.t.now.codes.items c.args.t.now.len c.args.t.now.head c.args.t.now.level c.requires.placed.trail) in
    let one : 1 < length c.args.w.now.lists.lists = omega (arith, in_a, c.requires.placed.watched.lists, c.requires.may_come.named c.args.a c.requires.has_a) in
    let hung_now : IsHung c.args.w.now c.hang.new.w c.args.slot c.args.a c.args.b c.args.clause = record { holds = c.hang.ensures.holds; calm = c.hang.ensures.calm; literals = c.hang.ensures.literals; lists = c.hang.ensures.lists ∙ hung_lists c.args.w.now.lists.lists c.args.slot c.args.a c.args.b } in
    let k : IsComing c.args.w.now c.hang.new.w c.args.t.now c.args.slot c.args.a c.args.b c.args.clause = record {
      placed = c.requires.placed;
      room = room_of c.args.w.now c.args.t.now c.args.slot c.requires.placed c.requires.waiting one c.requires.once;
      may = c.requires.may_come;
      ranked = record { has_a = c.requires.has_a; has_b = c.requires.has_b; differ = c.requires.differ; first = c.requires.latest; second = c.requires.second; small = small };
      hung = hung_now;
    } in
    let at_b : c.neg.result < length c.args.t.now.stamps.items = rw c.neg.ensures (neg_below c.args.b (length c.args.t.now.stamps.items) in_b c.requires.placed.trail.even) in
    let read_b : c.index.result.now ≡ get_or c.args.t.now.stamps.items (neg_of c.args.b) 0 = rw (← c.neg.ensures) (get_or_read c.args.t.now.stamps.items c.neg.result c.index.result.now at_b c.index.ensures 0) in
    plain_added c.args.w.now c.hang.new.w c.args.t.now c.args.slot c.args.a c.args.b c.args.clause c.args.id k (omega (arith, read_b, c.if-index-eq0.true))

pub returns-then-index-ne0-clause-placed : goal.returns-then-index-ne0-clause-placed
returns-then-index-ne0-clause-placed c =
    let in_a : c.args.a < length c.args.t.now.stamps.items = c.requires.may_come.within c.args.a c.requires.has_a in
    let in_b : c.args.b < length c.args.t.now.stamps.items = c.requires.may_come.within c.args.b c.requires.has_b in
    let size : length c.args.t.now.codes.items < 2 ^ 63 = search rules in
    let small : c.args.t.now.level + 2 < 2 ^ 64 = omega (arith, size, level_len c.args.t.now.stamps.items c.args.t.now.codes.items c.args.t.now.len c.args.t.now.head c.args.t.now.level c.requires.placed.trail, trail_len c.args.t.now.stamps.items c.args.t.now.codes.items c.args.t.now.len c.args.t.now.head c.args.t.now.level c.requires.placed.trail) in
    let one : 1 < length c.args.w.now.lists.lists = omega (arith, in_a, c.requires.placed.watched.lists, c.requires.may_come.named c.args.a c.requires.has_a) in
    let hung_now : IsHung c.args.w.now c.hang.new.w c.args.slot c.args.a c.args.b c.args.clause = record { holds = c.hang.ensures.holds; calm = c.hang.ensures.calm; literals = c.hang.ensures.literals; lists = c.hang.ensures.lists ∙ hung_lists c.args.w.now.lists.lists c.args.slot c.args.a c.args.b } in
    let k : IsComing c.args.w.now c.hang.new.w c.args.t.now c.args.slot c.args.a c.args.b c.args.clause = record {
      placed = c.requires.placed;
      room = room_of c.args.w.now c.args.t.now c.args.slot c.requires.placed c.requires.waiting one c.requires.once;
      may = c.requires.may_come;
      ranked = record { has_a = c.requires.has_a; has_b = c.requires.has_b; differ = c.requires.differ; first = c.requires.latest; second = c.requires.second; small = small };
      hung = hung_now;
    } in
    let at_b : c.neg.result < length c.args.t.now.stamps.items = rw c.neg.ensures (neg_below c.args.b (length c.args.t.now.stamps.items) in_b c.requires.placed.trail.even) in
    let read_b : c.index.result.now ≡ get_or c.args.t.now.stamps.items (neg_of c.args.b) 0 = rw (← c.neg.ensures) (get_or_read c.args.t.now.stamps.items c.neg.result c.index.result.now at_b c.index.ensures 0) in
    let at_a : c.neg-2.result < length c.args.t.now.stamps.items = rw c.neg-2.ensures (neg_below c.args.a (length c.args.t.now.stamps.items) in_a c.requires.placed.trail.even) in
    let read_a : c.index-2.result.now ≡ get_or c.args.t.now.stamps.items (neg_of c.args.a) 0 = rw (← c.neg-2.ensures) (get_or_read c.args.t.now.stamps.items c.neg-2.result c.index-2.result.now at_a c.index-2.ensures 0) in
    rw c.rewind.ensures.same (false_placed c.args.w.now c.hang.new.w c.args.t.now c.rewind.new.t.head c.args.slot c.args.a c.args.b c.args.clause k (λ z. c.if-index-eq0.false (read_b ∙ z)) (λ z. c.if-index-ne0.true (read_a ∙ z)) c.rewind.ensures.head c.rewind.ensures.before c.rewind.ensures.after)

pub returns-then-index-ne0-clause-literals : goal.returns-then-index-ne0-clause-literals
returns-then-index-ne0-clause-literals c =
    let in_a : c.args.a < length c.args.t.now.stamps.items = c.requires.may_come.within c.args.a c.requires.has_a in
    let in_b : c.args.b < length c.args.t.now.stamps.items = c.requires.may_come.within c.args.b c.requires.has_b in
    let size : length c.args.t.now.codes.items < 2 ^ 63 = search rules in
    let small : c.args.t.now.level + 2 < 2 ^ 64 = omega (arith, size, level_len c.args.t.now.stamps.items c.args.t.now.codes.items c.args.t.now.len c.args.t.now.head c.args.t.now.level c.requires.placed.trail, trail_len c.args.t.now.stamps.items c.args.t.now.codes.items c.args.t.now.len c.args.t.now.head c.args.t.now.level c.requires.placed.trail) in
    let one : 1 < length c.args.w.now.lists.lists = omega (arith, in_a, c.requires.placed.watched.lists, c.requires.may_come.named c.args.a c.requires.has_a) in
    let hung_now : IsHung c.args.w.now c.hang.new.w c.args.slot c.args.a c.args.b c.args.clause = record { holds = c.hang.ensures.holds; calm = c.hang.ensures.calm; literals = c.hang.ensures.literals; lists = c.hang.ensures.lists ∙ hung_lists c.args.w.now.lists.lists c.args.slot c.args.a c.args.b } in
    let k : IsComing c.args.w.now c.hang.new.w c.args.t.now c.args.slot c.args.a c.args.b c.args.clause = record {
      placed = c.requires.placed;
      room = room_of c.args.w.now c.args.t.now c.args.slot c.requires.placed c.requires.waiting one c.requires.once;
      may = c.requires.may_come;
      ranked = record { has_a = c.requires.has_a; has_b = c.requires.has_b; differ = c.requires.differ; first = c.requires.latest; second = c.requires.second; small = small };
      hung = hung_now;
    } in
    let at_b : c.neg.result < length c.args.t.now.stamps.items = rw c.neg.ensures (neg_below c.args.b (length c.args.t.now.stamps.items) in_b c.requires.placed.trail.even) in
    let read_b : c.index.result.now ≡ get_or c.args.t.now.stamps.items (neg_of c.args.b) 0 = rw (← c.neg.ensures) (get_or_read c.args.t.now.stamps.items c.neg.result c.index.result.now at_b c.index.ensures 0) in
    let at_a : c.neg-2.result < length c.args.t.now.stamps.items = rw c.neg-2.ensures (neg_below c.args.a (length c.args.t.now.stamps.items) in_a c.requires.placed.trail.even) in
    let read_a : c.index-2.result.now ≡ get_or c.args.t.now.stamps.items (neg_of c.args.a) 0 = rw (← c.neg-2.ensures) (get_or_read c.args.t.now.stamps.items c.neg-2.result c.index-2.result.now at_a c.index-2.ensures 0) in
    rw c.rewind.ensures.same (false_added c.args.t.now c.args.id c.args.clause (c.requires.placed.trail, c.requires.placed.shown) (all_false c.args.w.now c.hang.new.w c.args.t.now c.args.slot c.args.a c.args.b c.args.clause k (λ z. c.if-index-ne0.true (read_a ∙ z))))

pub returns-then-index-ne0-clause-propagated : goal.returns-then-index-ne0-clause-propagated
returns-then-index-ne0-clause-propagated c =
    let in_a : c.args.a < length c.args.t.now.stamps.items = c.requires.may_come.within c.args.a c.requires.has_a in
    let in_b : c.args.b < length c.args.t.now.stamps.items = c.requires.may_come.within c.args.b c.requires.has_b in
    let size : length c.args.t.now.codes.items < 2 ^ 63 = search rules in
    let small : c.args.t.now.level + 2 < 2 ^ 64 = omega (arith, size, level_len c.args.t.now.stamps.items c.args.t.now.codes.items c.args.t.now.len c.args.t.now.head c.args.t.now.level c.requires.placed.trail, trail_len c.args.t.now.stamps.items c.args.t.now.codes.items c.args.t.now.len c.args.t.now.head c.args.t.now.level c.requires.placed.trail) in
    let one : 1 < length c.args.w.now.lists.lists = omega (arith, in_a, c.requires.placed.watched.lists, c.requires.may_come.named c.args.a c.requires.has_a) in
    let hung_now : IsHung c.args.w.now c.hang.new.w c.args.slot c.args.a c.args.b c.args.clause = record { holds = c.hang.ensures.holds; calm = c.hang.ensures.calm; literals = c.hang.ensures.literals; lists = c.hang.ensures.lists ∙ hung_lists c.args.w.now.lists.lists c.args.slot c.args.a c.args.b } in
    let k : IsComing c.args.w.now c.hang.new.w c.args.t.now c.args.slot c.args.a c.args.b c.args.clause = record {
      placed = c.requires.placed;
      room = room_of c.args.w.now c.args.t.now c.args.slot c.requires.placed c.requires.waiting one c.requires.once;
      may = c.requires.may_come;
      ranked = record { has_a = c.requires.has_a; has_b = c.requires.has_b; differ = c.requires.differ; first = c.requires.latest; second = c.requires.second; small = small };
      hung = hung_now;
    } in
    let at_b : c.neg.result < length c.args.t.now.stamps.items = rw c.neg.ensures (neg_below c.args.b (length c.args.t.now.stamps.items) in_b c.requires.placed.trail.even) in
    let read_b : c.index.result.now ≡ get_or c.args.t.now.stamps.items (neg_of c.args.b) 0 = rw (← c.neg.ensures) (get_or_read c.args.t.now.stamps.items c.neg.result c.index.result.now at_b c.index.ensures 0) in
    let at_a : c.neg-2.result < length c.args.t.now.stamps.items = rw c.neg-2.ensures (neg_below c.args.a (length c.args.t.now.stamps.items) in_a c.requires.placed.trail.even) in
    let read_a : c.index-2.result.now ≡ get_or c.args.t.now.stamps.items (neg_of c.args.a) 0 = rw (← c.neg-2.ensures) (get_or_read c.args.t.now.stamps.items c.neg-2.result c.index-2.result.now at_a c.index-2.ensures 0) in
    λ r. absurd (false_no_rest c.args.t.now c.args.clause (c.requires.placed.trail, c.requires.placed.shown) (all_false c.args.w.now c.hang.new.w c.args.t.now c.args.slot c.args.a c.args.b c.args.clause k (λ z. c.if-index-ne0.true (read_a ∙ z))) r)

pub enqueue-requires-clause-codes : goal.enqueue-requires-clause-codes
enqueue-requires-clause-codes c =
    let in_a : c.args.a < length c.args.t.now.stamps.items = c.requires.may_come.within c.args.a c.requires.has_a in
    let in_b : c.args.b < length c.args.t.now.stamps.items = c.requires.may_come.within c.args.b c.requires.has_b in
    let at_a : c.neg-2.result < length c.args.t.now.stamps.items = rw c.neg-2.ensures (neg_below c.args.a (length c.args.t.now.stamps.items) in_a c.requires.placed.trail.even) in
    let read_a : c.index-2.result.now ≡ get_or c.args.t.now.stamps.items (neg_of c.args.a) 0 = rw (← c.neg-2.ensures) (get_or_read c.args.t.now.stamps.items c.neg-2.result c.index-2.result.now at_a c.index-2.ensures 0) in
    let free_a : get_or c.args.t.now.stamps.items (neg_of c.args.a) 0 ≡ 0 = omega (arith, read_a, c.if-index-ne0.false) in
    let read_o : c.index-3.result.now ≡ get_or c.args.t.now.stamps.items c.args.a 0 = get_or_read c.args.t.now.stamps.items c.args.a c.index-3.result.now in_a c.index-3.ensures 0 in
    let open_a : get_or c.args.t.now.stamps.items c.args.a 0 ≡ 0 = omega (arith, read_o, c.if-index-eq0-2.true) in
    has_room c.args.t.now.stamps.items c.args.t.now.codes.items c.args.t.now.len c.args.t.now.head c.args.t.now.level c.args.a c.requires.placed.trail in_a open_a free_a

pub enqueue-requires-clause-reasons : goal.enqueue-requires-clause-reasons
enqueue-requires-clause-reasons c =
    let in_a : c.args.a < length c.args.t.now.stamps.items = c.requires.may_come.within c.args.a c.requires.has_a in
    let in_b : c.args.b < length c.args.t.now.stamps.items = c.requires.may_come.within c.args.b c.requires.has_b in
    let at_a : c.neg-2.result < length c.args.t.now.stamps.items = rw c.neg-2.ensures (neg_below c.args.a (length c.args.t.now.stamps.items) in_a c.requires.placed.trail.even) in
    let read_a : c.index-2.result.now ≡ get_or c.args.t.now.stamps.items (neg_of c.args.a) 0 = rw (← c.neg-2.ensures) (get_or_read c.args.t.now.stamps.items c.neg-2.result c.index-2.result.now at_a c.index-2.ensures 0) in
    let free_a : get_or c.args.t.now.stamps.items (neg_of c.args.a) 0 ≡ 0 = omega (arith, read_a, c.if-index-ne0.false) in
    let read_o : c.index-3.result.now ≡ get_or c.args.t.now.stamps.items c.args.a 0 = get_or_read c.args.t.now.stamps.items c.args.a c.index-3.result.now in_a c.index-3.ensures 0 in
    let open_a : get_or c.args.t.now.stamps.items c.args.a 0 ≡ 0 = omega (arith, read_o, c.if-index-eq0-2.true) in
    omega (arith, c.requires.placed.reasoned.width, has_room c.args.t.now.stamps.items c.args.t.now.codes.items c.args.t.now.len c.args.t.now.head c.args.t.now.level c.args.a c.requires.placed.trail in_a open_a free_a)

pub enqueue-requires-clause-rows : goal.enqueue-requires-clause-rows
enqueue-requires-clause-rows c =
    let in_a : c.args.a < length c.args.t.now.stamps.items = c.requires.may_come.within c.args.a c.requires.has_a in
    let in_b : c.args.b < length c.args.t.now.stamps.items = c.requires.may_come.within c.args.b c.requires.has_b in
    let at_a : c.neg-2.result < length c.args.t.now.stamps.items = rw c.neg-2.ensures (neg_below c.args.a (length c.args.t.now.stamps.items) in_a c.requires.placed.trail.even) in
    let read_a : c.index-2.result.now ≡ get_or c.args.t.now.stamps.items (neg_of c.args.a) 0 = rw (← c.neg-2.ensures) (get_or_read c.args.t.now.stamps.items c.neg-2.result c.index-2.result.now at_a c.index-2.ensures 0) in
    let free_a : get_or c.args.t.now.stamps.items (neg_of c.args.a) 0 ≡ 0 = omega (arith, read_a, c.if-index-ne0.false) in
    let read_o : c.index-3.result.now ≡ get_or c.args.t.now.stamps.items c.args.a 0 = get_or_read c.args.t.now.stamps.items c.args.a c.index-3.result.now in_a c.index-3.ensures 0 in
    let open_a : get_or c.args.t.now.stamps.items c.args.a 0 ≡ 0 = omega (arith, read_o, c.if-index-eq0-2.true) in
    has_row c.args.t.now c.args.a c.requires.placed.trail c.requires.placed.shown in_a open_a free_a

pub enqueue-requires-clause-few : goal.enqueue-requires-clause-few
enqueue-requires-clause-few c = c.requires.placed.trail.few

pub enqueue-requires-clause-short : goal.enqueue-requires-clause-short
enqueue-requires-clause-short c = few_true c.args.t.now.stamps.items c.args.t.now.codes.items c.args.t.now.len c.args.t.now.head c.args.t.now.level c.requires.placed.trail

pub enqueue-requires-clause-level : goal.enqueue-requires-clause-level
enqueue-requires-clause-level c = omega (arith, few_levels c.args.t.now.stamps.items c.args.t.now.codes.items c.args.t.now.len c.args.t.now.head c.args.t.now.level c.requires.placed.trail)

pub returns-then-index-eq0-2-clause-placed : goal.returns-then-index-eq0-2-clause-placed
returns-then-index-eq0-2-clause-placed c =
    let in_a : c.args.a < length c.args.t.now.stamps.items = c.requires.may_come.within c.args.a c.requires.has_a in
    let in_b : c.args.b < length c.args.t.now.stamps.items = c.requires.may_come.within c.args.b c.requires.has_b in
    let size : length c.args.t.now.codes.items < 2 ^ 63 = search rules in
    let small : c.args.t.now.level + 2 < 2 ^ 64 = omega (arith, size, level_len c.args.t.now.stamps.items c.args.t.now.codes.items c.args.t.now.len c.args.t.now.head c.args.t.now.level c.requires.placed.trail, trail_len c.args.t.now.stamps.items c.args.t.now.codes.items c.args.t.now.len c.args.t.now.head c.args.t.now.level c.requires.placed.trail) in
    let one : 1 < length c.args.w.now.lists.lists = omega (arith, in_a, c.requires.placed.watched.lists, c.requires.may_come.named c.args.a c.requires.has_a) in
    let hung_now : IsHung c.args.w.now c.hang.new.w c.args.slot c.args.a c.args.b c.args.clause = record { holds = c.hang.ensures.holds; calm = c.hang.ensures.calm; literals = c.hang.ensures.literals; lists = c.hang.ensures.lists ∙ hung_lists c.args.w.now.lists.lists c.args.slot c.args.a c.args.b } in
    let k : IsComing c.args.w.now c.hang.new.w c.args.t.now c.args.slot c.args.a c.args.b c.args.clause = record {
      placed = c.requires.placed;
      room = room_of c.args.w.now c.args.t.now c.args.slot c.requires.placed c.requires.waiting one c.requires.once;
      may = c.requires.may_come;
      ranked = record { has_a = c.requires.has_a; has_b = c.requires.has_b; differ = c.requires.differ; first = c.requires.latest; second = c.requires.second; small = small };
      hung = hung_now;
    } in
    let at_b : c.neg.result < length c.args.t.now.stamps.items = rw c.neg.ensures (neg_below c.args.b (length c.args.t.now.stamps.items) in_b c.requires.placed.trail.even) in
    let read_b : c.index.result.now ≡ get_or c.args.t.now.stamps.items (neg_of c.args.b) 0 = rw (← c.neg.ensures) (get_or_read c.args.t.now.stamps.items c.neg.result c.index.result.now at_b c.index.ensures 0) in
    let at_a : c.neg-2.result < length c.args.t.now.stamps.items = rw c.neg-2.ensures (neg_below c.args.a (length c.args.t.now.stamps.items) in_a c.requires.placed.trail.even) in
    let read_a : c.index-2.result.now ≡ get_or c.args.t.now.stamps.items (neg_of c.args.a) 0 = rw (← c.neg-2.ensures) (get_or_read c.args.t.now.stamps.items c.neg-2.result c.index-2.result.now at_a c.index-2.ensures 0) in
    let read_o : c.index-3.result.now ≡ get_or c.args.t.now.stamps.items c.args.a 0 = get_or_read c.args.t.now.stamps.items c.args.a c.index-3.result.now in_a c.index-3.ensures 0 in
    let set_b : get_or c.args.t.now.stamps.items (neg_of c.args.b) 0 ≢ 0 = λ z. c.if-index-eq0.false (read_b ∙ z) in
    let free_a : get_or c.args.t.now.stamps.items (neg_of c.args.a) 0 ≡ 0 = omega (arith, read_a, c.if-index-ne0.false) in
    let open_a : get_or c.args.t.now.stamps.items c.args.a 0 ≡ 0 = omega (arith, read_o, c.if-index-eq0-2.true) in
    let level : c.enqueue.new.t.level + 1 ≡ c.args.t.now.level + 1 = omega (arith, c.enqueue.ensures.same_level) in
    let pu : IsPushed c.args.t.now c.enqueue.new.t c.args.a (c.args.t.now.level + 1) c.args.slot (literal_of c.args.a, c.args.t.now.level, Some c.args.id) =
    record { stamps = c.enqueue.ensures.stamps; codes = c.enqueue.ensures.codes; reasons = c.enqueue.ensures.reasons; rows = c.enqueue.ensures.rows; spots = c.enqueue.ensures.spots; len = c.enqueue.ensures.len; head = c.enqueue.ensures.head; level = level } in
    unit_placed c.args.w.now c.hang.new.w c.args.t.now c.enqueue.new.t c.args.slot c.args.a c.args.b c.args.clause c.args.id k c.requires.name set_b free_a open_a pu

pub returns-then-index-eq0-2-clause-literals : goal.returns-then-index-eq0-2-clause-literals
returns-then-index-eq0-2-clause-literals c =
    let in_a : c.args.a < length c.args.t.now.stamps.items = c.requires.may_come.within c.args.a c.requires.has_a in
    let in_b : c.args.b < length c.args.t.now.stamps.items = c.requires.may_come.within c.args.b c.requires.has_b in
    let size : length c.args.t.now.codes.items < 2 ^ 63 = search rules in
    let small : c.args.t.now.level + 2 < 2 ^ 64 = omega (arith, size, level_len c.args.t.now.stamps.items c.args.t.now.codes.items c.args.t.now.len c.args.t.now.head c.args.t.now.level c.requires.placed.trail, trail_len c.args.t.now.stamps.items c.args.t.now.codes.items c.args.t.now.len c.args.t.now.head c.args.t.now.level c.requires.placed.trail) in
    let one : 1 < length c.args.w.now.lists.lists = omega (arith, in_a, c.requires.placed.watched.lists, c.requires.may_come.named c.args.a c.requires.has_a) in
    let hung_now : IsHung c.args.w.now c.hang.new.w c.args.slot c.args.a c.args.b c.args.clause = record { holds = c.hang.ensures.holds; calm = c.hang.ensures.calm; literals = c.hang.ensures.literals; lists = c.hang.ensures.lists ∙ hung_lists c.args.w.now.lists.lists c.args.slot c.args.a c.args.b } in
    let k : IsComing c.args.w.now c.hang.new.w c.args.t.now c.args.slot c.args.a c.args.b c.args.clause = record {
      placed = c.requires.placed;
      room = room_of c.args.w.now c.args.t.now c.args.slot c.requires.placed c.requires.waiting one c.requires.once;
      may = c.requires.may_come;
      ranked = record { has_a = c.requires.has_a; has_b = c.requires.has_b; differ = c.requires.differ; first = c.requires.latest; second = c.requires.second; small = small };
      hung = hung_now;
    } in
    let at_b : c.neg.result < length c.args.t.now.stamps.items = rw c.neg.ensures (neg_below c.args.b (length c.args.t.now.stamps.items) in_b c.requires.placed.trail.even) in
    let read_b : c.index.result.now ≡ get_or c.args.t.now.stamps.items (neg_of c.args.b) 0 = rw (← c.neg.ensures) (get_or_read c.args.t.now.stamps.items c.neg.result c.index.result.now at_b c.index.ensures 0) in
    let at_a : c.neg-2.result < length c.args.t.now.stamps.items = rw c.neg-2.ensures (neg_below c.args.a (length c.args.t.now.stamps.items) in_a c.requires.placed.trail.even) in
    let read_a : c.index-2.result.now ≡ get_or c.args.t.now.stamps.items (neg_of c.args.a) 0 = rw (← c.neg-2.ensures) (get_or_read c.args.t.now.stamps.items c.neg-2.result c.index-2.result.now at_a c.index-2.ensures 0) in
    let read_o : c.index-3.result.now ≡ get_or c.args.t.now.stamps.items c.args.a 0 = get_or_read c.args.t.now.stamps.items c.args.a c.index-3.result.now in_a c.index-3.ensures 0 in
    let set_b : get_or c.args.t.now.stamps.items (neg_of c.args.b) 0 ≢ 0 = λ z. c.if-index-eq0.false (read_b ∙ z) in
    let free_a : get_or c.args.t.now.stamps.items (neg_of c.args.a) 0 ≡ 0 = omega (arith, read_a, c.if-index-ne0.false) in
    let open_a : get_or c.args.t.now.stamps.items c.args.a 0 ≡ 0 = omega (arith, read_o, c.if-index-eq0-2.true) in
    let level : c.enqueue.new.t.level + 1 ≡ c.args.t.now.level + 1 = omega (arith, c.enqueue.ensures.same_level) in
    let pu : IsPushed c.args.t.now c.enqueue.new.t c.args.a (c.args.t.now.level + 1) c.args.slot (literal_of c.args.a, c.args.t.now.level, Some c.args.id) =
    record { stamps = c.enqueue.ensures.stamps; codes = c.enqueue.ensures.codes; reasons = c.enqueue.ensures.reasons; rows = c.enqueue.ensures.rows; spots = c.enqueue.ensures.spots; len = c.enqueue.ensures.len; head = c.enqueue.ensures.head; level = level } in
    forced_added c.args.t.now c.enqueue.new.t c.args.a c.args.slot c.args.clause c.args.id (c.requires.placed.trail, c.requires.placed.shown) c.requires.has_a in_a open_a free_a (others_false c.args.w.now c.hang.new.w c.args.t.now c.args.slot c.args.a c.args.b c.args.clause k set_b) pu

pub returns-then-index-eq0-2-clause-propagated : goal.returns-then-index-eq0-2-clause-propagated
returns-then-index-eq0-2-clause-propagated c =
    let in_a : c.args.a < length c.args.t.now.stamps.items = c.requires.may_come.within c.args.a c.requires.has_a in
    let in_b : c.args.b < length c.args.t.now.stamps.items = c.requires.may_come.within c.args.b c.requires.has_b in
    let size : length c.args.t.now.codes.items < 2 ^ 63 = search rules in
    let small : c.args.t.now.level + 2 < 2 ^ 64 = omega (arith, size, level_len c.args.t.now.stamps.items c.args.t.now.codes.items c.args.t.now.len c.args.t.now.head c.args.t.now.level c.requires.placed.trail, trail_len c.args.t.now.stamps.items c.args.t.now.codes.items c.args.t.now.len c.args.t.now.head c.args.t.now.level c.requires.placed.trail) in
    let one : 1 < length c.args.w.now.lists.lists = omega (arith, in_a, c.requires.placed.watched.lists, c.requires.may_come.named c.args.a c.requires.has_a) in
    let hung_now : IsHung c.args.w.now c.hang.new.w c.args.slot c.args.a c.args.b c.args.clause = record { holds = c.hang.ensures.holds; calm = c.hang.ensures.calm; literals = c.hang.ensures.literals; lists = c.hang.ensures.lists ∙ hung_lists c.args.w.now.lists.lists c.args.slot c.args.a c.args.b } in
    let k : IsComing c.args.w.now c.hang.new.w c.args.t.now c.args.slot c.args.a c.args.b c.args.clause = record {
      placed = c.requires.placed;
      room = room_of c.args.w.now c.args.t.now c.args.slot c.requires.placed c.requires.waiting one c.requires.once;
      may = c.requires.may_come;
      ranked = record { has_a = c.requires.has_a; has_b = c.requires.has_b; differ = c.requires.differ; first = c.requires.latest; second = c.requires.second; small = small };
      hung = hung_now;
    } in
    let at_b : c.neg.result < length c.args.t.now.stamps.items = rw c.neg.ensures (neg_below c.args.b (length c.args.t.now.stamps.items) in_b c.requires.placed.trail.even) in
    let read_b : c.index.result.now ≡ get_or c.args.t.now.stamps.items (neg_of c.args.b) 0 = rw (← c.neg.ensures) (get_or_read c.args.t.now.stamps.items c.neg.result c.index.result.now at_b c.index.ensures 0) in
    let at_a : c.neg-2.result < length c.args.t.now.stamps.items = rw c.neg-2.ensures (neg_below c.args.a (length c.args.t.now.stamps.items) in_a c.requires.placed.trail.even) in
    let read_a : c.index-2.result.now ≡ get_or c.args.t.now.stamps.items (neg_of c.args.a) 0 = rw (← c.neg-2.ensures) (get_or_read c.args.t.now.stamps.items c.neg-2.result c.index-2.result.now at_a c.index-2.ensures 0) in
    let read_o : c.index-3.result.now ≡ get_or c.args.t.now.stamps.items c.args.a 0 = get_or_read c.args.t.now.stamps.items c.args.a c.index-3.result.now in_a c.index-3.ensures 0 in
    let set_b : get_or c.args.t.now.stamps.items (neg_of c.args.b) 0 ≢ 0 = λ z. c.if-index-eq0.false (read_b ∙ z) in
    let free_a : get_or c.args.t.now.stamps.items (neg_of c.args.a) 0 ≡ 0 = omega (arith, read_a, c.if-index-ne0.false) in
    let open_a : get_or c.args.t.now.stamps.items c.args.a 0 ≡ 0 = omega (arith, read_o, c.if-index-eq0-2.true) in
    λ r. absurd (unit_no_rest c.args.t.now c.args.a c.args.clause (c.requires.placed.trail, c.requires.placed.shown) open_a (others_false c.args.w.now c.hang.new.w c.args.t.now c.args.slot c.args.a c.args.b c.args.clause k set_b) r)

pub returns-else-index-eq0-2-clause-placed : goal.returns-else-index-eq0-2-clause-placed
returns-else-index-eq0-2-clause-placed c =
    let in_a : c.args.a < length c.args.t.now.stamps.items = c.requires.may_come.within c.args.a c.requires.has_a in
    let in_b : c.args.b < length c.args.t.now.stamps.items = c.requires.may_come.within c.args.b c.requires.has_b in
    let size : length c.args.t.now.codes.items < 2 ^ 63 = search rules in
    let small : c.args.t.now.level + 2 < 2 ^ 64 = omega (arith, size, level_len c.args.t.now.stamps.items c.args.t.now.codes.items c.args.t.now.len c.args.t.now.head c.args.t.now.level c.requires.placed.trail, trail_len c.args.t.now.stamps.items c.args.t.now.codes.items c.args.t.now.len c.args.t.now.head c.args.t.now.level c.requires.placed.trail) in
    let one : 1 < length c.args.w.now.lists.lists = omega (arith, in_a, c.requires.placed.watched.lists, c.requires.may_come.named c.args.a c.requires.has_a) in
    let hung_now : IsHung c.args.w.now c.hang.new.w c.args.slot c.args.a c.args.b c.args.clause = record { holds = c.hang.ensures.holds; calm = c.hang.ensures.calm; literals = c.hang.ensures.literals; lists = c.hang.ensures.lists ∙ hung_lists c.args.w.now.lists.lists c.args.slot c.args.a c.args.b } in
    let k : IsComing c.args.w.now c.hang.new.w c.args.t.now c.args.slot c.args.a c.args.b c.args.clause = record {
      placed = c.requires.placed;
      room = room_of c.args.w.now c.args.t.now c.args.slot c.requires.placed c.requires.waiting one c.requires.once;
      may = c.requires.may_come;
      ranked = record { has_a = c.requires.has_a; has_b = c.requires.has_b; differ = c.requires.differ; first = c.requires.latest; second = c.requires.second; small = small };
      hung = hung_now;
    } in
    let at_b : c.neg.result < length c.args.t.now.stamps.items = rw c.neg.ensures (neg_below c.args.b (length c.args.t.now.stamps.items) in_b c.requires.placed.trail.even) in
    let read_b : c.index.result.now ≡ get_or c.args.t.now.stamps.items (neg_of c.args.b) 0 = rw (← c.neg.ensures) (get_or_read c.args.t.now.stamps.items c.neg.result c.index.result.now at_b c.index.ensures 0) in
    let at_a : c.neg-2.result < length c.args.t.now.stamps.items = rw c.neg-2.ensures (neg_below c.args.a (length c.args.t.now.stamps.items) in_a c.requires.placed.trail.even) in
    let read_a : c.index-2.result.now ≡ get_or c.args.t.now.stamps.items (neg_of c.args.a) 0 = rw (← c.neg-2.ensures) (get_or_read c.args.t.now.stamps.items c.neg-2.result c.index-2.result.now at_a c.index-2.ensures 0) in
    let read_o : c.index-3.result.now ≡ get_or c.args.t.now.stamps.items c.args.a 0 = get_or_read c.args.t.now.stamps.items c.args.a c.index-3.result.now in_a c.index-3.ensures 0 in
    let set_b : get_or c.args.t.now.stamps.items (neg_of c.args.b) 0 ≢ 0 = λ z. c.if-index-eq0.false (read_b ∙ z) in
    let free_a : get_or c.args.t.now.stamps.items (neg_of c.args.a) 0 ≡ 0 = omega (arith, read_a, c.if-index-ne0.false) in
    true_placed c.args.w.now c.hang.new.w c.args.t.now c.args.slot c.args.a c.args.b c.args.clause k set_b free_a (λ z. c.if-index-eq0-2.false (read_o ∙ z))

pub returns-else-index-eq0-2-clause-literals : goal.returns-else-index-eq0-2-clause-literals
returns-else-index-eq0-2-clause-literals c =
    let in_a : c.args.a < length c.args.t.now.stamps.items = c.requires.may_come.within c.args.a c.requires.has_a in
    let in_b : c.args.b < length c.args.t.now.stamps.items = c.requires.may_come.within c.args.b c.requires.has_b in
    let size : length c.args.t.now.codes.items < 2 ^ 63 = search rules in
    let small : c.args.t.now.level + 2 < 2 ^ 64 = omega (arith, size, level_len c.args.t.now.stamps.items c.args.t.now.codes.items c.args.t.now.len c.args.t.now.head c.args.t.now.level c.requires.placed.trail, trail_len c.args.t.now.stamps.items c.args.t.now.codes.items c.args.t.now.len c.args.t.now.head c.args.t.now.level c.requires.placed.trail) in
    let one : 1 < length c.args.w.now.lists.lists = omega (arith, in_a, c.requires.placed.watched.lists, c.requires.may_come.named c.args.a c.requires.has_a) in
    let hung_now : IsHung c.args.w.now c.hang.new.w c.args.slot c.args.a c.args.b c.args.clause = record { holds = c.hang.ensures.holds; calm = c.hang.ensures.calm; literals = c.hang.ensures.literals; lists = c.hang.ensures.lists ∙ hung_lists c.args.w.now.lists.lists c.args.slot c.args.a c.args.b } in
    let k : IsComing c.args.w.now c.hang.new.w c.args.t.now c.args.slot c.args.a c.args.b c.args.clause = record {
      placed = c.requires.placed;
      room = room_of c.args.w.now c.args.t.now c.args.slot c.requires.placed c.requires.waiting one c.requires.once;
      may = c.requires.may_come;
      ranked = record { has_a = c.requires.has_a; has_b = c.requires.has_b; differ = c.requires.differ; first = c.requires.latest; second = c.requires.second; small = small };
      hung = hung_now;
    } in
    let read_o : c.index-3.result.now ≡ get_or c.args.t.now.stamps.items c.args.a 0 = get_or_read c.args.t.now.stamps.items c.args.a c.index-3.result.now in_a c.index-3.ensures 0 in
    true_added c.args.w.now c.hang.new.w c.args.t.now c.args.slot c.args.a c.args.b c.args.clause c.args.id k (λ z. c.if-index-eq0-2.false (read_o ∙ z))
