use Rattle.std.proofs.Common.{ℕ, ◌≡◌, ◌≢◌, ◌*◌, ◌<◌, Some, length, get_or, [], ◌∷◌, sym, ap, ◌∙◌, arith}
use Rattle.std.proofs.Math.ListN.{length-set}
use Rattle.std.proofs.lemmas.List.{get_or_read, get_or-set_same}
use Rattle.cnf_base.specs.Clauses.{no_id}
use Rattle.cdcl_core.specs.declared.watches.Watches.{Watches}
use Rattle.cdcl_core.specs.declared.watches.Kind.TheVariants.{Free, Fixed, Parked}
use Rattle.cdcl_core.specs.Chains.{first_of}
use Rattle.cdcl_core.specs.Search.{literals_of, level_of}
use Rattle.cdcl_core.specs.Slots.{slot_in}
use Rattle.cdcl_core.specs.Stamps.{codes, Has}
use Rattle.cdcl_core.specs.Watched.{kind_at}
use Rattle.cdcl_core.specs.State.{all_codes, IsCleared}
use Rattle.cdcl_core.proofs.Apart.{fixed_not_free, fixed_not_watched, parked_not_free, parked_not_watched}
use Rattle.cdcl_core.proofs.Held.{not_held}
use Rattle.cdcl_core.proofs.Clauses.{clause_codes, codes_length}
use Rattle.cdcl_core.proofs.Naming.{placed_of}
use Rattle.cdcl_core.proofs.Dropping.{same_cleared, cleared_counts, IsGivenUp, given_up_placed}
use Rattle.cdcl_core.proofs.Parking.{IsTurned, none_kept, already_held, turned_settled, turned_kept, turned_held, turned_others, false_apart, slot_codes, may_wake, IsWoken, woken_settled, woken_kept, woken_held, woken_others, added_extended}
use Rattle.cdcl_core.proofs.watches.Watches.wake.Goals as goal

pub returns-in_default-clause-held : goal.returns-in_default-clause-held
returns-in_default-clause-held c =
    let none = none_kept c.args.self.now c.args.id (sym c.in_default.ensures) in
    not_held c.args.self.now c.args.id none ∙ sym none

pub returns-in_default-index-clause-held : goal.returns-in_default-index-clause-held
returns-in_default-index-clause-held c =
    let w = c.args.self.now in
    let t = c.args.trail.now in
    let s = c.in-Some.slot in
    let found : slot_in w.slots c.args.id ≡ Some s = sym c.in-Some.ensures in
    let high : s < length w.kinds.items = c.requires.settled.named.high c.args.id s found in
    let within : s < length w.clauses.items = omega (arith, high, c.requires.settled.watched.clauses, codes_length w.clauses.items) in
    already_held w t s c.args.id c.requires.settled found (λ e. c.in_default-index.not-Parked (get_or_read w.kinds.items s c.index.result.now high c.index.ensures Free ∙ e))

pub is_satisfied-requires : goal.is_satisfied-requires
is_satisfied-requires c =
    let w = c.args.self.now in
    let t = c.args.trail.now in
    let s = c.in-Some.slot in
    let found : slot_in w.slots c.args.id ≡ Some s = sym c.in-Some.ensures in
    let high : s < length w.kinds.items = c.requires.settled.named.high c.args.id s found in
    let within : s < length w.clauses.items = omega (arith, high, c.requires.settled.watched.clauses, codes_length w.clauses.items) in
    let read : codes c.literals.result.now ≡ get_or (all_codes w.clauses.items) s [] = ap codes c.literals.ensures ∙ clause_codes w.clauses.items s c.index-2.result.now within c.index-2.ensures in
    record { within = λ l h. rw c.as_slice.ensures.value (c.requires.settled.watched.within s l (rw read at h)) }

pub returns-then-is_satisfied-clause-settled : goal.returns-then-is_satisfied-clause-settled
returns-then-is_satisfied-clause-settled c =
    let w = c.args.self.now in
    let t = c.args.trail.now in
    let s = c.in-Some.slot in
    let found : slot_in w.slots c.args.id ≡ Some s = sym c.in-Some.ensures in
    let high : s < length w.kinds.items = c.requires.settled.named.high c.args.id s found in
    let within : s < length w.clauses.items = omega (arith, high, c.requires.settled.watched.clauses, codes_length w.clauses.items) in
    let kind : kind_at w.kinds.items s ≡ Parked = sym (get_or_read w.kinds.items s c.index.result.now high c.index.ensures Free) ∙ c.in-Parked.is in
    let cleared : IsCleared w.lists w.lists s = same_cleared w t s (placed_of w t c.requires.settled) (λ e. parked_not_free (sym kind ∙ e)) (λ e. parked_not_watched (sym kind ∙ e)) in
    let read : codes c.literals.result.now ≡ get_or (all_codes w.clauses.items) s [] = ap codes c.literals.ensures ∙ clause_codes w.clauses.items s c.index-2.result.now within c.index-2.ensures in
    let value : (l : ℕ) × (Has (get_or (all_codes w.clauses.items) s []) l × (get_or t.stamps.items l 0 ≡ 1)) =
    (let a : (l : ℕ) × (Has (codes c.literals.result.now) l × (get_or c.as_slice.result.now l 0 ≡ 1)) = c.is_satisfied.ensures.satisfied c.if-is_satisfied.true in
    (a.0, (rw (← read) a.1.0, rw (← c.as_slice.ensures.value) a.1.1))) in
    let u : IsTurned w c.set_kind.new.w t s c.args.id Fixed = record {
      settled = c.requires.settled;
      level = c.requires.level;
      found = found;
      live = fixed_not_free;
      unwatched = fixed_not_watched;
      value = λ _. value;
      cleared = rw (ap (λ (x : Watches). x.lists) c.set_kind.ensures.same) cleared;
      kinds = c.set_kind.ensures.kinds;
      clauses = ap (λ (x : Watches). x.clauses) c.set_kind.ensures.same;
      ids = ap (λ (x : Watches). x.ids) c.set_kind.ensures.same;
      slots = ap (λ (x : Watches). x.slots) c.set_kind.ensures.same;
      calm = ap (λ (x : Watches). x.refuted) c.set_kind.ensures.same;
    } in
    turned_settled w c.set_kind.new.w t s c.args.id Fixed u

pub returns-then-is_satisfied-clause-held : goal.returns-then-is_satisfied-clause-held
returns-then-is_satisfied-clause-held c =
    let w = c.args.self.now in
    let t = c.args.trail.now in
    let s = c.in-Some.slot in
    let found : slot_in w.slots c.args.id ≡ Some s = sym c.in-Some.ensures in
    let high : s < length w.kinds.items = c.requires.settled.named.high c.args.id s found in
    let within : s < length w.clauses.items = omega (arith, high, c.requires.settled.watched.clauses, codes_length w.clauses.items) in
    let kind : kind_at w.kinds.items s ≡ Parked = sym (get_or_read w.kinds.items s c.index.result.now high c.index.ensures Free) ∙ c.in-Parked.is in
    let cleared : IsCleared w.lists w.lists s = same_cleared w t s (placed_of w t c.requires.settled) (λ e. parked_not_free (sym kind ∙ e)) (λ e. parked_not_watched (sym kind ∙ e)) in
    let read : codes c.literals.result.now ≡ get_or (all_codes w.clauses.items) s [] = ap codes c.literals.ensures ∙ clause_codes w.clauses.items s c.index-2.result.now within c.index-2.ensures in
    let value : (l : ℕ) × (Has (get_or (all_codes w.clauses.items) s []) l × (get_or t.stamps.items l 0 ≡ 1)) =
    (let a : (l : ℕ) × (Has (codes c.literals.result.now) l × (get_or c.as_slice.result.now l 0 ≡ 1)) = c.is_satisfied.ensures.satisfied c.if-is_satisfied.true in
    (a.0, (rw (← read) a.1.0, rw (← c.as_slice.ensures.value) a.1.1))) in
    let u : IsTurned w c.set_kind.new.w t s c.args.id Fixed = record {
      settled = c.requires.settled;
      level = c.requires.level;
      found = found;
      live = fixed_not_free;
      unwatched = fixed_not_watched;
      value = λ _. value;
      cleared = rw (ap (λ (x : Watches). x.lists) c.set_kind.ensures.same) cleared;
      kinds = c.set_kind.ensures.kinds;
      clauses = ap (λ (x : Watches). x.clauses) c.set_kind.ensures.same;
      ids = ap (λ (x : Watches). x.ids) c.set_kind.ensures.same;
      slots = ap (λ (x : Watches). x.slots) c.set_kind.ensures.same;
      calm = ap (λ (x : Watches). x.refuted) c.set_kind.ensures.same;
    } in
    turned_held w c.set_kind.new.w t s c.args.id Fixed u

pub returns-then-is_satisfied-clause-kept : goal.returns-then-is_satisfied-clause-kept
returns-then-is_satisfied-clause-kept c =
    let w = c.args.self.now in
    let t = c.args.trail.now in
    let s = c.in-Some.slot in
    let found : slot_in w.slots c.args.id ≡ Some s = sym c.in-Some.ensures in
    let high : s < length w.kinds.items = c.requires.settled.named.high c.args.id s found in
    let within : s < length w.clauses.items = omega (arith, high, c.requires.settled.watched.clauses, codes_length w.clauses.items) in
    let kind : kind_at w.kinds.items s ≡ Parked = sym (get_or_read w.kinds.items s c.index.result.now high c.index.ensures Free) ∙ c.in-Parked.is in
    let cleared : IsCleared w.lists w.lists s = same_cleared w t s (placed_of w t c.requires.settled) (λ e. parked_not_free (sym kind ∙ e)) (λ e. parked_not_watched (sym kind ∙ e)) in
    let read : codes c.literals.result.now ≡ get_or (all_codes w.clauses.items) s [] = ap codes c.literals.ensures ∙ clause_codes w.clauses.items s c.index-2.result.now within c.index-2.ensures in
    let value : (l : ℕ) × (Has (get_or (all_codes w.clauses.items) s []) l × (get_or t.stamps.items l 0 ≡ 1)) =
    (let a : (l : ℕ) × (Has (codes c.literals.result.now) l × (get_or c.as_slice.result.now l 0 ≡ 1)) = c.is_satisfied.ensures.satisfied c.if-is_satisfied.true in
    (a.0, (rw (← read) a.1.0, rw (← c.as_slice.ensures.value) a.1.1))) in
    let u : IsTurned w c.set_kind.new.w t s c.args.id Fixed = record {
      settled = c.requires.settled;
      level = c.requires.level;
      found = found;
      live = fixed_not_free;
      unwatched = fixed_not_watched;
      value = λ _. value;
      cleared = rw (ap (λ (x : Watches). x.lists) c.set_kind.ensures.same) cleared;
      kinds = c.set_kind.ensures.kinds;
      clauses = ap (λ (x : Watches). x.clauses) c.set_kind.ensures.same;
      ids = ap (λ (x : Watches). x.ids) c.set_kind.ensures.same;
      slots = ap (λ (x : Watches). x.slots) c.set_kind.ensures.same;
      calm = ap (λ (x : Watches). x.refuted) c.set_kind.ensures.same;
    } in
    λ q. turned_kept w c.set_kind.new.w t s c.args.id Fixed q u

pub returns-then-is_satisfied-clause-others : goal.returns-then-is_satisfied-clause-others
returns-then-is_satisfied-clause-others c =
    let w = c.args.self.now in
    let t = c.args.trail.now in
    let s = c.in-Some.slot in
    let found : slot_in w.slots c.args.id ≡ Some s = sym c.in-Some.ensures in
    let high : s < length w.kinds.items = c.requires.settled.named.high c.args.id s found in
    let within : s < length w.clauses.items = omega (arith, high, c.requires.settled.watched.clauses, codes_length w.clauses.items) in
    let kind : kind_at w.kinds.items s ≡ Parked = sym (get_or_read w.kinds.items s c.index.result.now high c.index.ensures Free) ∙ c.in-Parked.is in
    let cleared : IsCleared w.lists w.lists s = same_cleared w t s (placed_of w t c.requires.settled) (λ e. parked_not_free (sym kind ∙ e)) (λ e. parked_not_watched (sym kind ∙ e)) in
    let read : codes c.literals.result.now ≡ get_or (all_codes w.clauses.items) s [] = ap codes c.literals.ensures ∙ clause_codes w.clauses.items s c.index-2.result.now within c.index-2.ensures in
    let value : (l : ℕ) × (Has (get_or (all_codes w.clauses.items) s []) l × (get_or t.stamps.items l 0 ≡ 1)) =
    (let a : (l : ℕ) × (Has (codes c.literals.result.now) l × (get_or c.as_slice.result.now l 0 ≡ 1)) = c.is_satisfied.ensures.satisfied c.if-is_satisfied.true in
    (a.0, (rw (← read) a.1.0, rw (← c.as_slice.ensures.value) a.1.1))) in
    let u : IsTurned w c.set_kind.new.w t s c.args.id Fixed = record {
      settled = c.requires.settled;
      level = c.requires.level;
      found = found;
      live = fixed_not_free;
      unwatched = fixed_not_watched;
      value = λ _. value;
      cleared = rw (ap (λ (x : Watches). x.lists) c.set_kind.ensures.same) cleared;
      kinds = c.set_kind.ensures.kinds;
      clauses = ap (λ (x : Watches). x.clauses) c.set_kind.ensures.same;
      ids = ap (λ (x : Watches). x.ids) c.set_kind.ensures.same;
      slots = ap (λ (x : Watches). x.slots) c.set_kind.ensures.same;
      calm = ap (λ (x : Watches). x.refuted) c.set_kind.ensures.same;
    } in
    λ q ne. turned_others w c.set_kind.new.w t s c.args.id Fixed q u ne

pub give_up-clause-requires-clause-idle : goal.give_up-clause-requires-clause-idle
give_up-clause-requires-clause-idle c =
    let w = c.args.self.now in
    let t = c.args.trail.now in
    let s = c.in-Some.slot in
    let found : slot_in w.slots c.args.id ≡ Some s = sym c.in-Some.ensures in
    let high : s < length w.kinds.items = c.requires.settled.named.high c.args.id s found in
    let within : s < length w.clauses.items = omega (arith, high, c.requires.settled.watched.clauses, codes_length w.clauses.items) in
    let kind : kind_at w.kinds.items s ≡ Parked = sym (get_or_read w.kinds.items s c.index.result.now high c.index.ensures Free) ∙ c.in-Parked.is in
    let cleared : IsCleared w.lists w.lists s = same_cleared w t s (placed_of w t c.requires.settled) (λ e. parked_not_free (sym kind ∙ e)) (λ e. parked_not_watched (sym kind ∙ e)) in
    cleared_counts w.lists w.lists s cleared

pub give_up-clause-requires-clause-places : goal.give_up-clause-requires-clause-places
give_up-clause-requires-clause-places c =
    let w = c.args.self.now in
    let t = c.args.trail.now in
    let s = c.in-Some.slot in
    let found : slot_in w.slots c.args.id ≡ Some s = sym c.in-Some.ensures in
    let high : s < length w.kinds.items = c.requires.settled.named.high c.args.id s found in
    let within : s < length w.clauses.items = omega (arith, high, c.requires.settled.watched.clauses, codes_length w.clauses.items) in
    omega (arith, high, c.requires.settled.watched.slots)

pub hold-requires-clause-placed : goal.hold-requires-clause-placed
hold-requires-clause-placed c =
    let w = c.args.self.now in
    let t = c.args.trail.now in
    let s = c.in-Some.slot in
    let found : slot_in w.slots c.args.id ≡ Some s = sym c.in-Some.ensures in
    let high : s < length w.kinds.items = c.requires.settled.named.high c.args.id s found in
    let within : s < length w.clauses.items = omega (arith, high, c.requires.settled.watched.clauses, codes_length w.clauses.items) in
    let kind : kind_at w.kinds.items s ≡ Parked = sym (get_or_read w.kinds.items s c.index.result.now high c.index.ensures Free) ∙ c.in-Parked.is in
    let cleared : IsCleared w.lists w.lists s = same_cleared w t s (placed_of w t c.requires.settled) (λ e. parked_not_free (sym kind ∙ e)) (λ e. parked_not_watched (sym kind ∙ e)) in
    let read : codes c.literals.result.now ≡ get_or (all_codes w.clauses.items) s [] = ap codes c.literals.ensures ∙ clause_codes w.clauses.items s c.index-2.result.now within c.index-2.ensures in
    let none : (l : ℕ) → Has (get_or (all_codes w.clauses.items) s []) l → get_or t.stamps.items l 0 ≢ 1 = λ l h e. c.is_satisfied.ensures.not_satisfied c.if-is_satisfied.false l (rw read h) (rw c.as_slice.ensures.value e) in
    let g : IsGivenUp w c.give_up-clause.new.w w.lists t s = record {
      settled = c.requires.settled;
      low = c.requires.settled.named.low c.args.id s found;
      high = high;
      apart = false_apart w t s c.requires.settled none c.requires.level;
      cleared = cleared;
      kinds = c.give_up-clause.ensures.kinds;
      clauses = c.give_up-clause.ensures.clauses;
      ids = c.give_up-clause.ensures.ids;
      calm = c.give_up-clause.ensures.calm;
      literals = c.give_up-clause.ensures.literals;
      lists = c.give_up-clause.ensures.lists;
    } in
    given_up_placed w c.give_up-clause.new.w w.lists t s g

pub hold-requires-clause-waiting : goal.hold-requires-clause-waiting
hold-requires-clause-waiting c =
    let w = c.args.self.now in
    let t = c.args.trail.now in
    let s = c.in-Some.slot in
    let found : slot_in w.slots c.args.id ≡ Some s = sym c.in-Some.ensures in
    let high : s < length w.kinds.items = c.requires.settled.named.high c.args.id s found in
    let within : s < length w.clauses.items = omega (arith, high, c.requires.settled.watched.clauses, codes_length w.clauses.items) in
    record {
      low = c.requires.settled.named.low c.args.id s found;
      high = rw (c.give_up-clause.ensures.kinds, length-set) high;
      free = rw c.give_up-clause.ensures.kinds (get_or-set_same w.kinds.items s Free Free high);
      first = rw c.give_up-clause.ensures.lists (ap first_of (get_or-set_same w.lists.lists 1 (2 * s ∷ get_or w.lists.lists 1 []) [] (omega (arith, c.requires.settled.watched.lists))));
    }

pub hold-requires-clause-may_come : goal.hold-requires-clause-may_come
hold-requires-clause-may_come c =
    let w = c.args.self.now in
    let t = c.args.trail.now in
    let s = c.in-Some.slot in
    let found : slot_in w.slots c.args.id ≡ Some s = sym c.in-Some.ensures in
    let high : s < length w.kinds.items = c.requires.settled.named.high c.args.id s found in
    let within : s < length w.clauses.items = omega (arith, high, c.requires.settled.watched.clauses, codes_length w.clauses.items) in
    may_wake w t s c.give_up-clause.result c.requires.settled c.requires.level (slot_codes w s c.give_up-clause.result within c.give_up-clause.ensures.clause)

pub hold-requires-clause-name : goal.hold-requires-clause-name
hold-requires-clause-name c =
    let w = c.args.self.now in
    let t = c.args.trail.now in
    let s = c.in-Some.slot in
    let found : slot_in w.slots c.args.id ≡ Some s = sym c.in-Some.ensures in
    let high : s < length w.kinds.items = c.requires.settled.named.high c.args.id s found in
    let within : s < length w.clauses.items = omega (arith, high, c.requires.settled.watched.clauses, codes_length w.clauses.items) in
    let named : s < length w.ids.items = omega (arith, high, c.requires.settled.named.rows) in
    rw c.give_up-clause.ensures.ids (sym (get_or_read w.ids.items s c.index-name.result.now named c.index-name.ensures no_id))

pub hold-requires-clause-lists : goal.hold-requires-clause-lists
hold-requires-clause-lists c =
    let w = c.args.self.now in
    let t = c.args.trail.now in
    let s = c.in-Some.slot in
    let found : slot_in w.slots c.args.id ≡ Some s = sym c.in-Some.ensures in
    let high : s < length w.kinds.items = c.requires.settled.named.high c.args.id s found in
    let within : s < length w.clauses.items = omega (arith, high, c.requires.settled.watched.clauses, codes_length w.clauses.items) in
    rw (c.give_up-clause.ensures.lists, length-set) (omega (arith, c.requires.settled.watched.lists))

pub returns-clause-settled : goal.returns-clause-settled
returns-clause-settled c =
    let w = c.args.self.now in
    let t = c.args.trail.now in
    let s = c.in-Some.slot in
    let found : slot_in w.slots c.args.id ≡ Some s = sym c.in-Some.ensures in
    let high : s < length w.kinds.items = c.requires.settled.named.high c.args.id s found in
    let within : s < length w.clauses.items = omega (arith, high, c.requires.settled.watched.clauses, codes_length w.clauses.items) in
    let m : IsWoken w c.give_up-clause.new.w c.hold.new.w t c.hold.new.t s c.args.id c.give_up-clause.result = record {
      settled = c.requires.settled;
      found = found;
      clause = c.give_up-clause.ensures.clause;
      kinds = c.give_up-clause.ensures.kinds;
      clauses = c.give_up-clause.ensures.clauses;
      ids = c.give_up-clause.ensures.ids;
      slots = c.give_up-clause.ensures.slots;
      placed = c.hold.ensures.placed;
      holds = c.hold.ensures.holds;
    } in
    woken_settled w c.give_up-clause.new.w c.hold.new.w t c.hold.new.t s c.args.id c.give_up-clause.result m

pub returns-clause-held : goal.returns-clause-held
returns-clause-held c =
    let w = c.args.self.now in
    let t = c.args.trail.now in
    let s = c.in-Some.slot in
    let found : slot_in w.slots c.args.id ≡ Some s = sym c.in-Some.ensures in
    let high : s < length w.kinds.items = c.requires.settled.named.high c.args.id s found in
    let within : s < length w.clauses.items = omega (arith, high, c.requires.settled.watched.clauses, codes_length w.clauses.items) in
    let m : IsWoken w c.give_up-clause.new.w c.hold.new.w t c.hold.new.t s c.args.id c.give_up-clause.result = record {
      settled = c.requires.settled;
      found = found;
      clause = c.give_up-clause.ensures.clause;
      kinds = c.give_up-clause.ensures.kinds;
      clauses = c.give_up-clause.ensures.clauses;
      ids = c.give_up-clause.ensures.ids;
      slots = c.give_up-clause.ensures.slots;
      placed = c.hold.ensures.placed;
      holds = c.hold.ensures.holds;
    } in
    woken_held w c.give_up-clause.new.w c.hold.new.w t c.hold.new.t s c.args.id c.give_up-clause.result m

pub returns-clause-kept : goal.returns-clause-kept
returns-clause-kept c =
    let w = c.args.self.now in
    let t = c.args.trail.now in
    let s = c.in-Some.slot in
    let found : slot_in w.slots c.args.id ≡ Some s = sym c.in-Some.ensures in
    let high : s < length w.kinds.items = c.requires.settled.named.high c.args.id s found in
    let within : s < length w.clauses.items = omega (arith, high, c.requires.settled.watched.clauses, codes_length w.clauses.items) in
    let m : IsWoken w c.give_up-clause.new.w c.hold.new.w t c.hold.new.t s c.args.id c.give_up-clause.result = record {
      settled = c.requires.settled;
      found = found;
      clause = c.give_up-clause.ensures.clause;
      kinds = c.give_up-clause.ensures.kinds;
      clauses = c.give_up-clause.ensures.clauses;
      ids = c.give_up-clause.ensures.ids;
      slots = c.give_up-clause.ensures.slots;
      placed = c.hold.ensures.placed;
      holds = c.hold.ensures.holds;
    } in
    woken_kept w c.give_up-clause.new.w c.hold.new.w t c.hold.new.t s c.args.id c.give_up-clause.result m

pub returns-clause-others : goal.returns-clause-others
returns-clause-others c =
    let w = c.args.self.now in
    let t = c.args.trail.now in
    let s = c.in-Some.slot in
    let found : slot_in w.slots c.args.id ≡ Some s = sym c.in-Some.ensures in
    let high : s < length w.kinds.items = c.requires.settled.named.high c.args.id s found in
    let within : s < length w.clauses.items = omega (arith, high, c.requires.settled.watched.clauses, codes_length w.clauses.items) in
    let m : IsWoken w c.give_up-clause.new.w c.hold.new.w t c.hold.new.t s c.args.id c.give_up-clause.result = record {
      settled = c.requires.settled;
      found = found;
      clause = c.give_up-clause.ensures.clause;
      kinds = c.give_up-clause.ensures.kinds;
      clauses = c.give_up-clause.ensures.clauses;
      ids = c.give_up-clause.ensures.ids;
      slots = c.give_up-clause.ensures.slots;
      placed = c.hold.ensures.placed;
      holds = c.hold.ensures.holds;
    } in
    woken_others w c.give_up-clause.new.w c.hold.new.w t c.hold.new.t s c.args.id c.give_up-clause.result m

pub returns-clause-literals : goal.returns-clause-literals
returns-clause-literals c =
    rw c.requires.level at (added_extended (literals_of c.args.trail.now) (literals_of c.hold.new.t) (level_of c.args.trail.now) c.index-name.result.now c.give_up-clause.result c.hold.ensures.literals)
