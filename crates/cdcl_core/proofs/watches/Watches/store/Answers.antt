use Rattle.std.proofs.Common.{None, ◌≡◌, rules, ℕ, ◌*◌, ◌<◌, ◌≤◌, false, length, refl, ◌∙◌, arith}
use Rattle.cnf_base.specs.Literals.{code_of}
use Rattle.cdcl_core.specs.declared.watches.Kind.TheVariants.{Parked}
use Rattle.cdcl_core.specs.Stamps.{codes, Has}
use Rattle.cdcl_core.specs.Search.{clause_of}
use Rattle.cdcl_core.specs.State.{IsPropagated, IsWaiting}
use Rattle.cdcl_core.proofs.Apart.{parked_not_free, parked_not_watched, parked_not_fixed}
use Rattle.cdcl_core.proofs.Clauses.{codes_length}
use Rattle.cdcl_core.proofs.Bridge.{has_from}
use Rattle.cdcl_core.proofs.Naming.{IsStored, stored_settled, stored_kept, stored_held, stored_others, unnamed_settled, unnamed_kept, unnamed_held}
use Rattle.cdcl_core.proofs.Fixing.{seated_placed}
use Rattle.cdcl_core.proofs.watches.Watches.store.Goals as goal

pub returns-in_err-name_slot-clause-settled : goal.returns-in_err-name_slot-clause-settled
returns-in_err-name_slot-clause-settled c = unnamed_settled c.free_slot.new.w c.name_slot.new.w c.reserve.new.trail c.free_slot.ensures.settled c.name_slot.ensures.lists c.name_slot.ensures.kinds c.name_slot.ensures.clauses c.in_err-name_slot.ensures.err_ids c.name_slot.ensures.calm c.in_err-name_slot.ensures.err_slots

pub returns-in_err-name_slot-clause-others : goal.returns-in_err-name_slot-clause-others
returns-in_err-name_slot-clause-others c = λ q ne. unnamed_kept c.free_slot.new.w c.name_slot.new.w q c.name_slot.ensures.clauses c.in_err-name_slot.ensures.err_slots ∙ (c.free_slot.ensures.kept q ∙ c.reserve.ensures.kept q)

pub returns-in_err-name_slot-clause-not_kept : goal.returns-in_err-name_slot-clause-not_kept
returns-in_err-name_slot-clause-not_kept c =
    let gone : clause_of c.name_slot.new.w c.args.id ≡ None = unnamed_kept c.free_slot.new.w c.name_slot.new.w c.args.id c.name_slot.ensures.clauses c.in_err-name_slot.ensures.err_slots ∙ (c.free_slot.ensures.kept c.args.id ∙ (c.reserve.ensures.kept c.args.id ∙ c.requires.fresh)) in
    search rules

pub returns-in_err-name_slot-clause-others_held : goal.returns-in_err-name_slot-clause-others_held
returns-in_err-name_slot-clause-others_held c = λ q ne. unnamed_held c.free_slot.new.w c.name_slot.new.w q c.name_slot.ensures.kinds c.name_slot.ensures.clauses c.in_err-name_slot.ensures.err_slots ∙ (c.free_slot.ensures.held q ∙ c.reserve.ensures.held q)

pub seat-requires-clause-rows : goal.seat-requires-clause-rows
seat-requires-clause-rows c = rw c.name_slot.ensures.clauses (omega (arith, c.in_ok-slot.ensures.waiting.high, c.free_slot.ensures.settled.watched.clauses, codes_length c.free_slot.new.w.clauses.items))

pub returns-clause-settled : goal.returns-clause-settled
returns-clause-settled c =
    let clause_named : (m : ℕ) → Has (codes c.args.clause) m → 2 ≤ m = λ m h. c.bound_of-bound.ensures.named m (rw c.literals.ensures h) in
    let clause_within : (m : ℕ) → Has (codes c.args.clause) m → m < length c.reserve.new.trail.stamps.items = λ m h. (let below : m < 2 * c.bound_of-bound.result = c.bound_of-bound.ensures.below m (rw c.literals.ensures h) in omega (arith, below, c.in_ok-reserve.ensures.rows)) in
    let wait : IsWaiting c.name_slot.new.w c.in_ok-slot.slot = record {
      low = c.in_ok-slot.ensures.waiting.low;
      high = rw c.name_slot.ensures.kinds c.in_ok-slot.ensures.waiting.high;
      free = rw c.name_slot.ensures.kinds c.in_ok-slot.ensures.waiting.free;
      first = rw c.name_slot.ensures.lists c.in_ok-slot.ensures.waiting.first;
    } in
    let u : IsStored c.free_slot.new.w c.name_slot.new.w c.seat.new.w c.reserve.new.trail c.in_ok-slot.slot c.args.id c.args.clause Parked = record {
      settled = c.free_slot.ensures.settled;
      waiting = c.in_ok-slot.ensures.waiting;
      fresh = c.free_slot.ensures.kept c.args.id ∙ (c.reserve.ensures.kept c.args.id ∙ c.requires.fresh);
      named = c.in_ok-name_slot.ensures.named;
      ids = c.in_ok-name_slot.ensures.ids;
      kinds = c.name_slot.ensures.kinds;
      clauses = c.name_slot.ensures.clauses;
      live = parked_not_free;
      holds = c.seat.ensures.holds;
    } in
    stored_settled c.free_slot.new.w c.name_slot.new.w c.seat.new.w c.reserve.new.trail c.reserve.new.trail c.in_ok-slot.slot c.args.id c.args.clause Parked u
    (seated_placed c.name_slot.new.w c.seat.new.w c.reserve.new.trail c.in_ok-slot.slot Parked c.args.clause parked_not_watched (λ e. absurd (parked_not_fixed e)) c.in_ok-name_slot.ensures.placed wait (rw c.name_slot.ensures.lists c.free_slot.ensures.lists) (λ q. rw c.name_slot.ensures.lists (c.in_ok-slot.ensures.once q)) clause_named clause_within c.seat.ensures.holds c.seat.ensures.calm c.seat.ensures.literals c.seat.ensures.lists)

pub returns-clause-kept : goal.returns-clause-kept
returns-clause-kept c =
    let u : IsStored c.free_slot.new.w c.name_slot.new.w c.seat.new.w c.reserve.new.trail c.in_ok-slot.slot c.args.id c.args.clause Parked = record {
      settled = c.free_slot.ensures.settled;
      waiting = c.in_ok-slot.ensures.waiting;
      fresh = c.free_slot.ensures.kept c.args.id ∙ (c.reserve.ensures.kept c.args.id ∙ c.requires.fresh);
      named = c.in_ok-name_slot.ensures.named;
      ids = c.in_ok-name_slot.ensures.ids;
      kinds = c.name_slot.ensures.kinds;
      clauses = c.name_slot.ensures.clauses;
      live = parked_not_free;
      holds = c.seat.ensures.holds;
    } in
    stored_kept c.free_slot.new.w c.name_slot.new.w c.seat.new.w c.reserve.new.trail c.in_ok-slot.slot c.args.id c.args.clause Parked u

pub returns-clause-parked : goal.returns-clause-parked
returns-clause-parked c =
    let u : IsStored c.free_slot.new.w c.name_slot.new.w c.seat.new.w c.reserve.new.trail c.in_ok-slot.slot c.args.id c.args.clause Parked = record {
      settled = c.free_slot.ensures.settled;
      waiting = c.in_ok-slot.ensures.waiting;
      fresh = c.free_slot.ensures.kept c.args.id ∙ (c.reserve.ensures.kept c.args.id ∙ c.requires.fresh);
      named = c.in_ok-name_slot.ensures.named;
      ids = c.in_ok-name_slot.ensures.ids;
      kinds = c.name_slot.ensures.kinds;
      clauses = c.name_slot.ensures.clauses;
      live = parked_not_free;
      holds = c.seat.ensures.holds;
    } in
    stored_held c.free_slot.new.w c.name_slot.new.w c.seat.new.w c.reserve.new.trail c.in_ok-slot.slot c.args.id c.args.clause Parked false u refl

pub returns-clause-others : goal.returns-clause-others
returns-clause-others c =
    let u : IsStored c.free_slot.new.w c.name_slot.new.w c.seat.new.w c.reserve.new.trail c.in_ok-slot.slot c.args.id c.args.clause Parked = record {
      settled = c.free_slot.ensures.settled;
      waiting = c.in_ok-slot.ensures.waiting;
      fresh = c.free_slot.ensures.kept c.args.id ∙ (c.reserve.ensures.kept c.args.id ∙ c.requires.fresh);
      named = c.in_ok-name_slot.ensures.named;
      ids = c.in_ok-name_slot.ensures.ids;
      kinds = c.name_slot.ensures.kinds;
      clauses = c.name_slot.ensures.clauses;
      live = parked_not_free;
      holds = c.seat.ensures.holds;
    } in
    λ q ne. (stored_others c.free_slot.new.w c.name_slot.new.w c.seat.new.w c.reserve.new.trail c.in_ok-slot.slot c.args.id c.args.clause Parked q u ne).0 ∙ (c.free_slot.ensures.kept q ∙ c.reserve.ensures.kept q)

pub returns-clause-others_held : goal.returns-clause-others_held
returns-clause-others_held c =
    let u : IsStored c.free_slot.new.w c.name_slot.new.w c.seat.new.w c.reserve.new.trail c.in_ok-slot.slot c.args.id c.args.clause Parked = record {
      settled = c.free_slot.ensures.settled;
      waiting = c.in_ok-slot.ensures.waiting;
      fresh = c.free_slot.ensures.kept c.args.id ∙ (c.reserve.ensures.kept c.args.id ∙ c.requires.fresh);
      named = c.in_ok-name_slot.ensures.named;
      ids = c.in_ok-name_slot.ensures.ids;
      kinds = c.name_slot.ensures.kinds;
      clauses = c.name_slot.ensures.clauses;
      live = parked_not_free;
      holds = c.seat.ensures.holds;
    } in
    λ q ne. (stored_others c.free_slot.new.w c.name_slot.new.w c.seat.new.w c.reserve.new.trail c.in_ok-slot.slot c.args.id c.args.clause Parked q u ne).1 ∙ (c.free_slot.ensures.held q ∙ c.reserve.ensures.held q)

pub returns-clause-known : goal.returns-clause-known
returns-clause-known c = λ l h.
    let below : code_of l < 2 * c.bound_of-bound.result = c.bound_of-bound.ensures.below (code_of l) (rw c.literals.ensures (has_from c.args.clause l h)) in
    omega (arith, below, c.in_ok-reserve.ensures.rows)

pub returns-clause-propagated : goal.returns-clause-propagated
returns-clause-propagated c = λ p.
    let now : IsPropagated c.reserve.new.self c.reserve.new.trail = c.reserve.ensures.propagated p in
    (now.0, c.seat.ensures.calm ∙ (c.name_slot.ensures.calm ∙ (c.free_slot.ensures.calm ∙ now.1)))
