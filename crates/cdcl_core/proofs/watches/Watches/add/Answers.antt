use Rattle.std.proofs.Common.{None, ◌≡◌, rules, ◌*◌, ◌<◌, true, ◌∙◌, arith}
use Rattle.cnf_base.specs.Literals.{code_of}
use Rattle.cdcl_core.specs.Search.{clause_of}
use Rattle.cdcl_core.specs.State.{IsPropagated}
use Rattle.cdcl_core.proofs.Held.{held_live}
use Rattle.cdcl_core.proofs.Bridge.{rows_rest, has_from}
use Rattle.cdcl_core.proofs.Naming.{IsStored, stored_settled, stored_kept, stored_held, stored_others, unnamed_settled, unnamed_kept, unnamed_held}
use Rattle.cdcl_core.proofs.watches.Watches.add.Goals as goal

pub returns-in_err-name-clause-settled : goal.returns-in_err-name-clause-settled
returns-in_err-name-clause-settled c = unnamed_settled c.free_slot.new.w c.name_slot.new.w c.reserve.new.trail c.free_slot.ensures.settled c.name_slot.ensures.lists c.name_slot.ensures.kinds c.name_slot.ensures.clauses c.in_err-name.ensures.err_ids c.name_slot.ensures.calm c.in_err-name.ensures.err_slots

pub returns-in_err-name-clause-others : goal.returns-in_err-name-clause-others
returns-in_err-name-clause-others c = λ q ne. unnamed_kept c.free_slot.new.w c.name_slot.new.w q c.name_slot.ensures.clauses c.in_err-name.ensures.err_slots ∙ (c.free_slot.ensures.kept q ∙ c.reserve.ensures.kept q)

pub returns-in_err-name-clause-not_kept : goal.returns-in_err-name-clause-not_kept
returns-in_err-name-clause-not_kept c =
    let gone : clause_of c.name_slot.new.w c.args.id ≡ None = unnamed_kept c.free_slot.new.w c.name_slot.new.w c.args.id c.name_slot.ensures.clauses c.in_err-name.ensures.err_slots ∙ (c.free_slot.ensures.kept c.args.id ∙ (c.reserve.ensures.kept c.args.id ∙ c.requires.fresh)) in
    search rules

pub returns-in_err-name-clause-others_held : goal.returns-in_err-name-clause-others_held
returns-in_err-name-clause-others_held c = λ q ne. unnamed_held c.free_slot.new.w c.name_slot.new.w q c.name_slot.ensures.kinds c.name_slot.ensures.clauses c.in_err-name.ensures.err_slots ∙ (c.free_slot.ensures.held q ∙ c.reserve.ensures.held q)

pub admit-requires-clause-may_come : goal.admit-requires-clause-may_come
admit-requires-clause-may_come c = record {
  named = λ m h. c.bound_of-bound.ensures.named m (rw c.literals.ensures h);
  within = λ m h. let below : m < 2 * c.bound_of-bound.result = c.bound_of-bound.ensures.below m (rw c.literals.ensures h) in omega (arith, below, c.in_ok-reserve.ensures.rows);
  rests = λ j h. rows_rest c.reserve.new.trail j c.args.clause c.reserve.ensures.settled.trail c.reserve.ensures.settled.shown (rw c.reserve.ensures.literals (c.requires.rests j (rw c.reserve.ensures.level at h)));
}

pub returns-clause-settled : goal.returns-clause-settled
returns-clause-settled c =
    let u : IsStored c.free_slot.new.w c.name_slot.new.w c.admit.new.w c.reserve.new.trail c.in_ok-slot.slot c.args.id c.args.clause c.admit.ensures.holds.0 = record {
      settled = c.free_slot.ensures.settled;
      waiting = c.in_ok-slot.ensures.waiting;
      fresh = c.free_slot.ensures.kept c.args.id ∙ (c.reserve.ensures.kept c.args.id ∙ c.requires.fresh);
      named = c.in_ok-name.ensures.named;
      ids = c.in_ok-name.ensures.ids;
      kinds = c.name_slot.ensures.kinds;
      clauses = c.name_slot.ensures.clauses;
      live = held_live c.admit.ensures.holds.0 c.admit.ensures.holds.1.0;
      holds = c.admit.ensures.holds.1.1;
    } in
    stored_settled c.free_slot.new.w c.name_slot.new.w c.admit.new.w c.reserve.new.trail c.admit.new.t c.in_ok-slot.slot c.args.id c.args.clause c.admit.ensures.holds.0 u c.admit.ensures.placed

pub returns-clause-kept : goal.returns-clause-kept
returns-clause-kept c =
    let u : IsStored c.free_slot.new.w c.name_slot.new.w c.admit.new.w c.reserve.new.trail c.in_ok-slot.slot c.args.id c.args.clause c.admit.ensures.holds.0 = record {
      settled = c.free_slot.ensures.settled;
      waiting = c.in_ok-slot.ensures.waiting;
      fresh = c.free_slot.ensures.kept c.args.id ∙ (c.reserve.ensures.kept c.args.id ∙ c.requires.fresh);
      named = c.in_ok-name.ensures.named;
      ids = c.in_ok-name.ensures.ids;
      kinds = c.name_slot.ensures.kinds;
      clauses = c.name_slot.ensures.clauses;
      live = held_live c.admit.ensures.holds.0 c.admit.ensures.holds.1.0;
      holds = c.admit.ensures.holds.1.1;
    } in
    stored_kept c.free_slot.new.w c.name_slot.new.w c.admit.new.w c.reserve.new.trail c.in_ok-slot.slot c.args.id c.args.clause c.admit.ensures.holds.0 u

pub returns-clause-held : goal.returns-clause-held
returns-clause-held c =
    let u : IsStored c.free_slot.new.w c.name_slot.new.w c.admit.new.w c.reserve.new.trail c.in_ok-slot.slot c.args.id c.args.clause c.admit.ensures.holds.0 = record {
      settled = c.free_slot.ensures.settled;
      waiting = c.in_ok-slot.ensures.waiting;
      fresh = c.free_slot.ensures.kept c.args.id ∙ (c.reserve.ensures.kept c.args.id ∙ c.requires.fresh);
      named = c.in_ok-name.ensures.named;
      ids = c.in_ok-name.ensures.ids;
      kinds = c.name_slot.ensures.kinds;
      clauses = c.name_slot.ensures.clauses;
      live = held_live c.admit.ensures.holds.0 c.admit.ensures.holds.1.0;
      holds = c.admit.ensures.holds.1.1;
    } in
    stored_held c.free_slot.new.w c.name_slot.new.w c.admit.new.w c.reserve.new.trail c.in_ok-slot.slot c.args.id c.args.clause c.admit.ensures.holds.0 true u c.admit.ensures.holds.1.0

pub returns-clause-others : goal.returns-clause-others
returns-clause-others c =
    let u : IsStored c.free_slot.new.w c.name_slot.new.w c.admit.new.w c.reserve.new.trail c.in_ok-slot.slot c.args.id c.args.clause c.admit.ensures.holds.0 = record {
      settled = c.free_slot.ensures.settled;
      waiting = c.in_ok-slot.ensures.waiting;
      fresh = c.free_slot.ensures.kept c.args.id ∙ (c.reserve.ensures.kept c.args.id ∙ c.requires.fresh);
      named = c.in_ok-name.ensures.named;
      ids = c.in_ok-name.ensures.ids;
      kinds = c.name_slot.ensures.kinds;
      clauses = c.name_slot.ensures.clauses;
      live = held_live c.admit.ensures.holds.0 c.admit.ensures.holds.1.0;
      holds = c.admit.ensures.holds.1.1;
    } in
    λ q ne. (stored_others c.free_slot.new.w c.name_slot.new.w c.admit.new.w c.reserve.new.trail c.in_ok-slot.slot c.args.id c.args.clause c.admit.ensures.holds.0 q u ne).0 ∙ (c.free_slot.ensures.kept q ∙ c.reserve.ensures.kept q)

pub returns-clause-others_held : goal.returns-clause-others_held
returns-clause-others_held c =
    let u : IsStored c.free_slot.new.w c.name_slot.new.w c.admit.new.w c.reserve.new.trail c.in_ok-slot.slot c.args.id c.args.clause c.admit.ensures.holds.0 = record {
      settled = c.free_slot.ensures.settled;
      waiting = c.in_ok-slot.ensures.waiting;
      fresh = c.free_slot.ensures.kept c.args.id ∙ (c.reserve.ensures.kept c.args.id ∙ c.requires.fresh);
      named = c.in_ok-name.ensures.named;
      ids = c.in_ok-name.ensures.ids;
      kinds = c.name_slot.ensures.kinds;
      clauses = c.name_slot.ensures.clauses;
      live = held_live c.admit.ensures.holds.0 c.admit.ensures.holds.1.0;
      holds = c.admit.ensures.holds.1.1;
    } in
    λ q ne. (stored_others c.free_slot.new.w c.name_slot.new.w c.admit.new.w c.reserve.new.trail c.in_ok-slot.slot c.args.id c.args.clause c.admit.ensures.holds.0 q u ne).1 ∙ (c.free_slot.ensures.held q ∙ c.reserve.ensures.held q)

pub returns-clause-literals : goal.returns-clause-literals
returns-clause-literals c = rw (c.reserve.ensures.literals, c.reserve.ensures.level, c.in_ok-name.ensures.name) at c.admit.ensures.literals

pub returns-clause-known : goal.returns-clause-known
returns-clause-known c = λ l h.
    let below : code_of l < 2 * c.bound_of-bound.result = c.bound_of-bound.ensures.below (code_of l) (rw c.literals.ensures (has_from c.args.clause l h)) in
    omega (arith, below, c.in_ok-reserve.ensures.rows, c.admit.ensures.rows)

pub returns-clause-propagated : goal.returns-clause-propagated
returns-clause-propagated c = λ r p.
    let now : IsPropagated c.reserve.new.self c.reserve.new.trail = c.reserve.ensures.propagated p in
    c.admit.ensures.propagated (rw (c.reserve.ensures.literals, c.reserve.ensures.level) r) (now.0, c.name_slot.ensures.calm ∙ (c.free_slot.ensures.calm ∙ now.1))
