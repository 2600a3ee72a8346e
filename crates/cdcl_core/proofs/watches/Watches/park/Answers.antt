use Rattle.std.proofs.Common.{set, sym, ap, ◌∙◌}
use Rattle.cdcl_core.specs.declared.watches.Watches.{Watches}
use Rattle.cdcl_core.specs.declared.watches.Kind.TheVariants.{Parked}
use Rattle.cdcl_core.proofs.Apart.{parked_not_free, parked_not_watched, parked_not_fixed}
use Rattle.cdcl_core.proofs.Held.{not_held}
use Rattle.cdcl_core.proofs.Parking.{IsTurned, none_kept, turned_settled, turned_kept, turned_held, turned_others}
use Rattle.cdcl_core.proofs.watches.Watches.park.Goals as goal

pub returns-in_default-clause-parked : goal.returns-in_default-clause-parked
returns-in_default-clause-parked c = not_held c.args.self.now c.args.id (none_kept c.args.self.now c.args.id (sym c.in_default.ensures))

pub returns-clause-settled : goal.returns-clause-settled
returns-clause-settled c =
    let u : IsTurned c.args.self.now c.set_kind.new.w c.args.trail.now c.in-Some.slot c.args.id Parked = record {
      settled = c.requires.settled;
      level = c.requires.level;
      found = sym c.in-Some.ensures;
      live = parked_not_free;
      unwatched = parked_not_watched;
      value = λ e. absurd (parked_not_fixed e);
      cleared = rw (ap (λ (x : Watches). x.lists) c.set_kind.ensures.same) c.clear.ensures.cleared;
      kinds = c.set_kind.ensures.kinds ∙ ap (λ (x : Watches). set x.kinds.items c.in-Some.slot Parked) c.clear.ensures.same;
      clauses = ap (λ (x : Watches). x.clauses) c.set_kind.ensures.same ∙ ap (λ (x : Watches). x.clauses) c.clear.ensures.same;
      ids = ap (λ (x : Watches). x.ids) c.set_kind.ensures.same ∙ ap (λ (x : Watches). x.ids) c.clear.ensures.same;
      slots = ap (λ (x : Watches). x.slots) c.set_kind.ensures.same ∙ ap (λ (x : Watches). x.slots) c.clear.ensures.same;
      calm = ap (λ (x : Watches). x.refuted) c.set_kind.ensures.same ∙ ap (λ (x : Watches). x.refuted) c.clear.ensures.same;
    } in
    turned_settled c.args.self.now c.set_kind.new.w c.args.trail.now c.in-Some.slot c.args.id Parked u

pub returns-clause-parked : goal.returns-clause-parked
returns-clause-parked c =
    let u : IsTurned c.args.self.now c.set_kind.new.w c.args.trail.now c.in-Some.slot c.args.id Parked = record {
      settled = c.requires.settled;
      level = c.requires.level;
      found = sym c.in-Some.ensures;
      live = parked_not_free;
      unwatched = parked_not_watched;
      value = λ e. absurd (parked_not_fixed e);
      cleared = rw (ap (λ (x : Watches). x.lists) c.set_kind.ensures.same) c.clear.ensures.cleared;
      kinds = c.set_kind.ensures.kinds ∙ ap (λ (x : Watches). set x.kinds.items c.in-Some.slot Parked) c.clear.ensures.same;
      clauses = ap (λ (x : Watches). x.clauses) c.set_kind.ensures.same ∙ ap (λ (x : Watches). x.clauses) c.clear.ensures.same;
      ids = ap (λ (x : Watches). x.ids) c.set_kind.ensures.same ∙ ap (λ (x : Watches). x.ids) c.clear.ensures.same;
      slots = ap (λ (x : Watches). x.slots) c.set_kind.ensures.same ∙ ap (λ (x : Watches). x.slots) c.clear.ensures.same;
      calm = ap (λ (x : Watches). x.refuted) c.set_kind.ensures.same ∙ ap (λ (x : Watches). x.refuted) c.clear.ensures.same;
    } in
    turned_held c.args.self.now c.set_kind.new.w c.args.trail.now c.in-Some.slot c.args.id Parked u

pub returns-clause-kept : goal.returns-clause-kept
returns-clause-kept c =
    let u : IsTurned c.args.self.now c.set_kind.new.w c.args.trail.now c.in-Some.slot c.args.id Parked = record {
      settled = c.requires.settled;
      level = c.requires.level;
      found = sym c.in-Some.ensures;
      live = parked_not_free;
      unwatched = parked_not_watched;
      value = λ e. absurd (parked_not_fixed e);
      cleared = rw (ap (λ (x : Watches). x.lists) c.set_kind.ensures.same) c.clear.ensures.cleared;
      kinds = c.set_kind.ensures.kinds ∙ ap (λ (x : Watches). set x.kinds.items c.in-Some.slot Parked) c.clear.ensures.same;
      clauses = ap (λ (x : Watches). x.clauses) c.set_kind.ensures.same ∙ ap (λ (x : Watches). x.clauses) c.clear.ensures.same;
      ids = ap (λ (x : Watches). x.ids) c.set_kind.ensures.same ∙ ap (λ (x : Watches). x.ids) c.clear.ensures.same;
      slots = ap (λ (x : Watches). x.slots) c.set_kind.ensures.same ∙ ap (λ (x : Watches). x.slots) c.clear.ensures.same;
      calm = ap (λ (x : Watches). x.refuted) c.set_kind.ensures.same ∙ ap (λ (x : Watches). x.refuted) c.clear.ensures.same;
    } in
    λ q. turned_kept c.args.self.now c.set_kind.new.w c.args.trail.now c.in-Some.slot c.args.id Parked q u

pub returns-clause-others : goal.returns-clause-others
returns-clause-others c =
    let u : IsTurned c.args.self.now c.set_kind.new.w c.args.trail.now c.in-Some.slot c.args.id Parked = record {
      settled = c.requires.settled;
      level = c.requires.level;
      found = sym c.in-Some.ensures;
      live = parked_not_free;
      unwatched = parked_not_watched;
      value = λ e. absurd (parked_not_fixed e);
      cleared = rw (ap (λ (x : Watches). x.lists) c.set_kind.ensures.same) c.clear.ensures.cleared;
      kinds = c.set_kind.ensures.kinds ∙ ap (λ (x : Watches). set x.kinds.items c.in-Some.slot Parked) c.clear.ensures.same;
      clauses = ap (λ (x : Watches). x.clauses) c.set_kind.ensures.same ∙ ap (λ (x : Watches). x.clauses) c.clear.ensures.same;
      ids = ap (λ (x : Watches). x.ids) c.set_kind.ensures.same ∙ ap (λ (x : Watches). x.ids) c.clear.ensures.same;
      slots = ap (λ (x : Watches). x.slots) c.set_kind.ensures.same ∙ ap (λ (x : Watches). x.slots) c.clear.ensures.same;
      calm = ap (λ (x : Watches). x.refuted) c.set_kind.ensures.same ∙ ap (λ (x : Watches). x.refuted) c.clear.ensures.same;
    } in
    λ q ne. turned_others c.args.self.now c.set_kind.new.w c.args.trail.now c.in-Some.slot c.args.id Parked q u ne

pub returns-clause-propagated : goal.returns-clause-propagated
returns-clause-propagated c = λ p. (p.0, ap (λ (x : Watches). x.refuted) c.set_kind.ensures.same ∙ (ap (λ (x : Watches). x.refuted) c.clear.ensures.same ∙ p.1))
